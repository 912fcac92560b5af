-- `first::firsts` meets its contract: the sets hold only what is in FIRST, and what is missing from them falls. Assumes nothing.
use Rattle.std.proofs.Common.{subst, replicate}
use Rattle.definitions.specs.Sheet.{P}
use Rattle.grammar.specs.First.{empty, Turn}
use Rattle.grammar.specs.Turns.{zeros, sound_none, firsts_found}
use Rattle.grammar.proofs.first.firsts.Goals as goal

pub loop-rounds-init : goal.loop-rounds-init
loop-rounds-init c = sound_none _ (replicate 64 empty) (zeros 64)

pub invariant_of-result-clause-firsts : goal.invariant_of-result-clause-firsts
invariant_of-result-clause-firsts c =
    let g = c.args.grammar.now in
    let t = g.sheet.now in
    ∣ firsts_found _ g.laid c.loop-rounds.sets _ c.loop-rounds.invariant (subst (Turn t 0 (P t) c.loop-rounds.sets c.round.new.sets) c.loop-rounds-test.false c.round.ensures) ∣₁
