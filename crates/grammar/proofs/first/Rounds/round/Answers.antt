-- `first::Rounds::round` meets its contract: the productions before p have been looked at in turn. Assumes nothing.
use Rattle.std.proofs.Common.{◌+◌, subst}
use Rattle.std.proofs.Math.Path.{subst⁻¹}
use Rattle.grammar.specs.First.{Turn}
use Rattle.grammar.specs.Turns.{turn_more, turn_less}
use Rattle.grammar.proofs.first.Rounds.round.Goals as goal
use Rattle.grammar.proofs.first.Rounds.round.Goals.{then-turn, else-turn}

pub loop-p-preserved : goal.loop-p-preserved
loop-p-preserved c =
    let t = c.args.self.now.grammar.now.sheet.now in
    let fs = c.args.sets.now in
    let gs = c.turn.new.sets in
    let p = c.loop-p.p in
    elim c.if-turn.branch [
      | then-turn w ↦ subst⁻¹ (Turn t 0 (p + 1) fs gs) w.more-is
          (turn_more t 0 p (p + 1) fs _ gs _ c.loop-p.invariant (subst (Turn t p (p + 1) c.loop-p.sets gs) w.if-turn.true c.turn.ensures))
      | else-turn w ↦ subst⁻¹ (Turn t 0 (p + 1) fs gs) w.more-is
          (turn_less t 0 p (p + 1) fs _ gs _ c.loop-p.invariant (subst (Turn t p (p + 1) c.loop-p.sets gs) w.if-turn.false c.turn.ensures))
    ]
