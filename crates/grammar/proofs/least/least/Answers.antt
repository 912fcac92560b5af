-- `least::least` meets its contract: every bit is witnessed, and a larger set is a larger number. Assumes nothing.
use Rattle.std.proofs.Common.{◌∙◌, sym, arith, eqb-true}
use Rattle.std.proofs.lemmas.Bool.{eqb-false}
use Rattle.grammar.specs.Least.{found}
use Rattle.grammar.specs.Sets.{within_less}
use Rattle.grammar.proofs.least.least.Goals as goal

pub returns-then-eq : goal.returns-then-eq
returns-then-eq c =
    found _ _ _ c.round-next.result.bits c.round-next.ensures (eqb-true _ _ (sym c.eq.ensures ∙ c.if-eq.true)) c.loop-next.invariant

pub loop-next-smaller : goal.loop-next-smaller
loop-next-smaller c =
    omega (arith, within_less _ _ c.round-next.ensures.grows (eqb-false _ _ (sym c.eq.ensures ∙ c.if-eq.false)), c.round-next.type_inv)
