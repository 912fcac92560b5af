-- `blenkysnow::text_right` meets its contract: the first number, the length and each code are tested. Assumes nothing.
use Rattle.std.proofs.Common.{arith}
use Rattle.theory.specs.Check.Says.{says_as}
use Rattle.blenkysnow.specs.Text.{in_order, knowns}
use Rattle.blenkysnow.proofs.text_right.Goals as goal

pub returns-then-few : goal.returns-then-few
returns-then-few c = let p = c.if-few.true in says_as c.codes_known.ensures (in_order _ _ _ (omega (arith, p.0)) (omega (arith, p.1))) (knowns _ _ _)
