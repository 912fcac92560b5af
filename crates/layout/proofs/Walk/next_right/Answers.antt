-- The next item stands ten bytes on.
use Rattle.std.proofs.Common.{arith, refl, ◌+◌}
use Rattle.theory.specs.Check.Says.{says_as}
use Rattle.layout.proofs.Laws.{stopped}
use Rattle.layout.proofs.Walk.next_right.Goals as goal

pub returns-then-item_right : goal.returns-then-item_right
returns-then-item_right c s e =
    let i = c.args.i in
    let x = c.item_right.ensures s (i + 1) (omega arith) in
    says_as (c.rises.ensures s i (omega arith)) (λ h. (x.to c.if-item_right.true, h)) (λ h. h.1)

pub returns-else-item_right : goal.returns-else-item_right
returns-else-item_right c s e = stopped (c.item_right.ensures s (c.args.i + 1) (omega arith)) c.if-item_right.false refl
