-- The first item is right, and behind each but the last the next one.
use Rattle.std.proofs.Common.{rules, refl, arith}
use Rattle.sheet.specs.Places.{count_at}
use Rattle.layout.proofs.Laws.{says_each, says_items, part_refused}
use Rattle.layout.proofs.Walk.items_right.Goals as goal

pub returns-then-item_right : goal.returns-then-item_right
returns-then-item_right c s e =
    let t = c.args.self.now.t.now in
    let n = count_at t c.args.at s e in
    says_items t s (omega arith) ((c.item_right.ensures s 0 (omega arith)).to c.if-item_right.true)
    (says_each _ refl (omega arith) c.all.ensures.ran (λ k b q d. search rules))

pub returns-else-item_right : goal.returns-else-item_right
returns-else-item_right c s e =
    let n = count_at c.args.self.now.t.now c.args.at s e in
    part_refused (c.item_right.ensures s 0 (omega arith)) c.if-item_right.false (λ h. h.items 0 (omega arith))
