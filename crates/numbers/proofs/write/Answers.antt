-- `numbers::write` meets its contract. The loop's invariant: after j turns the first j records stand in the tree, and `at` is the next number. Assumes nothing.
use mathlib.Core.Path.{◌≡◌, refl, ◌∙◌}
use Prim.Native.Nat.{◌+◌, ◌<◌}
use native.Mathlib.Omega.{arith}
use lib.ListN.{set, length-set}
use Rattle.numbers.specs.Records.{front, number_of}
use Rattle.numbers.specs.Write.{is_new, news, news-none, news-more, news_le, row_more, sofar-none}
use Rattle.numbers.specs.Kept.{kept_new, kept_chosen}
use Rattle.numbers.proofs.write.Goals as goal
use Rattle.numbers.proofs.write.Goals.{After-from-at}

-- a new number is taken where none is kept
new : (c : After-from-at) → c.from-at.result ≡ is_new (number_of (front c.args.room.now) c.loop-j.j)
new c = c.from-at.ensures ∙ kept_new c.is_none.result _ (rw c.kept-number.ensures at c.is_none.ensures)

-- the next number after record j
raised : (c : After-from-at) → let a = c.args in let l = c.loop-j in (l.at + c.from-at.result ≡ a.next + news (front a.room.now) (l.j + 1)) × (l.at + c.from-at.result < 4294967296)
raised c =
    let a = c.args in
    let l = c.loop-j in
    let R = front a.room.now in
    let e : l.at + c.from-at.result ≡ a.next + news R (l.j + 1) = omega (arith, l.invariant.2, news-more R l.j, new c) in
    (e, omega (arith, news_le R (l.j + 1) a.n (omega (arith, c.loop-j-test.true)), c.requires.2, c.requires.3))

pub loop-j-init : goal.loop-j-init
loop-j-init c =
    let a = c.args in
    let R = front a.room.now in
    (refl, simp length-set (omega arith), omega (arith, news-none R), sofar-none a.next R (set (set a.tree.now 0 a.n) 1 (a.next + a.new)))

pub overflow_add-at : goal.overflow_add-at
overflow_add-at c = omega (arith, (raised c).1)

pub loop-j-preserved : goal.loop-j-preserved
loop-j-preserved c =
    let a = c.args in
    let l = c.loop-j in
    let R = front a.room.now in
    let t = set (set a.tree.now 0 a.n) 1 (a.next + a.new) in
    let k = c.put_record.auto.tree in (
      k ∙ l.invariant.0,
      omega (arith, k, l.invariant.1),
      (raised c).0,
      c.put_record.ensures ∙ rw (l.invariant.3, c.unwrap_or.ensures, c.kept-number.ensures, kept_chosen, l.invariant.2) (row_more a.next R t l.j (rw (← l.invariant.0) (omega (arith, l.invariant.1, c.loop-j-test.true, c.requires.1)))),
    )
