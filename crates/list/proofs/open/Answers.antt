-- `list::open` meets its contract: the children are passed from the last back. Assumes nothing.
use mathlib.Core.Path.{◌≡◌, ◌∙◌, subst}
use mathlib.Core.List.{List}
use Prim.Native.Nat.{ℕ, suc, ◌+◌, ◌-◌}
use lib.ListN.{length, take}
use Rattle.std.proofs.lemmas.Option.{MatchOption-at_some}
use native.Mathlib.Omega.{arith}
use Rattle.definitions.specs.Tree.{Row}
use Rattle.tree.specs.Rows.{size_at}
use Rattle.list.specs.Pieces.{root}
use Rattle.list.specs.Opening.{Opens, Opening, opens, opened, Child, child, goes, unmoved, keeps_elsewhere}
use Rattle.list.specs.Pending.{pending_toks}
use Rattle.list.specs.Lent.{first_long, pending_whole, opens_first, first_back, elsewhere_back}
use borrow.Author.Rules.{rules}
use Rattle.list.proofs.open.Goals as goal
use Rattle.list.proofs.open.Goals.{In-loop-pos, After-loop-pos}

-- the words that are lent on
first : (c : In-loop-pos) → c.unwrap-room.result.now ≡ take 16384 c.args.room.now
first c = (MatchOption-at_some _ _ _ c.unwrap-room.ensures c.first_chunk_mut.ensures.cases).same

long : (c : In-loop-pos) → length c.unwrap-room.result.now ≡ 16384
long c = first_long c.args.room.now (first c) c.requires.0

-- the child that ends where the children still to be put on the list do
one : (c : In-loop-pos) (t put : List ℕ) (g : Row) → let a = c.args in let l = c.loop-pos in
    Opens t a.old.now put c.unwrap-room.result.now a.v a.m g → Child t a.old.now put l.room (a.v + 1 - c.size_at.result) l.pos l.k g
one c t put g O =
    let x = c.requires in
    let i = c.loop-pos.invariant in
    child (i.3 t put g O) c.loop-pos-test.true x.1.0.1 (omega (arith, i.2.long, long c))

witness : (c : In-loop-pos) → let a = c.args in let x = c.requires.2 in let l = c.loop-pos in
    Child x.0 a.old.now x.1 l.room (a.v + 1 - c.size_at.result) l.pos l.k x.2
witness c = let x = c.requires.2 in one c x.0 x.1 x.2 (opens_first c.args.room.now (first c) c.requires.1.0.1 x.3)

pub overflow_sub-start : goal.overflow_sub-start
overflow_sub-start c = let x = c.requires in omega (arith, (opens x.2.3).0, c.size_at.ensures.0)

pub loop-pos-init : goal.loop-pos-init
loop-pos-init c =
    let x = c.requires in
    let a = c.args in
    let s : suc a.v - size_at a.old.now a.v ≡ a.v + 1 - c.size_at.result = omega (arith, c.size_at.ensures.0) in (
      omega (arith, (opens x.2.3).1.at),
      search rules,
      unmoved _,
      λ t put g O. subst (λ (n : ℕ). Opening t a.old.now put c.unwrap-room.result.now n a.v a.m g) s (opens O).1,
    )

pub overflow_sub-from : goal.overflow_sub-from
overflow_sub-from c = let x = witness (goal.at.overflow_sub-from c).In-loop-pos in omega (arith, x.below, c.size_at-in-loop-pos.ensures.0)

pub keep_child-k-requires : goal.keep_child-k-requires
keep_child-k-requires c =
    let x = c.requires in
    let w = witness (goal.at.keep_child-k-requires c).In-loop-pos in
    let s = c.size_at-in-loop-pos.ensures.0 in
    let i = c.loop-pos.invariant in
    (omega (arith, w.some), omega (arith, (root x.2.3.whole).within, x.1.0), rw s (λ h. (w.with h).0))

pub loop-pos-smaller : goal.loop-pos-smaller
loop-pos-smaller c = let w = witness (goal.at.loop-pos-smaller c).In-loop-pos in omega (arith, w.some, w.below, c.size_at-in-loop-pos.ensures.0)

pub loop-pos-preserved : goal.loop-pos-preserved
loop-pos-preserved c =
    let w = witness (goal.at.loop-pos-preserved c).In-loop-pos in
    let s = c.size_at-in-loop-pos.ensures.0 in
    let i = c.loop-pos.invariant in
    let k = c.keep_child-k.ensures in (
      omega (arith, w.back),
      omega arith,
      keeps_elsewhere (rw s (λ h. (w.with h).0)) k i.2,
      λ t put g O. rw s (goes (one (goal.at.loop-pos-preserved c).In-loop-pos t put g O) (rw s at k)),
    )

-- the same at the end
back : (c : After-loop-pos) → (c.unwrap-room.result.now ≡ take 16384 c.args.room.now) × (length c.loop-pos.room ≡ 16384)
back c =
    let e = (MatchOption-at_some _ _ _ c.unwrap-room.ensures c.first_chunk_mut.ensures.cases).same in
    (e, c.loop-pos.invariant.2.long ∙ first_long c.args.room.now e c.requires.0)

pub returns-clause-by_index : goal.returns-clause-by_index
returns-clause-by_index c t put g O =
    let l = c.loop-pos in
    let a = c.args in
    let b = back (goal.at.returns-clause-by_index c).After-loop-pos in
    let e : l.pos ≡ a.v + 1 - c.size_at.result = omega (arith, l.invariant.0) in
    let P = opened (subst (λ (n : ℕ). Opening t a.old.now put l.room (a.v + 1 - c.size_at.result) n l.k g) e (l.invariant.3 t put g (opens_first a.room.now b.0 c.requires.1.0.1 O))) in
    pending_whole _ (first_back _ a.room.now b.1) (omega (arith, pending_toks P, O.small)) P

pub returns-clause-elsewhere : goal.returns-clause-elsewhere
returns-clause-elsewhere c =
    let b = back (goal.at.returns-clause-elsewhere c).After-loop-pos in
    elsewhere_back _ c.args.room.now b.1 b.0 c.requires.0 c.loop-pos.invariant.2
