-- Entry after entry is weighed.
use Rattle.std.proofs.Common.{◌≡◌, List, ℕ, ◌+◌, ◌-◌, ◌≤◌, ◌∙◌, ap, length, take, drop, get_or-take, get_or-drop, length-take-le, length-drop, arith, rules}
use Rattle.std.specs.Slice.Iter.{iter_rest}
use Rattle.std.specs.Iterator.Adapters.{rev_source}
use Rattle.list.specs.Pending.{list_at}
use Rattle.list.specs.Weigh.{off_end, all_weighed, none_weighed, few_left, end_weighed, end_off}
use Rattle.list.proofs.tokens_left.Goals as goal
use Rattle.list.proofs.tokens_left.Goals.{Start, In-Some}

few : (c : Start) → c.args.m ≤ 2048
few c = let x = c.requires.1 in omega (arith, few_left (all_weighed x.3))

-- the words not yet weighed, with this one and without it
module _ (c : In-Some) where
  abbrev left : List ℕ
  left = iter_rest (rev_source c.loop-entry.entry-iterator)

  abbrev rest : List ℕ
  rest = iter_rest (rev_source c.next.new.self)

pub overflow_add-m : goal.overflow_add-m
overflow_add-m c = let n = few (goal.at.overflow_add-m c).Start in search rules

pub slice_bounds-iter-end : goal.slice_bounds-iter-end
slice_bounds-iter-end c = let n = few (goal.at.slice_bounds-iter-end c).Start in let l = c.told-room in omega arith

pub loop-entry-init : goal.loop-entry-init
loop-entry-init c =
    let r = c.args.room.now in
    let n = few (goal.at.loop-entry-init c).Start in
    let l = c.told-room in
    let k : 8193 + c.args.m - 8193 ≡ c.args.m = omega arith in
    let e : iter_rest (rev_source c.into_iter-entry-iterator.result) ≡ take c.args.m (drop list_at r) =
    ap (λ s. iter_rest (rev_source s)) c.into_iter-entry-iterator.ensures.into_iter_gives ∙ ap iter_rest c.rev-entry-items.ensures.source
    ∙ c.iter.ensures.rest ∙ ap (λ i. take i (drop list_at r)) k in
    let z : length (take c.args.m (drop list_at r)) ≡ c.args.m = length-take-le c.args.m (drop list_at r) (omega (arith, length-drop list_at r)) in
    rw (e, z) (
      λ i h. get_or-take c.args.m (drop list_at r) i 0 h ∙ get_or-drop list_at r i 0,
      omega arith,
      λ t put f C. all_weighed C,
    )

pub tokens_of-total-requires : goal.tokens_of-total-requires
tokens_of-total-requires c =
    let x = c.requires.1 in
    let i = c.loop-entry.invariant in
    let s = (goal.at.tokens_of-total-requires c).In-Some in
    let W = i.2 x.0 x.1 x.2 x.3 in
    (c.requires.0, (x.0, x.1, length (rest s), W.rest, end_weighed (left s) (rest s) c.in-Some.entry.now i.0 c.in-Some.ensures.steps W))

pub loop-entry-preserved : goal.loop-entry-preserved
loop-entry-preserved c =
    let i = c.loop-entry.invariant in
    let s = (goal.at.loop-entry-preserved c).In-Some in
    let e = c.in-Some.ensures.steps in
    let o = off_end c.args.room.now (left s) (rest s) c.in-Some.entry.now i.0 e in (
      o.2,
      omega (arith, o.0, i.1),
      λ t put f C.
          let W = i.2 t put f C in
          end_off (left s) (rest s) c.in-Some.entry.now i.0 e W
          (c.tokens_of-total.ensures.by_index t put (length (rest s)) W.rest (end_weighed (left s) (rest s) c.in-Some.entry.now i.0 e W)),
    )

pub returns : goal.returns
returns c t put f C = none_weighed c.in-None.ensures.steps.0 (c.loop-entry.invariant.2 t put f C)
