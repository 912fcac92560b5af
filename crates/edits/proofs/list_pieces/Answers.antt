-- `edits::list_pieces` meets its contract. The loop's invariant is `Going`, of every case of which it held at first, and that only the list is
-- written. The measure is the records left. Assumes nothing.
use mathlib.Core.Path.{◌≡◌, refl, ap}
use Prim.Native.Nat.{ℕ, ◌+◌, ◌*◌, ◌-◌, ◌≤◌, ◌<◌}
use native.Mathlib.Omega.{arith}
use lib.ListN.{length, get_or}
use borrow.Author.Rules.{rules}
use Rattle.theory.specs.Check.Says.{refused}
use Rattle.list.specs.Pending.{tokens_at}
use Rattle.list.specs.Opening.{Elsewhere, pushes}
use Rattle.edits.specs.Going.{Case, Going, few_tokens, going_end}
use Rattle.edits.specs.Stepping.{then, Sized, sized, Last, last-piece, some-tokens, step-none, push_clean, room-clean, step-clean, room_gone, step_gone, step-broken}
use Rattle.edits.proofs.list_pieces.Goals as goal
use Rattle.edits.proofs.list_pieces.Goals.{After-size_at, Else-a-b, In-loop-pos}

-- what the caller's case says where the loop stands, and of the last record
going : (c : In-loop-pos) → Going c.requires.1.0 c.loop-pos.room c.loop-pos.pos c.loop-pos.k
going c = let g = c.requires.1 in c.loop-pos.invariant.1 g.0 g.1

sizes : (c : In-loop-pos) → Sized c.args.old.now c.loop-pos.pos
sizes c = sized (going c) c.loop-pos-test.true

-- the counts of tokens before the last piece and up to its end; the last piece, once its size is read
module _ (c : After-size_at) where
  abbrev before : ℕ
  before = get_or c.loop-pos.room (tokens_at + (c.loop-pos.pos - c.size_at.result)) 0

  abbrev upto : ℕ
  upto = get_or c.loop-pos.room (tokens_at + c.loop-pos.pos) 0

  piece : (C : Case c.args.old.now) → Going C c.args.room.now c.args.n c.args.m
      → Last C c.loop-pos.room c.loop-pos.pos c.loop-pos.k (c.loop-pos.pos - c.size_at.result) before upto
  piece C G = last-piece (c.loop-pos.invariant.1 C G) c.loop-pos-test.true (c.loop-pos.pos - c.size_at.result) before upto (ap (c.loop-pos.pos -◌) c.size_at.ensures.0) refl refl

  own : Last c.requires.1.0 c.loop-pos.room c.loop-pos.pos c.loop-pos.k (c.loop-pos.pos - c.size_at.result) before upto
  own = let g = c.requires.1 in piece g.0 g.1

some : (c : Else-a-b) → get_or c.loop-pos.room (tokens_at + (c.loop-pos.pos - c.size_at.result)) 0 < get_or c.loop-pos.room (tokens_at + c.loop-pos.pos) 0
some c =
    let g = c.requires.1 in
    let L : Last g.0 c.loop-pos.room c.loop-pos.pos c.loop-pos.k (c.loop-pos.pos - c.size_at.result)
    (get_or c.loop-pos.room (tokens_at + (c.loop-pos.pos - c.size_at.result)) 0) (get_or c.loop-pos.room (tokens_at + c.loop-pos.pos) 0) =
    last-piece (c.loop-pos.invariant.1 g.0 g.1) c.loop-pos-test.true (c.loop-pos.pos - c.size_at.result) _ _ (ap (c.loop-pos.pos -◌) c.size_at.ensures.0) refl refl in
    let n = c.if-a-b.false in
    omega (arith, some-tokens L)

-- the old row and the room are long enough
long : (c : In-loop-pos) → (c.loop-pos.pos ≤ 2048) × (2 + 3 * c.loop-pos.pos ≤ length c.args.old.now) × (16384 ≤ length c.loop-pos.room)
long c =
    let i = (sizes c).inside in
    let p = c.requires in
    let h = p.0.0 in
    let k = p.0.1 in
    let e = c.loop-pos.invariant.0.long in
    let a = c.told-room in
    (omega arith, omega arith, omega arith)

pub size_at-requires : goal.size_at-requires
size_at-requires c =
    let x = long c in
    let l = x.1 in
    let t = c.loop-pos-test.true in
    omega arith

pub overflow_sub-from : goal.overflow_sub-from
overflow_sub-from c = omega (arith, (sizes (goal.at.overflow_sub-from c).In-loop-pos).below, c.size_at.ensures.0)

-- a piece is some records long
shorter : (c : After-size_at) → c.loop-pos.pos - c.size_at.result < c.loop-pos.pos
shorter c =
    let g = c.requires.1 in
    let x = sized (c.loop-pos.invariant.1 g.0 g.1) c.loop-pos-test.true in
    omega (arith, x.some, x.below, c.size_at.ensures.0)

pub loop-pos-smaller-then-a-b : goal.loop-pos-smaller-then-a-b
loop-pos-smaller-then-a-b c = shorter (goal.at.loop-pos-smaller-then-a-b c).After-size_at

pub loop-pos-smaller-then-clean : goal.loop-pos-smaller-then-clean
loop-pos-smaller-then-clean c = shorter (goal.at.loop-pos-smaller-then-clean c).After-size_at

pub loop-pos-smaller-then-kind_at-lt256 : goal.loop-pos-smaller-then-kind_at-lt256
loop-pos-smaller-then-kind_at-lt256 c = shorter (goal.at.loop-pos-smaller-then-kind_at-lt256 c).After-size_at

pub overflow_add-a : goal.overflow_add-a
overflow_add-a c =
    let x = long (goal.at.overflow_add-a c).In-loop-pos in
    let l = x.0 in
    search rules

pub offset_bounds-room-from : goal.offset_bounds-room-from
offset_bounds-room-from c =
    let x = long (goal.at.offset_bounds-room-from c).In-loop-pos in
    let l = x.0 in
    search rules

pub bounds-room-from : goal.bounds-room-from
bounds-room-from c =
    let x = long (goal.at.bounds-room-from c).In-loop-pos in
    let l = x.0 in
    let k = x.2 in
    omega arith

pub overflow_add-b : goal.overflow_add-b
overflow_add-b c =
    let x = long (goal.at.overflow_add-b c).In-loop-pos in
    let l = x.0 in
    search rules

pub offset_bounds-room-pos : goal.offset_bounds-room-pos
offset_bounds-room-pos c =
    let x = long (goal.at.offset_bounds-room-pos c).In-loop-pos in
    let l = x.0 in
    search rules

pub bounds-room-pos : goal.bounds-room-pos
bounds-room-pos c =
    let x = long (goal.at.bounds-room-pos c).In-loop-pos in
    let l = x.0 in
    let k = x.2 in
    omega arith

pub loop-pos-preserved-then-a-b : goal.loop-pos-preserved-then-a-b
loop-pos-preserved-then-a-b c =
    (c.loop-pos.invariant.0, λ C G. step-none (piece (goal.at.loop-pos-preserved-then-a-b c).After-size_at C G) c.if-a-b.true)

pub clean-requires : goal.clean-requires
clean-requires c =
    let n = few_tokens c.requires.1.0 in
    let L = own (goal.at.clean-requires c).After-size_at in
    (some (goal.at.clean-requires c).Else-a-b, omega (arith, L.within))

pub overflow_cast-pos : goal.overflow_cast-pos
overflow_cast-pos c =
    let x = long (goal.at.overflow_cast-pos c).In-loop-pos in
    let l = x.0 in
    search rules

pub push-requires : goal.push-requires
push-requires c =
    push_clean (own (goal.at.push-requires c).After-size_at) (some (goal.at.push-requires c).Else-a-b) (c.clean.ensures.to c.if-clean.true)

pub overflow_add-k : goal.overflow_add-k
overflow_add-k c =
    let h = push_clean (own (goal.at.overflow_add-k c).After-size_at) (some (goal.at.overflow_add-k c).Else-a-b) (c.clean.ensures.to c.if-clean.true) in
    search rules

pub push_before-k-requires : goal.push_before-k-requires
push_before-k-requires c =
    let n = few_tokens c.requires.1.0 in
    let L = own (goal.at.push_before-k-requires c).After-size_at in
    (omega (arith, L.within, some (goal.at.push_before-k-requires c).Else-a-b), room-clean L (some (goal.at.push_before-k-requires c).Else-a-b) (c.clean.ensures.to c.if-clean.true) c.push.new.room c.push.ensures)

pub loop-pos-preserved-then-clean : goal.loop-pos-preserved-then-clean
loop-pos-preserved-then-clean c =
    let B = c.clean.ensures.to c.if-clean.true in
    let E : Elsewhere c.args.room.now c.push.new.room = rw c.push.ensures (pushes c.loop-pos.k (c.loop-pos.pos - 1) (push_clean (own (goal.at.loop-pos-preserved-then-clean c).After-size_at) (some (goal.at.loop-pos-preserved-then-clean c).Else-a-b) B) c.loop-pos.invariant.0) in (
      then E c.push_before-k.ensures.elsewhere,
      λ C G. step-clean (piece (goal.at.loop-pos-preserved-then-clean c).After-size_at C G) (some (goal.at.loop-pos-preserved-then-clean c).Else-a-b) B c.push.new.room c.push.ensures c.requires.0.0.1 (long (goal.at.loop-pos-preserved-then-clean c).In-loop-pos).2 c.push_before-k.ensures,
    )

pub kind_at-requires : goal.kind_at-requires
kind_at-requires c =
    let x = long (goal.at.kind_at-requires c).In-loop-pos in
    let l = x.1 in
    let t = c.loop-pos-test.true in
    omega arith

pub push_before-k-requires-then-kind_at-lt256 : goal.push_before-k-requires-then-kind_at-lt256
push_before-k-requires-then-kind_at-lt256 c =
    let n = few_tokens c.requires.1.0 in
    let L = own (goal.at.push_before-k-requires-then-kind_at-lt256 c).After-size_at in
    let k = c.kind_at.ensures.0 in
    let h = c.if-kind_at-lt256.true in
    (omega (arith, L.within, some (goal.at.push_before-k-requires-then-kind_at-lt256 c).Else-a-b), room_gone L (some (goal.at.push_before-k-requires-then-kind_at-lt256 c).Else-a-b) (refused c.clean.ensures c.if-clean.false) (omega arith))

pub loop-pos-preserved-then-kind_at-lt256 : goal.loop-pos-preserved-then-kind_at-lt256
loop-pos-preserved-then-kind_at-lt256 c =
    let k = c.kind_at.ensures.0 in
    let h = c.if-kind_at-lt256.true in (
      then c.loop-pos.invariant.0 c.push_before-k-then-kind_at-lt256.ensures.elsewhere,
      λ C G. step_gone (piece (goal.at.loop-pos-preserved-then-kind_at-lt256 c).After-size_at C G) (some (goal.at.loop-pos-preserved-then-kind_at-lt256 c).Else-a-b) (refused c.clean.ensures c.if-clean.false) (omega arith) c.push_before-k-then-kind_at-lt256.ensures,
    )

pub loop-pos-preserved : goal.loop-pos-preserved
loop-pos-preserved c =
    let k = c.kind_at.ensures.0 in
    let h = c.if-kind_at-lt256.false in
    (c.loop-pos.invariant.0, λ C G. step-broken (piece (goal.at.loop-pos-preserved c).After-size_at C G) (some (goal.at.loop-pos-preserved c).Else-a-b) (refused c.clean.ensures c.if-clean.false) (omega arith))

pub returns-clause-pending : goal.returns-clause-pending
returns-clause-pending c C G =
    let h = c.loop-pos-test.false in
    let z : c.loop-pos.pos ≡ 0 = omega arith in
    going_end C (rw z at (c.loop-pos.invariant.1 C G))
