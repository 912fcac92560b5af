-- `edits::list_marked` meets its contract: the last marks, the codes put in at the end, and the pass back. Assumes nothing.
use mathlib.Core.Path.{◌≡◌, sym, ap, subst}
use mathlib.Core.List.{List}
use Prim.Native.Nat.{ℕ, ◌+◌, ◌≤◌}
use native.Mathlib.Omega.{arith}
use lib.ListN.{length, get_or}
use Rattle.list.specs.Pending.{tokens_at}
use Rattle.edits.specs.Going.{Case, many, Going}
use Rattle.edits.specs.Marks.{Marking}
use Rattle.edits.specs.Begin.{case-holds, Ready, all_few, all_clear, list-room, list_begins, listed}
use Rattle.edits.proofs.list_marked.Goals as goal
use Rattle.edits.proofs.list_marked.Goals.{After-mark_to, After-push_codes-k, After-count_at-n}

-- how many old tokens there are
all_is : (w : After-count_at-n) → get_or w.args.room.now (tokens_at + w.count_at-n.result) 0 ≡ get_or w.args.room.now (tokens_at + get_or w.args.old.now 0 0) 0
all_is w = ap (λ (n : ℕ). get_or w.args.room.now (tokens_at + n) 0) w.count_at-n.ensures.0

-- once all marks are written
module _ (e : After-mark_to) where
  total : get_or e.args.room.now (tokens_at + e.count_at-n.result) 0 ≡ get_or e.args.room.now (tokens_at + get_or e.args.old.now 0 0) 0
  total = ap (λ (n : ℕ). get_or e.args.room.now (tokens_at + n) 0) e.count_at-n.ensures.0

  marking : (C : Case e.args.old.now) (r : List ℕ) (Y : Ready C r e.args.room.now (length C.edits) e.args.m)
      → Marking C.edits (many C) Y.base e.mark_to.new.room (length C.edits) e.mark_to.result
  marking C r Y = e.mark_to.ensures.0 C.edits Y.base (many C) (length C.edits) Y.marking (all_clear Y total)

  long : 16384 ≤ length e.mark_to.new.room
  long = omega (arith, e.mark_to.array_long)

-- once the last codes are on the list
begun : (p : After-push_codes-k)
    → ((C : Case p.args.old.now) (r : List ℕ) (Y : Ready C r p.args.room.now (length C.edits) p.args.m) → Marking C.edits (many C) Y.base p.mark_to.new.room (length C.edits) p.mark_to.result)
    → (C : Case p.args.old.now) (r : List ℕ) → C.put ≡ p.args.put.now → Ready C r p.args.room.now (length C.edits) p.args.m
    → Going C p.push_codes-k.new.room p.count_at-n.result p.push_codes-k.result
begun p marking C r z Y =
    subst (λ (n : ℕ). Going C p.push_codes-k.new.room n p.push_codes-k.result) (sym p.count_at-n.ensures.0)
    (list_begins Y (ap (λ (n : ℕ). get_or p.args.room.now (tokens_at + n) 0) p.count_at-n.ensures.0) (marking C r Y) p.mark_to.ensures.1 (rw (← z) at p.push_codes-k.ensures))

pub mark_to-requires : goal.mark_to-requires
mark_to-requires c =
    let C = c.requires.0 in
    let Y = c.requires.3 in
    (C.edits, Y.base, many C, length C.edits, Y.marking, all_clear Y (all_is (goal.at.mark_to-requires c).After-count_at-n))

pub bounds-room-all : goal.bounds-room-all
bounds-room-all c =
    let e = (goal.at.bounds-room-all c).After-mark_to in
    let l = long e in
    let f = all_few c.requires.3 (total e) in
    omega arith

pub push_codes-k-requires : goal.push_codes-k-requires
push_codes-k-requires c =
    let e = (goal.at.push_codes-k-requires c).After-mark_to in
    let p = c.requires in
    rw (← p.2) (list-room p.3 (total e) (marking e p.0 p.1 p.3) c.mark_to.ensures.1)

pub list_pieces-requires : goal.list_pieces-requires
list_pieces-requires c =
    let e = (goal.at.list_pieces-requires c).After-mark_to in
    let p = c.requires in
    (case-holds p.0, (p.0, begun (goal.at.list_pieces-requires c).After-push_codes-k (marking e) p.0 p.1 p.2 p.3))

pub returns : goal.returns
returns c =
    let e = (goal.at.returns c).After-mark_to in
    λ C r z Y. listed Y (total e) (marking e C r Y) e.mark_to.ensures.1 (omega (arith, c.list_pieces.ensures.elsewhere.long, c.push_codes-k.ensures.elsewhere.long))
    c.push_codes-k.ensures.elsewhere c.list_pieces.ensures.elsewhere (c.list_pieces.ensures.pending C (begun (goal.at.returns c).After-push_codes-k (marking e) C r z Y))
