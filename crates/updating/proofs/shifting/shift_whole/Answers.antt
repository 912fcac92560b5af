-- `updating::shifting::shift_whole` meets its contract: what stands up to the last token is copied. Assumes nothing.
use mathlib.Core.Path.{◌≡◌, refl, sym, ap, ◌∙◌, subst}
use mathlib.Core.List.{List}
use lib.ListN.{length, take, length-take}
use Rattle.updating.specs.Records.{Reads}
use Prim.Native.Nat.{ℕ, ◌+◌}
use native.Mathlib.Omega.{arith}
use Rattle.definitions.specs.Table.{table_of}
use Rattle.definitions.specs.Tree.{Row, ∅, nod}
use Rattle.definitions.specs.Reading.{Stack}
use Rattle.definitions.specs.Moves.{standing}
use Rattle.theory.specs.Records.Flat.{flat}
use Rattle.updating.specs.Break.{stands}
use Rattle.updating.specs.Copy.{Copied, front, rooted}
use Rattle.updating.specs.Shift.{Ripe, piece_stands, piece-breaks, copied_piece}
use Rattle.updating.proofs.shifting.shift_whole.Goals as goal
use Rattle.updating.proofs.shifting.shift_whole.Goals.{After-standing_of-m}

-- the records of the run
reads : (c : After-standing_of-m) (σ : Stack) (q : ℕ) (d : Row) → let a = c.args in Ripe (table_of a.t.now) a.run.now a.room.now a.n σ q d
    → Reads (table_of a.t.now) c.as_chunks.result.0.now (flat (nod q d ∅))
reads c σ q d R = subst (λ (nodes : List (List ℕ)). Reads (table_of c.args.t.now) nodes (flat (nod q d ∅))) (sym c.as_chunks.ensures.front) R.reads

-- how many records stand
left : (c : After-standing_of-m) (σ : Stack) (q : ℕ) (d : Row) → let a = c.args in Ripe (table_of a.t.now) a.run.now a.room.now a.n σ q d → c.standing_of-m.result ≡ standing d
left c σ q d R = let s = c.standing_of-m.ensures in stands _ (reads c σ q d R) s.within s.behind s.last ∙ piece_stands q d

pub returns-then-n-m-gt-NODES : goal.returns-then-n-m-gt-NODES
returns-then-n-m-gt-NODES c = record {
  shifts = λ σ q d R. omega (arith, left (goal.at.returns-then-n-m-gt-NODES c).After-standing_of-m σ q d R);
  room_unchanged = refl;
}

pub breaks_of-breaks-requires : goal.breaks_of-breaks-requires
breaks_of-breaks-requires c =
    let p = c.requires in
    let x = p.3 in
    let h = (goal.at.breaks_of-breaks-requires c).After-standing_of-m in
    (omega (arith, p.2, c.as_chunks.ensures.front_len), (c.args.t.now, nod x.1 x.2 ∅, reads h x.0 x.1 x.2 x.3, left h x.0 x.1 x.2 x.3, omega (arith, x.3.some)))

pub copy-requires : goal.copy-requires
copy-requires c =
    let p = c.requires in
    let x = p.3 in
    let m = c.standing_of-m.result in
    let l = length-take m c.as_chunks.result.0.now in
    let f = nod x.1 x.2 ∅ in
    (p.0, omega (arith, c.if-n-m-gt-NODES.false), (flat f, front m (reads (goal.at.copy-requires c).After-standing_of-m x.0 x.1 x.2 x.3), rooted f))

pub returns : goal.returns
returns c =
    let a = c.args in
    let k = c.copy.ensures in
    let s = c.standing_of-m.ensures in
    let m = c.standing_of-m.result in
    let j : length (take m c.as_chunks.result.0.now) ≡ m = omega (arith, length-take m c.as_chunks.result.0.now, s.within) in record {
      shifts = λ σ q d R.
          let h = (goal.at.returns c).After-standing_of-m in
          let r = reads h σ q d R in
          let e = left h σ q d R in
          let f = nod q d ∅ in
          record {
            many = ap (a.n +◌) e;
            room = omega (arith, c.if-n-m-gt-NODES.false);
            holds = copied_piece (table_of a.t.now) R e (subst (λ (i : ℕ). Copied (table_of a.t.now) a.room.now c.copy.new.room a.n (flat f) i) j (k.copied (flat f) (front m r) (rooted f)));
            broken = c.breaks_of-breaks.ensures a.t.now f r e (omega (arith, R.some)) ∙ piece-breaks q d R.some;
          };
      room_unchanged = k.room_unchanged;
    }
