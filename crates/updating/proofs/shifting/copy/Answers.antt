-- `updating::shifting::copy` meets its contract: record after record. Assumes nothing.
use mathlib.Core.Path.{◌≡◌, refl, sym, ◌∙◌, subst}
use mathlib.Core.List.{List}
use mathlib.Core.Option.{some}
use Prim.Native.Nat.{ℕ, ◌+◌}
use native.Mathlib.Omega.{arith}
use lib.ListN.{length, get_elem?}
use Rattle.definitions.specs.Table.{table_of}
use Rattle.theory.specs.Records.Flat.{Word}
use Rattle.updating.specs.Records.{word_at, known}
use Rattle.updating.specs.Copy.{Front, Copied, none_copied, copied_one}
use Rattle.updating.proofs.shifting.copy.Goals as goal
use Rattle.updating.proofs.shifting.copy.Goals.{In-loop-j}

-- the record that is copied next
word : (c : In-loop-j) (ws : List Word) → let a = c.args in Front (table_of a.t.now) a.nodes.now ws → (w : Word) × (get_elem? ws c.loop-j.j ≡ some w)
word c ws F = word_at ws c.loop-j.j (omega (arith, F.few, c.loop-j-test.true))

pub loop-j-init : goal.loop-j-init
loop-j-init c = (refl, λ ws F S. none_copied _ _ _ ws, c.told-room)

pub copy_one-requires : goal.copy_one-requires
copy_one-requires c =
    let p = c.requires in
    let x = p.2 in
    let l = c.loop-j in
    let e = word (goal.at.copy_one-requires c).In-loop-j x.0 x.1 in
    let d = x.1.at l.j e.0 c.loop-j-test.true e.1 in
    let b = x.2.at l.j e.0 e.1 in
    (p.0, omega (arith, c.loop-j-test.true, p.1), known c.args.t.now d, omega (arith, d.size, b.1))

pub loop-j-preserved : goal.loop-j-preserved
loop-j-preserved c =
    let l = c.loop-j in
    let p = c.requires in
    let a = c.args in
    let z = c.copy_one.ensures in (
      z.room_unchanged ∙ l.invariant.0,
      λ ws F S.
          let e = word (goal.at.loop-j-preserved c).In-loop-j ws F in
          let C = copied_one (table_of a.t.now) (l.invariant.1 ws F S) S (omega (arith, l.invariant.2)) (omega (arith, c.loop-j-test.true, p.1)) {nodes = a.nodes.now} e.0 e.1 (F.at l.j e.0 c.loop-j-test.true e.1) _ refl in
          subst (λ (r : List ℕ). Copied (table_of a.t.now) a.room.now r a.n ws (l.j + 1)) (sym z.room_after) C,
      c.copy_one.array_long,
    )

pub returns : goal.returns
returns c =
    let l = c.loop-j in
    let a = c.args in
    let e : l.j ≡ length a.nodes.now = omega (arith, l.auto.j-end) in
    record {
      copied = λ ws F S. subst (λ (j : ℕ). Copied (table_of a.t.now) a.room.now l.room a.n ws j) e (l.invariant.1 ws F S);
      room_unchanged = l.invariant.0;
    }
