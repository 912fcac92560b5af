-- All of "a lent tree is in order" but its numbers, and the law that ties it to right records.
use Rattle.std.specs.Prelude.{◌≡◌, List, [], ◌∷◌, ℕ, ◌+◌, ◌*◌, ◌≤◌, length, get_or, take}
use Rattle.std.proofs.Common.{arith}
use Rattle.definitions.specs.Sheet.{T, Between}
use Rattle.definitions.specs.States.{Accepted}
use Rattle.definitions.specs.Table.{nt, table_of}
use Rattle.definitions.specs.Tree.{size, Der, NRow, erase, written, Kinds, Fit, InOrder}
use Rattle.theory.specs.Table.Bridge.{rules_of}
use Rattle.tree.specs.Rows.{holds_stands, stands_holds}
use Rattle.tree.specs.Shape.{Pieces, Rights}
use Rattle.tree.specs.Grown.{grown, reads}

-- `InOrder` but for the numbers: r is the tree of the row
pub record Shape (t row : List ℕ) (r : NRow) : Type 0 where
  pub nodes : Between 1 (size (erase r)) 2048
  pub holds : take (2 + 3 * size (erase r)) row ≡ written r (get_or row 1 0)
  pub derives : Der (table_of t) (erase r) (nt (table_of t).start ∷ [])
  pub kinds : Kinds (T t) r

abbrev pub Shaped : List ℕ → List ℕ → Type 0
Shaped t row = (r : NRow) × Shape t row r

-- word 0 is a count that the row holds
abbrev pub Holds : List ℕ → Type 0
Holds row = Between 1 (get_or row 0 0) 2048 × (2 + 3 * get_or row 0 0 ≤ length row)

-- the records are right, and one piece of production 0's right side, the start, fills them
pub record Judged (t row : List ℕ) (n : ℕ) : Type 0 where
  pub records : Rights t row n
  pub whole : Pieces t row 0 n ((table_of t).rhs 0)

module _ (t row : List ℕ) where
  pub shape_order : (r : NRow) → Shape t row r → Fit (get_or row 1 0) r → InOrder t row r
  shape_order r s f = record { nodes = s.nodes; holds = s.holds; derives = s.derives; kinds = s.kinds; numbers = f }

  pub order_shape : (r : NRow) → InOrder t row r → Shape t row r
  order_shape r o = record { nodes = o.nodes; holds = o.holds; derives = o.derives; kinds = o.kinds }

  pub shape_holds : Shaped t row → Holds row
  shape_holds s =
      let h = holds_stands row s.0 s.1.holds in
      let a = h.0.0 in
      let b = h.0.1 in
      let c = s.1.nodes in
      (omega arith, omega arith)

  module _ (A : Accepted t) where
    few : T t ≤ 128
    few = omega (arith, A.layout.head.terminals.1)

    pub judged_shape : Holds row → Judged t row (get_or row 0 0) → Shaped t row
    judged_shape h j =
        let w : Pieces t row 0 (get_or row 0 0) (nt (table_of t).start ∷ []) = rw (rules_of t A).rhs0 at j.whole in
        let g = grown t row few (get_or row 0 0) j.records 0 (nt (table_of t).start ∷ []) w in
        let z : get_or row 0 0 ≡ size (erase g.tree) = omega (arith, g.fills) in
        let a = h.0 in
        let b = h.1 in (
          g.tree,
          record {
            nodes = omega arith;
            holds = stands_holds row g.tree z (omega arith) g.stands;
            derives = g.derives;
            kinds = g.kinds;
          },
        )

    pub shape_judged : Shaped t row → Judged t row (get_or row 0 0)
    shape_judged s =
        let r = s.0 in
        let h = holds_stands row r s.1.holds in
        let a = h.0.0 in
        let g = reads t row few 0 (get_or row 0 0) r ((table_of t).rhs 0) (omega arith) h.1 (rw (rules_of t A).rhs0 s.1.derives) s.1.kinds in
        record { records = λ m l. g.0 m (omega arith) l; whole = g.1 }
