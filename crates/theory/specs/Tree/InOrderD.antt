-- Whether a lent row is a tree in order, decided by a function that computes; and a row is of one tree at most.
use Rattle.std.specs.Prelude.{◌≡◌, refl, List, [], ◌∷◌, ℕ, suc, ◌+◌, ◌*◌, ◌≤◌, get_or, take, drop}
use Rattle.std.proofs.Common.{sym, ap₂, arith}
use Rattle.std.proofs.Math.Option.{Option, none, some}
use Rattle.std.proofs.Math.Decide.{ℕ_discrete, dec_le, dec_lt}
use Rattle.definitions.specs.Sheet.{T, Layout}
use Rattle.definitions.specs.Table.{nt, table_of}
use Rattle.definitions.specs.Tree.{size, NRow, ε, ntok, nnod, erase, words, written, Kinds, InOrder}
use Rattle.theory.specs.Decide.{map_d, and_d}
use Rattle.theory.specs.Tree.FitD.{fit_d}
use Rattle.theory.specs.Tree.Derive.{der_d}
use Rattle.theory.specs.Tree.Build.{small, build, build-piece}

pub nil-cons : {y : ℕ} {b : List ℕ} → [] ≡ y ∷ b → ⊥
nil-cons e = let z : ◌≡◌ {A = ℕ} 0 1 = cc in omega arith

pub cons-cons : {x y : ℕ} {a b : List ℕ} → x ∷ a ≡ y ∷ b → (x ≡ y) × (a ≡ b)
cons-cons e = (cc, cc)

abbrev pub nats_d : (a b : List ℕ) → Dec (a ≡ b)
nats_d [] [] = yes refl
nats_d [] (y ∷ b) = no nil-cons
nats_d (x ∷ a) [] = no (λ e. nil-cons (sym e))
nats_d (x ∷ a) (y ∷ b) = map_d (λ p. ap₂ ◌∷◌ p.0 p.1) cons-cons (and_d (ℕ_discrete x y) (nats_d a b))

abbrev pub kinds_d : (n : ℕ) (r : NRow) → Dec (Kinds n r)
kinds_d n ε = yes tt
kinds_d n (ntok k i f) = map_d (λ p. (p.0, p.1.0, p.1.1)) (λ k. (k.0, (k.1, k.2))) (and_d (dec_lt 0 k) (and_d (dec_lt k n) (kinds_d n f)))
kinds_d n (nnod q i c f) = and_d (kinds_d n c) (kinds_d n f)

-- ---- a given tree is the tree of the row, or not
module _ (t row : List ℕ) where
  abbrev pub in_order_d : (r : NRow) → Dec (InOrder t row r)
  in_order_d r =
      map_d
      (λ p. record { nodes = p.0; holds = p.1.0; derives = p.1.1.0; kinds = p.1.1.1.0; numbers = p.1.1.1.1 })
      (λ o. (o.nodes, (o.holds, (o.derives, (o.kinds, o.numbers)))))
      (and_d (and_d (dec_le 1 (size (erase r))) (dec_le (size (erase r)) 2048))
      (and_d (nats_d (take (2 + 3 * size (erase r)) row) (written r (get_or row 1 0)))
      (and_d (der_d (table_of t) (erase r) (nt (table_of t).start ∷ []))
      (and_d (kinds_d (T t) r) (fit_d (get_or row 1 0) r)))))

-- the count and the words of a row that holds a tree
pub row-holds : (row : List ℕ) (n next : ℕ) (w : List ℕ) → take (2 + 3 * n) row ≡ n ∷ next ∷ w → (get_or row 0 0 ≡ n) × (take (3 * n) (drop 2 row) ≡ w)
row-holds row n next w e = by row (rw z at e)
  where
    z : 2 + 3 * n ≡ suc (suc (3 * n))
    z = omega arith

    by : (row : List ℕ) → take (suc (suc (3 * n))) row ≡ n ∷ next ∷ w → (get_or row 0 0 ≡ n) × (take (3 * n) (drop 2 row) ≡ w)
    by [] e = let z : ◌≡◌ {A = ℕ} 0 1 = cc in absurd (omega arith)
    by (x ∷ []) e = let z : ◌≡◌ {A = ℕ} 0 1 = cc in absurd (omega arith)
    by (x ∷ y ∷ l) e = (cc, cc)

-- the tree that the row's words make, where they make any
abbrev pub tree_of : List ℕ → List ℕ → Option NRow
tree_of t row = build (table_of t) (take (3 * get_or row 0 0) (drop 2 row)) ε

pub tree_of_lem : (t row : List ℕ) → T t ≤ 256 → (r : NRow) → InOrder t row r → tree_of t row ≡ some r
tree_of_lem t row h r o =
    let k = row-holds row (size (erase r)) (get_or row 1 0) (words r) o.holds in
    rw (k.0, k.1) (build-piece (table_of t) r (nt (table_of t).start) o.derives (small (T t) h r o.kinds))

-- a row is of one tree at most
pub one-tree : (t row : List ℕ) → Layout t → (r r' : NRow) → InOrder t row r → InOrder t row r' → r ≡ r'
one-tree t row y r r' o o' =
    let b = y.head.terminals.1 in
    let h : T t ≤ 256 = omega arith in
    let u = tree_of_lem t row h r o in
    let v = tree_of_lem t row h r' o' in cc

-- a decision for the one that it can be, if any
pub settle-none : {P : NRow → Type 0} → ((r : NRow) → P r → none ≡ some r) → (r : NRow) × P r → ⊥
settle-none u p = let e = u p.0 p.1 in let z : ◌≡◌ {A = ℕ} 0 1 = cc in omega arith

pub settle-some : {P : NRow → Type 0} (r : NRow) → ((s : NRow) → P s → some r ≡ some s) → ¬ P r → (s : NRow) × P s → ⊥
settle-some r u h p = let e = u p.0 p.1 in let z : p.0 ≡ r = cc in h (rw z at p.1)

abbrev pub settle : {P : NRow → Type 0} (o : Option NRow) → ((r : NRow) → P r → o ≡ some r) → ((r : NRow) → Dec (P r)) → Dec ((r : NRow) × P r)
settle none u d = no (settle-none u)
settle {P} (some r) u d = by (d r)
  where
    by : Dec (P r) → Dec ((r : NRow) × P r)
    by (yes h) = yes (r, h)
    by (no h) = no (settle-some r u h)

-- whether the row is a tree in order; what it answers does not turn on the layout's proof
unfoldable pub tree_in : (t row : List ℕ) → Layout t → Dec ((r : NRow) × InOrder t row r)
tree_in t row y = settle (tree_of t row) (λ r o. tree_of_lem t row (omega (arith, y.head.terminals.1)) r o) (in_order_d t row)
