-- The shape of a row, told record by record by the size words: a token is right by itself, a production's record is right where its
-- right side stands in the pieces that end just before it. Of pieces that end at one record, one start is right.
use Rattle.std.specs.Prelude.{◌≡◌, cond, List, [], ◌∷◌, ℕ, zero, suc, ◌+◌, ◌-◌, ◌≤◌, ◌<◌, ltb, length, drop}
use Rattle.std.proofs.Common.{sym, ap, ◌∙◌, arith, lt-ltb, le-ltb}
use Rattle.std.proofs.Math.Decide.{dec_lt}
use Rattle.definitions.specs.Sheet.{T, P, left}
use Rattle.definitions.specs.Table.{Sym, sym_of, table_of}
use Rattle.theory.specs.Table.Sides.{sym_tm, sym_nt, tm_sym, nt_sym}
use Rattle.tree.specs.Rows.{kind_at, size_at}

-- the symbol of a record's kind, as the sheet writes it: a token's terminal, or 128 + the production's left side
abbrev pub code : List ℕ → ℕ → ℕ
code t k = cond (ltb k 256) k (128 + left t (k - 256))

-- record m is the root of a piece of X that starts at record e
pub record Root (t row : List ℕ) (e m : ℕ) (X : Sym) : Type 0 where
  pub symbol : sym_of (code t (kind_at row m)) ≡ X
  pub reach : e + size_at row m ≡ suc m

-- pieces of the symbols, side by side, fill the records from e up to j
abbrev pub Pieces : (t row : List ℕ) → ℕ → ℕ → List Sym → Type 0
Pieces t row e j [] = e ≡ j
Pieces t row e j (X ∷ γ) = (m : ℕ) × (Root t row e m X × Pieces t row (suc m) j γ)

-- "token kinds are 1..T−1"; its size is 1
pub record Token (t row : List ℕ) (j : ℕ) : Type 0 where
  pub above : 0 < kind_at row j
  pub below : kind_at row j < T t
  pub alone : size_at row j ≡ 1

-- "a derivation tree by the productions (0 never used), sizes are right"
pub record Node (t row : List ℕ) (j p e : ℕ) : Type 0 where
  pub kind : kind_at row j ≡ 256 + p
  pub above : 0 < p
  pub below : p < P t
  pub whole : e + size_at row j ≡ suc j
  pub children : Pieces t row e j ((table_of t).rhs p)

-- some production covers the pieces before record j
abbrev pub Covers : List ℕ → List ℕ → ℕ → Type 0
Covers t row j = (p : ℕ) × ((e : ℕ) × Node t row j p e)

-- record j is right
pub data Right (t row : List ℕ) (j : ℕ) : Type 0 where
  token : Token t row j → Right t row j
  node : (p e : ℕ) → Node t row j p e → Right t row j

-- the records before j are right
abbrev pub Rights : List ℕ → List ℕ → ℕ → Type 0
Rights t row j = (m : ℕ) → m < j → Right t row m

-- ---- symbols and their numbers
pub sym_same : (x y : ℕ) → sym_of x ≡ sym_of y → x ≡ y
sym_same x y e = by (dec_lt x 128)
  where
    by : Dec (x < 128) → x ≡ y
    by (yes h) = sym (tm_sym y x (sym e ∙ sym_tm x h)).0
    by (no h) = let z = nt_sym y (x - 128) (sym e ∙ sym_nt x (omega arith)) in omega arith

pub code_token : (t : List ℕ) (k : ℕ) → k < 256 → code t k ≡ k
code_token t k h = rw (lt-ltb k 256 h)

pub code_node : (t : List ℕ) (p : ℕ) → code t (256 + p) ≡ 128 + left t p
code_node t p = let z : 256 + p - 256 ≡ p = omega arith in rw (le-ltb (256 + p) 256 (omega arith), z)

module _ (t row : List ℕ) where
  pub pieces_within : (e j : ℕ) (γ : List Sym) → Pieces t row e j γ → e ≤ j
  pieces_within e j [] z = omega arith
  pieces_within e j (X ∷ γ) p = let r = p.1.0.reach in omega (arith, pieces_within (suc p.0) j γ p.1.1)

  -- what is known of a record that is right
  pub right_size : {j : ℕ} → Right t row j → (0 < size_at row j) × (size_at row j ≤ suc j)
  right_size (token k) = omega (arith, k.alone)
  right_size {j} (node p e k) = omega (arith, k.whole, pieces_within e j ((table_of t).rhs p) k.children)

  pub right_kind : T t ≤ 256 → {j : ℕ} → Right t row j → 256 ≤ kind_at row j → (0 < kind_at row j - 256) × (kind_at row j - 256 < P t)
  right_kind few (token k) h = absurd (omega arith)
  right_kind few (node p e k) h = let z = k.kind in let a = k.above in let b = k.below in omega arith

  pub right_token : {j : ℕ} → kind_at row j < 256 → Right t row j → Token t row j
  right_token h (token k) = k
  right_token h (node p e k) = absurd (omega (arith, k.kind))

  pub right_node : T t ≤ 256 → {j : ℕ} → 256 ≤ kind_at row j → Right t row j → Covers t row j
  right_node few h (token k) = absurd (omega (arith, k.below))
  right_node few h (node p e k) = (p, (e, k))

  -- the start is determined
  pub pieces-one : (e e' j : ℕ) (γ : List Sym) → Pieces t row e j γ → Pieces t row e' j γ → e ≡ e'
  pieces-one e e' j [] p q = cc
  pieces-one e e' j (X ∷ γ) p q =
      let z = pieces-one (suc p.0) (suc q.0) j γ p.1.1 q.1.1 in
      let y : p.0 ≡ q.0 = omega arith in
      let x = ap (size_at row) y in
      omega (arith, p.1.0.reach, q.1.0.reach)

  -- the pieces of the symbols from place d on
  pub pieces-drop : (d e j : ℕ) (γ : List Sym) → d ≤ length γ → Pieces t row e j γ → (m : ℕ) × Pieces t row m j (drop d γ)
  pieces-drop zero e j γ h p = (e, p)
  pieces-drop (suc d) e j [] h p = absurd (omega arith)
  pieces-drop (suc d) e j (X ∷ γ) h p = pieces-drop d (suc p.0) j γ (omega arith) p.1.1
