-- Rows and texts: a row of tokens alone, the yield and the size of rows side by side, and what counts as a token.
use Rattle.std.specs.Prelude.{◌≡◌, refl, List, [], ◌∷◌, ◌++◌, ℕ, zero, suc, ◌+◌, ◌<◌, length, drop}
use Rattle.std.proofs.Common.{ap, append_assoc, arith, length-append}
use Rattle.definitions.specs.Tree.{Tok, kind, Row, ∅, tok, nod, ◌⧺◌, row, size, yield, toks, look}

pub yield-row : (w : List Tok) → yield (row w) ≡ w
yield-row [] = refl
yield-row (x ∷ w) = ap (x ∷◌) (yield-row w)

pub size-row : (w : List Tok) → size (row w) ≡ length w
size-row [] = refl
size-row (x ∷ w) = ap suc (size-row w)

-- pieces side by side; inner nodes
abbrev pub count : Row → ℕ
count ∅ = zero
count (tok x f) = suc (count f)
count (nod p c f) = suc (count f)

abbrev pub inner : Row → ℕ
inner ∅ = zero
inner (tok x f) = inner f
inner (nod p c f) = inner c + suc (inner f)

pub look-append : (a : ℕ) (u w : List Tok) → look a (u ++ w) ≡ look (look a w) u
look-append a [] w = refl
look-append a (x ∷ u) w = refl

pub append-∅ : (f : Row) → f ⧺ ∅ ≡ f
append-∅ ∅ = refl
append-∅ (tok x f) = ap (tok x) (append-∅ f)
append-∅ (nod p c f) = ap (nod p c) (append-∅ f)

pub yield-append : (f g : Row) → yield (f ⧺ g) ≡ yield f ++ yield g
yield-append ∅ g = refl
yield-append (tok x f) g = ap (x ∷◌) (yield-append f g)
yield-append (nod p c f) g = rw (yield-append f g, append_assoc)

pub size-append : (f g : Row) → size (f ⧺ g) ≡ size f + size g
size-append ∅ g = omega arith
size-append (tok x f) g = omega (arith, size-append f g)
size-append (nod q c f) g = omega (arith, size-append f g)

pub row_assoc : (f g h : Row) → (f ⧺ g) ⧺ h ≡ f ⧺ (g ⧺ h)
row_assoc ∅ g h = refl
row_assoc (tok x f) g h = ap (tok x) (row_assoc f g h)
row_assoc (nod q c f) g h = ap (nod q c) (row_assoc f g h)

pub toks-append : (f g : Row) → toks (f ⧺ g) ≡ toks f + toks g
toks-append ∅ g = omega arith
toks-append (tok x f) g = omega (arith, toks-append f g)
toks-append (nod q c f) g = omega (arith, toks-append f g)

pub toks-length : (f : Row) → toks f ≡ length (yield f)
toks-length ∅ = refl
toks-length (tok x f) = ap suc (toks-length f)
toks-length (nod q c f) = omega (arith, toks-length c, toks-length f, length-append (yield c) (yield f))

pub append-empty : {A : Type 0} (u v : List A) → u ++ v ≡ [] → (u ≡ []) × (v ≡ [])
append-empty [] v e = (refl, e)
append-empty (x ∷ u) v e = (cc, cc)

pub drop_tail : {A : Type 0} {x : A} {r : List A} (l : List A) (d : ℕ) → drop d l ≡ x ∷ r → drop (suc d) l ≡ r
drop_tail [] zero e = cc
drop_tail [] (suc d) e = cc
drop_tail (y ∷ l) zero e = cc
drop_tail (y ∷ l) (suc d) e = drop_tail l d e

-- "token kinds are 1..T−1": none is the end mark
abbrev pub Real : List Tok → Type 0
Real [] = Unit {0}
Real (x ∷ w) = (0 < kind x) × Real w

pub real_end : (w : List Tok) → Real w → look 0 w ≡ 0 → w ≡ []
real_end [] r e = refl
real_end (x ∷ w) r e = absurd (omega arith)
