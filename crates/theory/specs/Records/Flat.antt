-- The records of a row, children before parent, and what stands of them up to the last token.
use Rattle.std.specs.Prelude.{◌≡◌, refl, List, [], ◌∷◌, ◌++◌, ℕ, suc, length}
use Rattle.std.proofs.Common.{ap, arith, length-append}
use Rattle.definitions.specs.Tree.{Tok, Row, ∅, tok, nod, size, yield}

-- a record: a token; a production and a size
pub data Word : Type 0 where
  wtok : Tok → Word
  wnod : ℕ → ℕ → Word

-- children before parent, left to right
abbrev pub flat : Row → List Word
flat ∅ = []
flat (tok x f) = wtok x ∷ flat f
flat (nod q c f) = flat c ++ (wnod q (suc (size c)) ∷ flat f)

pub length-flat : (f : Row) → length (flat f) ≡ size f
length-flat ∅ = refl
length-flat (tok x f) = ap suc (length-flat f)
length-flat (nod q c f) = omega (arith, length-append (flat c) (wnod q (suc (size c)) ∷ flat f), length-flat c, length-flat f)

-- the words up to the last token
abbrev pub grow : Word → List Word → List Word
grow w [] = []
grow w (x ∷ l) = w ∷ (x ∷ l)

abbrev pub trim : List Word → List Word
trim [] = []
trim (wtok x ∷ l) = wtok x ∷ trim l
trim (wnod q n ∷ l) = grow (wnod q n) (trim l)

abbrev pub toks_of : List Word → List Tok
toks_of [] = []
toks_of (wtok x ∷ l) = x ∷ toks_of l
toks_of (wnod q n ∷ l) = toks_of l

pub toks_of_append : (a b : List Word) → toks_of (a ++ b) ≡ toks_of a ++ toks_of b
toks_of_append [] b = refl
toks_of_append (wtok x ∷ a) b = ap (x ∷◌) (toks_of_append a b)
toks_of_append (wnod q n ∷ a) b = toks_of_append a b

pub toks_of_flat : (f : Row) → toks_of (flat f) ≡ yield f
toks_of_flat ∅ = refl
toks_of_flat (tok x f) = ap (x ∷◌) (toks_of_flat f)
toks_of_flat (nod q c f) = rw (toks_of_append, toks_of_flat c, toks_of_flat f) refl

pub trim-none : (l : List Word) → toks_of l ≡ [] → trim l ≡ []
trim-none [] e = refl
trim-none (wtok x ∷ l) e = cc
trim-none (wnod q n ∷ l) e = rw (trim-none l e) refl

pub trim-left : (a b : List Word) → toks_of b ≡ [] → trim (a ++ b) ≡ trim a
trim-left [] b e = trim-none b e
trim-left (wtok x ∷ a) b e = ap (wtok x ∷◌) (trim-left a b e)
trim-left (wnod q n ∷ a) b e = ap (grow (wnod q n)) (trim-left a b e)

pub trim-some : (b : List Word) {x : Tok} {u : List Tok} → toks_of b ≡ x ∷ u → (y : Word) × (l : List Word) × (trim b ≡ y ∷ l)
trim-some [] e = let z : ◌≡◌ {A = ℕ} 0 1 = cc in absurd (omega arith)
trim-some (wtok x ∷ b) e = (wtok x, trim b, refl)
trim-some (wnod q n ∷ b) e = let r = trim-some b e in (wnod q n, r.0 ∷ r.1, rw r.2 refl)

pub trim_right : (a b : List Word) {x : Tok} {u : List Tok} → toks_of b ≡ x ∷ u → trim (a ++ b) ≡ a ++ trim b
trim_right [] b e = refl
trim_right (wtok x ∷ a) b e = ap (wtok x ∷◌) (trim_right a b e)
trim_right (wnod q n ∷ []) b e = let r = trim-some b e in rw r.2 refl
trim_right (wnod q n ∷ (y ∷ a)) b e = rw (trim_right (y ∷ a) b e) refl
