-- The records of a lent row by their places, and a tree that stands in the row from a record on: the words of the row are its words.
use Rattle.std.specs.Prelude.{◌≡◌, refl, List, [], ◌∷◌, ◌++◌, ℕ, zero, suc, ◌+◌, ◌*◌, ◌≤◌}
use Rattle.std.proofs.Common.{sym, ap, ◌∙◌, arith}
use lib.ListN.{length, get_or, take, length-take}
use Rattle.definitions.specs.Tree.{size, NRow, ε, ntok, nnod, erase, words, written}
use Rattle.theory.specs.Records.Stand.{cut_here}

-- "Then three words a node": kind, number and size of record j
abbrev pub kind_at : List ℕ → ℕ → ℕ
kind_at row j = get_or row (2 + 3 * j) 0

abbrev pub number_at : List ℕ → ℕ → ℕ
number_at row j = get_or row (2 + 3 * j + 1) 0

abbrev pub size_at : List ℕ → ℕ → ℕ
size_at row j = get_or row (2 + 3 * j + 2) 0

pub record Rec (row : List ℕ) (j k i s : ℕ) : Type 0 where
  pub kind : kind_at row j ≡ k
  pub number : number_at row j ≡ i
  pub size : size_at row j ≡ s

-- the records of the pieces stand in the row from record a on
abbrev pub Stands : List ℕ → ℕ → NRow → Type 0
Stands row a ε = Unit {0}
Stands row a (ntok k i f) = Rec row a k i 1 × Stands row (suc a) f
Stands row a (nnod p i c f) = (Stands row a c × Rec row (a + size (erase c)) (256 + p) i (suc (size (erase c)))) × Stands row (suc (a + size (erase c))) f

-- n words of a row from word i on
abbrev pub cells : List ℕ → ℕ → ℕ → List ℕ
cells row i zero = []
cells row i (suc n) = get_or row i 0 ∷ cells row (suc i) n

pub length-cells : (row : List ℕ) (i n : ℕ) → length (cells row i n) ≡ n
length-cells row i zero = refl
length-cells row i (suc n) = ap suc (length-cells row (suc i) n)

pub cells-add : (row : List ℕ) (i n m : ℕ) → cells row i (n + m) ≡ cells row i n ++ cells row (i + n) m
cells-add row i zero m = let z : 0 + m ≡ m = omega arith in let y : i + 0 ≡ i = omega arith in rw (z, y) refl
cells-add row i (suc n) m =
    let z : suc n + m ≡ suc (n + m) = omega arith in
    let y : i + suc n ≡ suc i + n = omega arith in
    rw (z, y) (ap (get_or row i 0 ∷◌) (cells-add row (suc i) n m))

cells_tail : (x : ℕ) (row : List ℕ) (i n : ℕ) → cells (x ∷ row) (suc i) n ≡ cells row i n
cells_tail x row i zero = refl
cells_tail x row i (suc n) = ap (get_or row i 0 ∷◌) (cells_tail x row (suc i) n)

pub take_cells : (row : List ℕ) (n : ℕ) → n ≤ length row → take n row ≡ cells row 0 n
take_cells row zero h = refl
take_cells [] (suc n) h = absurd (omega arith)
take_cells (x ∷ row) (suc n) h = ap (x ∷◌) (take_cells row n (omega arith) ∙ sym (cells_tail x row 0 n))

-- the three words of record j
three : (row : List ℕ) (j n : ℕ) → cells row (2 + 3 * j) (suc (suc (suc n))) ≡ kind_at row j ∷ number_at row j ∷ size_at row j ∷ cells row (2 + 3 * suc j) n
three row j n =
    let u : suc (2 + 3 * j) ≡ 2 + 3 * j + 1 = omega arith in
    let v : suc (2 + 3 * j + 1) ≡ 2 + 3 * j + 2 = omega arith in
    let w : suc (2 + 3 * j + 2) ≡ 2 + 3 * suc j = omega arith in
    rw (u, v, w) refl

-- ---- what stands in the row are the words
pub stands_words : (row : List ℕ) (a : ℕ) (f : NRow) → Stands row a f → cells row (2 + 3 * a) (3 * size (erase f)) ≡ words f
stands_words row a ε s = refl
stands_words row a (ntok k i f) s =
    let z : 3 * suc (size (erase f)) ≡ suc (suc (suc (3 * size (erase f)))) = omega arith in
    let r = s.0 in
    let x = r.kind in let y = r.number in let w = r.size in
    let g = stands_words row (suc a) f s.1 in
    ap (cells row (2 + 3 * a)) z ∙ three row a (3 * size (erase f)) ∙ (cc)
stands_words row a (nnod p i c f) s =
    let n = size (erase c) in
    let z : 3 * (n + suc (size (erase f))) ≡ 3 * n + suc (suc (suc (3 * size (erase f)))) = omega arith in
    let v : 2 + 3 * a + 3 * n ≡ 2 + 3 * (a + n) = omega arith in
    let r = s.0.1 in
    let x = r.kind in let y = r.number in let w = r.size in
    let b = stands_words row a c s.0.0 in
    let g = stands_words row (suc (a + n)) f s.1 in
    let t = three row (a + n) (3 * size (erase f)) in
    ap (cells row (2 + 3 * a)) z ∙ cells-add row (2 + 3 * a) (3 * n) (suc (suc (suc (3 * size (erase f)))))
    ∙ ap (λ m. cells row (2 + 3 * a) (3 * n) ++ cells row m (suc (suc (suc (3 * size (erase f)))))) v ∙ (cc)

pub length-words : (f : NRow) → length (words f) ≡ 3 * size (erase f)
length-words ε = refl
length-words (ntok k i f) = omega (arith, length-words f)
length-words (nnod p i c f) = omega (arith, lib.ListN.length-append (words c) ((256 + p) ∷ i ∷ suc (size (erase c)) ∷ words f), length-words c, length-words f)

pub words_stands : (row : List ℕ) (a : ℕ) (f : NRow) → cells row (2 + 3 * a) (3 * size (erase f)) ≡ words f → Stands row a f
words_stands row a ε e = tt
words_stands row a (ntok k i f) e =
    let z : 3 * suc (size (erase f)) ≡ suc (suc (suc (3 * size (erase f)))) = omega arith in
    let h = sym (three row a (3 * size (erase f))) ∙ ap (cells row (2 + 3 * a)) (sym z) ∙ e in
    (record { kind = cc; number = cc; size = cc }, words_stands row (suc a) f (cc))
words_stands row a (nnod p i c f) e =
    let n = size (erase c) in
    let m = suc (suc (suc (3 * size (erase f)))) in
    let z : 3 * (n + suc (size (erase f))) ≡ 3 * n + m = omega arith in
    let v : 2 + 3 * a + 3 * n ≡ 2 + 3 * (a + n) = omega arith in
    let l : cells row (2 + 3 * a) (3 * n) ++ cells row (2 + 3 * (a + n)) m ≡ words c ++ ((256 + p) ∷ i ∷ suc n ∷ words f) =
    ap (λ k. cells row (2 + 3 * a) (3 * n) ++ cells row k m) (sym v) ∙ sym (cells-add row (2 + 3 * a) (3 * n) m) ∙ ap (cells row (2 + 3 * a)) (sym z) ∙ e in
    let r = cut_here (cells row (2 + 3 * a) (3 * n)) (words c) (cells row (2 + 3 * (a + n)) m) ((256 + p) ∷ i ∷ suc n ∷ words f) (omega (arith, length-cells row (2 + 3 * a) (3 * n), length-words c)) l in
    let h = sym (three row (a + n) (3 * size (erase f))) ∙ r.1 in
    ((words_stands row a c r.0, record { kind = cc; number = cc; size = cc }), words_stands row (suc (a + n)) f (cc))

-- ---- "the row holds 2+3n words": the row of a tree with its count and its next number
module _ (row : List ℕ) (r : NRow) where
  pub holds_stands : take (2 + 3 * size (erase r)) row ≡ written r (get_or row 1 0)
      → ((get_or row 0 0 ≡ size (erase r)) × (2 + 3 * size (erase r) ≤ length row)) × Stands row 0 r
  holds_stands e =
      let n = size (erase r) in
      let z : 2 + 3 * n ≡ suc (suc (3 * n)) = omega arith in
      let l : 2 + 3 * n ≤ length row = omega (arith, ap length e, length-take (2 + 3 * n) row, length-words r) in
      let h = sym (take_cells row (2 + 3 * n) l ∙ ap (cells row 0) z) ∙ e in
      ((cc, l), words_stands row 0 r (cc))

  pub stands_holds : get_or row 0 0 ≡ size (erase r) → 2 + 3 * size (erase r) ≤ length row → Stands row 0 r
      → take (2 + 3 * size (erase r)) row ≡ written r (get_or row 1 0)
  stands_holds c l s =
      let n = size (erase r) in
      let z : 2 + 3 * n ≡ suc (suc (3 * n)) = omega arith in
      let g = stands_words row 0 r s in
      take_cells row (2 + 3 * n) l ∙ ap (cells row 0) z ∙ (cc)
