-- "Numbers are distinct, at least 1 and below the next number", on the list of a row's numbers: of a tree's row it is `Fit`, and the order
-- of the numbers does not matter.
use Rattle.std.specs.Prelude.{◌≡◌, refl, List, [], ◌∷◌, ◌++◌, ℕ, zero, suc, ◌+◌, ◌≤◌, ◌<◌, length, get_or}
use Rattle.std.proofs.Common.{sym, ap, ◌∙◌, arith}
use Rattle.definitions.specs.Tree.{size, NRow, ε, ntok, nnod, erase, nums, eqn, Fit}
use Rattle.theory.specs.Numbers.Counting.{among, occ-nums}
use Rattle.tree.specs.Rows.{number_at, Stands}
use Rattle.tree.specs.Buckets.{total, Same}

-- n places from i on; the numbers of records, by their places
abbrev pub places : ℕ → ℕ → List ℕ
places i zero = []
places i (suc n) = i ∷ places (suc i) n

abbrev pub numbered : List ℕ → List ℕ → List ℕ
numbered row [] = []
numbered row (x ∷ l) = number_at row x ∷ numbered row l

-- the numbers of the first n records
abbrev pub numbers_of : List ℕ → ℕ → List ℕ
numbers_of row n = numbered row (places 0 n)

-- the numbers of l are distinct, at least 1 and below the next number
pub record Apart (next : ℕ) (l : List ℕ) : Type 0 where
  pub pos : 0 < next
  pub low : among 0 l ≡ 0
  pub below : (i : ℕ) → next ≤ i → among i l ≡ 0
  pub apart : (i : ℕ) → among i l ≤ 1

-- as many as the records, and number i is that of record i
length-numbered : (row : List ℕ) (i n : ℕ) → length (numbered row (places i n)) ≡ n
length-numbered row i zero = refl
length-numbered row i (suc n) = ap suc (length-numbered row (suc i) n)

get_or-numbered : (row : List ℕ) (i n j : ℕ) → j < n → get_or (numbered row (places i n)) j 0 ≡ number_at row (i + j)
get_or-numbered row i zero j h = absurd (omega arith)
get_or-numbered row i (suc n) zero h = let z : i + 0 ≡ i = omega arith in rw z refl
get_or-numbered row i (suc n) (suc j) h = let z : i + suc j ≡ suc i + j = omega arith in rw z (get_or-numbered row (suc i) n j (omega arith))

pub length-numbers : (row : List ℕ) (n : ℕ) → length (numbers_of row n) ≡ n
length-numbers row n = length-numbered row 0 n

pub get_or-numbers : (row : List ℕ) (n i : ℕ) → i < n → get_or (numbers_of row n) i 0 ≡ number_at row i
get_or-numbers row n i h = let z : 0 + i ≡ i = omega arith in rw z at (get_or-numbered row 0 n i h)

-- ---- of the row of a tree it is `Fit`
places-add : (i n m : ℕ) → places i (n + m) ≡ places i n ++ places (i + n) m
places-add i zero m = let z : 0 + m ≡ m = omega arith in let y : i + 0 ≡ i = omega arith in rw (z, y) refl
places-add i (suc n) m =
    let z : suc n + m ≡ suc (n + m) = omega arith in
    let y : i + suc n ≡ suc i + n = omega arith in
    rw (z, y) (ap (i ∷◌) (places-add (suc i) n m))

numbered-append : (row a b : List ℕ) → numbered row (a ++ b) ≡ numbered row a ++ numbered row b
numbered-append row [] b = refl
numbered-append row (x ∷ a) b = ap (number_at row x ∷◌) (numbered-append row a b)

pub stands_nums : (row : List ℕ) (a : ℕ) (f : NRow) → Stands row a f → numbered row (places a (size (erase f))) ≡ nums f
stands_nums row a ε s = refl
stands_nums row a (ntok k i f) s = let x = s.0.number in let g = stands_nums row (suc a) f s.1 in cc
stands_nums row a (nnod p i c f) s =
    let n = size (erase c) in
    let x = s.0.1.number in
    let g = stands_nums row a c s.0.0 in
    let h = stands_nums row (suc (a + n)) f s.1 in
    ap (numbered row) (places-add a n (suc (size (erase f)))) ∙ numbered-append row (places a n) (places (a + n) (suc (size (erase f)))) ∙ (cc)

module _ (row : List ℕ) (next : ℕ) (r : NRow) (s : Stands row 0 r) where
  pub apart_fit : Apart next (numbers_of row (size (erase r))) → Fit next r
  apart_fit p =
      let e = stands_nums row 0 r s in
      record {
        pos = p.pos;
        low = occ-nums 0 r ∙ ap (among 0) (sym e) ∙ p.low;
        below = λ i h. occ-nums i r ∙ ap (among i) (sym e) ∙ p.below i h;
        apart = λ i. omega (arith, occ-nums i r, ap (among i) e, p.apart i);
      }

  pub fit_apart : Fit next r → Apart next (numbers_of row (size (erase r)))
  fit_apart f =
      let e = stands_nums row 0 r s in
      record {
        pos = f.pos;
        low = ap (among 0) e ∙ sym (occ-nums 0 r) ∙ f.low;
        below = λ i h. ap (among i) e ∙ sym (occ-nums i r) ∙ f.below i h;
        apart = λ i. omega (arith, occ-nums i r, ap (among i) e, f.apart i);
      }

-- ---- the same numbers
among-total : (i : ℕ) (l : List ℕ) → total (eqn i) l ≡ among i l
among-total i [] = refl
among-total i (x ∷ l) = omega (arith, among-total i l)

same_among : {a b : List ℕ} → Same a b → (i : ℕ) → among i a ≡ among i b
same_among {a} {b} s i = sym (among-total i a) ∙ s.sums (eqn i) ∙ among-total i b

pub same_apart : (next : ℕ) {a b : List ℕ} → Same a b → Apart next a → Apart next b
same_apart next {a} {b} s p =
    record {
      pos = p.pos;
      low = sym (same_among s 0) ∙ p.low;
      below = λ i h. sym (same_among s i) ∙ p.below i h;
      apart = λ i. omega (arith, same_among s i, p.apart i);
    }

pub same_sym : {a b : List ℕ} → Same a b → Same b a
same_sym s = record { sums = λ f. sym (s.sums f) }
