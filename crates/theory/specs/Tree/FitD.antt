-- "Numbers are distinct, at least 1 and below the next number", decided on the list of a tree's numbers.
use Rattle.std.specs.Prelude.{◌≡◌, refl, List, [], ◌∷◌, ℕ, ◌+◌, ◌≤◌, ◌<◌}
use Rattle.std.proofs.Common.{arith}
use Rattle.std.proofs.Math.Decide.{ℕ_discrete, dec_lt}
use Rattle.definitions.specs.Tree.{NRow, eqn, Fit, nums}
use Rattle.theory.specs.Decide.{map_d, and_d}
use Rattle.theory.specs.Numbers.Counting.{eqn_same, eqn-other, among, occ-nums}

-- ---- distinct, at least 1 and below n
abbrev pub Good : ℕ → List ℕ → Type 0
Good n [] = Unit {0}
Good n (j ∷ l) = (0 < j) × ((j < n) × ((among j l ≡ 0) × Good n l))

abbrev pub good_d : (n : ℕ) (l : List ℕ) → Dec (Good n l)
good_d n [] = yes tt
good_d n (j ∷ l) = and_d (dec_lt 0 j) (and_d (dec_lt j n) (and_d (ℕ_discrete (among j l) 0) (good_d n l)))

good_low : (n : ℕ) (l : List ℕ) → Good n l → among 0 l ≡ 0
good_low n [] g = refl
good_low n (j ∷ l) g = let h = g.0 in omega (arith, eqn-other {i = 0} {j = j} (λ e. omega arith), good_low n l g.1.1.1)

good_below : (n : ℕ) (l : List ℕ) → Good n l → (i : ℕ) → n ≤ i → among i l ≡ 0
good_below n [] g i h = refl
good_below n (j ∷ l) g i h = let k = g.1.0 in omega (arith, eqn-other {i = i} {j = j} (λ e. omega arith), good_below n l g.1.1.1 i h)

good_apart : (n : ℕ) (l : List ℕ) → Good n l → (i : ℕ) → among i l ≤ 1
good_apart n [] g i = omega arith
good_apart n (j ∷ l) g i = by (ℕ_discrete i j) (good_apart n l g.1.1.1 i)
  where
    by : Dec (i ≡ j) → among i l ≤ 1 → eqn i j + among i l ≤ 1
    by (yes e) h = rw e (omega (arith, eqn_same j, g.1.1.0))
    by (no d) h = omega (arith, eqn-other {i = i} {j = j} d)

good_from : (n : ℕ) (l : List ℕ) → among 0 l ≡ 0 → ((i : ℕ) → n ≤ i → among i l ≡ 0) → ((i : ℕ) → among i l ≤ 1) → Good n l
good_from n [] a b c = tt
good_from n (j ∷ l) a b c =
    (above (dec_lt 0 j), (below (dec_lt j n), (omega (arith, c j, eqn_same j), good_from n l (omega arith) (λ i h. omega (arith, b i h)) (λ i. omega (arith, c i)))))
  where
    above : Dec (0 < j) → 0 < j
    above (yes h) = h
    above (no h) = let z : j ≡ 0 = omega arith in let y : eqn 0 j ≡ 1 = rw z (eqn_same 0) in absurd (omega arith)

    below : Dec (j < n) → j < n
    below (yes h) = h
    below (no h) = absurd (omega (arith, b j (omega arith), eqn_same j))

pub good_fit : (n : ℕ) (r : NRow) → 0 < n → Good n (nums r) → Fit n r
good_fit n r h g =
    record {
      pos = h;
      low = rw occ-nums (good_low n (nums r) g);
      below = λ i k. omega (arith, occ-nums i r, good_below n (nums r) g i k);
      apart = λ i. omega (arith, occ-nums i r, good_apart n (nums r) g i);
    }

pub fit_good : (n : ℕ) (r : NRow) → Fit n r → Good n (nums r)
fit_good n r f =
    good_from n (nums r) (omega (arith, occ-nums 0 r, f.low)) (λ i h. omega (arith, occ-nums i r, f.below i h)) (λ i. omega (arith, occ-nums i r, f.apart i))

abbrev pub fit_d : (n : ℕ) (r : NRow) → Dec (Fit n r)
fit_d n r = map_d (λ p. good_fit n r p.0 p.1) (λ f. (f.pos, fit_good n r f)) (and_d (dec_lt 0 n) (good_d n (nums r)))
