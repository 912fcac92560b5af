-- n rounds are enough for a set of numbers below n that only grows: after them another round adds nothing.
use Rattle.std.specs.Prelude.{◌≡◌, refl, Bool, true, false, ◌⊎◌, ℕ, zero, suc, ◌+◌, ◌≤◌, ◌<◌, leb}
use Rattle.std.proofs.lemmas.Bool.{false≢true}
use Rattle.std.proofs.Common.{inl, inr, not-suc-le-zero, arith, leb-true, leb-false}
use Rattle.theory.specs.Check.Says.{below}

abbrev bit_of : Bool → ℕ
bit_of true = 1
bit_of false = 0

-- how many numbers below n pass
abbrev many : ℕ → (ℕ → Bool) → ℕ
many zero f = 0
many (suc n) f = bit_of (f n) + many n f

-- f passes only where g does
abbrev pub Under : ℕ → (ℕ → Bool) → (ℕ → Bool) → Type 0
Under n f g = (i : ℕ) → i < n → f i ≡ true → g i ≡ true

less : {n : ℕ} {f g : ℕ → Bool} → Under (suc n) f g → Under n f g
less u i h = u i (omega arith)

bit_le_one : (b : Bool) → bit_of b ≤ 1
bit_le_one true = omega arith
bit_le_one false = omega arith

bit_mono : (a b : Bool) → (a ≡ true → b ≡ true) → bit_of a ≤ bit_of b
bit_mono false b h = omega arith
bit_mono true true h = omega arith
bit_mono true false h = absurd (false≢true (h refl))

bit_same : (a b : Bool) → bit_of b ≤ bit_of a → b ≡ true → a ≡ true
bit_same true b h e = refl
bit_same false true h e = absurd (omega arith)
bit_same false false h e = e

many_le : (n : ℕ) (f : ℕ → Bool) → many n f ≤ n
many_le zero f = omega arith
many_le (suc n) f = omega (arith, many_le n f, bit_le_one (f n))

many_mono : (n : ℕ) (f g : ℕ → Bool) → Under n f g → many n f ≤ many n g
many_mono zero f g u = omega arith
many_mono (suc n) f g u = omega (arith, many_mono n f g (less u), bit_mono (f n) (g n) (u n (omega arith)))

many_same : (n : ℕ) (f g : ℕ → Bool) → Under n f g → many n g ≤ many n f → Under n g f
many_same zero f g u h = λ i k. absurd (not-suc-le-zero k)
many_same (suc n) f g u h =
    let m = many_mono n f g (less u) in
    let b = bit_mono (f n) (g n) (u n (omega arith)) in
    below (λ i. g i ≡ true → f i ≡ true) n (bit_same (f n) (g n) (omega arith)) (many_same n f g (less u) (omega arith))

-- X k: who is in after k rounds
module _ (n : ℕ) (X : ℕ → ℕ → Bool) (grow : (k : ℕ) → Under n (X k) (X (suc k)))
    (next : (k : ℕ) → Under n (X (suc k)) (X k) → Under n (X (suc (suc k))) (X (suc k))) where
  grows : (k : ℕ) → (k ≤ many n (X k)) ⊎ Under n (X (suc k)) (X k)
  grows zero = inl (omega arith)
  grows (suc k) = go (grows k) (leb (many n (X (suc k))) (many n (X k))) refl
    where
      go : (k ≤ many n (X k)) ⊎ Under n (X (suc k)) (X k) → (c : Bool) → leb (many n (X (suc k))) (many n (X k)) ≡ c
          → (suc k ≤ many n (X (suc k))) ⊎ Under n (X (suc (suc k))) (X (suc k))
      go (inr u) c e = inr (next k u)
      go (inl h) true e = inr (next k (many_same n (X k) (X (suc k)) (grow k) (leb-true (many n (X (suc k))) (many n (X k)) e)))
      go (inl h) false e = let l = leb-false (many n (X (suc k))) (many n (X k)) e in inl (omega arith)

  pub stable : Under n (X (suc n)) (X n)
  stable = go (grows n)
    where
      go : (n ≤ many n (X n)) ⊎ Under n (X (suc n)) (X n) → Under n (X (suc n)) (X n)
      go (inr u) = u
      go (inl h) = many_same n (X n) (X (suc n)) (grow n) (let l = many_le n (X (suc n)) in omega arith)
