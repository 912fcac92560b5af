-- Sets as numbers: a larger set is a larger number, one that is not empty holds something, and 2^n - 1 is the set of all below n.
use Rattle.std.specs.Prelude.{◌≡◌, refl, Bool, true, false, ◌↔◌, ℕ, zero, suc, ◌+◌, ◌-◌, ◌/◌, ◌%◌, ◌^◌, ◌≤◌, ◌<◌, eqb}
use Rattle.std.proofs.Common.{subst, ap, ◌∙◌, div-one, pow-suc, arith, shr-shr, eqb-true}
use Rattle.std.specs.Int.Bits.{or_add_and}
use Rattle.std.proofs.lemmas.Nat.{and_le_r}
use Rattle.std.proofs.Math.Pow.{ones_lt}
use Rattle.std.proofs.lemmas.Nat.Bits.{bit_at_ones, ones_shr}
use Rattle.std.proofs.lemmas.Bool.{eqb-false}
use Rattle.definitions.specs.States.{Holds}
use Rattle.terminals.specs.Members.{Within, within_is, held_below}

pub within_le : (x y : ℕ) → Within x y → x ≤ y
within_le x y w = omega (arith, (within_is x y).0 w, or_add_and x y, and_le_r x y)

pub within_less : (x y : ℕ) → Within x y → (y ≡ x → ⊥) → x < y
within_less x y w n = omega (arith, within_le x y w)

-- ---- some number is in a set that is not empty

some-by : (k x : ℕ) → x < 2 ^ k → 1 ≤ x → (a : ℕ) × Holds x a
some-by zero x h l = absurd (omega arith)
some-by (suc k) x h l = go (eqb (x % 2) 1) refl (some-by k (x / 2) (omega (arith, pow-suc 2 k)))
  where
    go : (c : Bool) → eqb (x % 2) 1 ≡ c → (1 ≤ x / 2 → (a : ℕ) × Holds (x / 2) a) → (a : ℕ) × Holds x a
    go true e f = (0, simp div-one (eqb-true (x % 2) 1 e))
    go false e f =
        let n = eqb-false (x % 2) 1 e in
        let r = f (omega arith) in
        (1 + r.0, subst (λ (n : ℕ). n % 2 ≡ 1) (shr-shr x 1 r.0) r.1)

below_pow : (x : ℕ) → x < 2 ^ x
below_pow zero = omega arith
below_pow (suc x) = omega (arith, below_pow x, pow-suc 2 x)

pub some-held : (x : ℕ) → 1 ≤ x → (a : ℕ) × Holds x a
some-held x = some-by x x (below_pow x)

-- ---- all below n

pub all_holds : (n b : ℕ) → Holds (2 ^ n - 1) b ↔ (b < n)
all_holds n b = (held_below n (2 ^ n - 1) b (ones_lt n), bit_at_ones n b)

-- as the code makes it, from 64 ones
pub all_is : (n : ℕ) → n ≤ 64 → 18446744073709551615 / 2 ^ (64 - n) ≡ 2 ^ n - 1
all_is n h =
    let e : 64 - (64 - n) ≡ n = omega arith in
    ones_shr 64 (64 - n) (omega arith) ∙ ap (λ (m : ℕ). 2 ^ m - 1) e
