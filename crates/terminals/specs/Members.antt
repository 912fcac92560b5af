-- What a set of one, a join, a part and an empty set hold, by the definitions' `Holds`, beside the number that each is. The laws
-- say that the numbers hold exactly that, and that two numbers that hold the same are equal.
use Rattle.std.specs.Prelude.{◌≡◌, refl, Bool, true, false, ◌⊎◌, ◌↔◌, ℕ, zero, suc, ◌*◌, ◌/◌, ◌%◌, ◌^◌, ◌<◌, ltb}
use Rattle.std.proofs.Common.{ap, subst, inl, inr, mod-lt, div-lt_iff_lt-mul, lt_of_lt_of_le, arith, pow_pos, pow_mono, ltb-true, ltb-false}
use Rattle.std.proofs.Math.Nat.{div-eq_of_lt}
use Rattle.std.proofs.lemmas.Nat.Bits.{same_from_bits}
use Rattle.std.specs.Int.Bits.{bit_or}
use Rattle.definitions.specs.States.{Holds}
use Rattle.theory.specs.Check.SetLaws.{Held, says_holds, says_one, says_join, says_empty}

-- x is the set of a alone
pub record One (a x : ℕ) : Type 0 where
  pub bits : x ≡ 2 ^ a
  pub holds : (b : ℕ) → Holds x b ↔ (a ≡ b)

-- z holds what x or y holds
pub record Join (x y z : ℕ) : Type 0 where
  pub bits : z ≡ bit_or x y
  pub holds : (b : ℕ) → Holds z b ↔ (Holds x b ⊎ Holds y b)

-- y holds all that x holds
abbrev pub Within : ℕ → ℕ → Type 0
Within x y = (b : ℕ) → Holds x b → Holds y b

-- x holds nothing
abbrev pub Empty : ℕ → Type 0
Empty x = (b : ℕ) → Holds x b → ⊥

-- ---- what a set of one and a join hold

pub one_is : (a : ℕ) → One a (2 ^ a)
one_is a =
    record {
      bits = refl;
      holds = λ b. (λ h. (says_one a b).to ((says_holds (2 ^ a) b).from h), λ e. (says_holds (2 ^ a) b).to ((says_one a b).from e));
    }

pub join_is : (x y : ℕ) → Join x y (bit_or x y)
join_is x y =
    record {
      bits = refl;
      holds = λ b. (λ h. told b ((says_join x y b).to ((says_holds (bit_or x y) b).from h)), λ h. (says_holds (bit_or x y) b).to ((says_join x y b).from (asked b h)));
    }
  where
    told : (b : ℕ) → Held x b ⊎ Held y b → Holds x b ⊎ Holds y b
    told b (inl h) = inl ((says_holds x b).to h)
    told b (inr h) = inr ((says_holds y b).to h)

    asked : (b : ℕ) → Holds x b ⊎ Holds y b → Held x b ⊎ Held y b
    asked b (inl h) = inl ((says_holds x b).from h)
    asked b (inr h) = inr ((says_holds y b).from h)

-- ---- two sets that hold the same are one

abbrev bit : ℕ → ℕ → ℕ
bit x a = x / 2 ^ a % 2

same_bit : (x y : ℕ) → x < 2 → y < 2 → (x ≡ 1 → y ≡ 1) → (y ≡ 1 → x ≡ 1) → x ≡ y
same_bit zero zero hx hy f g = refl
same_bit zero (suc y) hx hy f g = let e : ◌≡◌ {A = ℕ} 0 1 = g (omega arith) in absurd (omega arith)
same_bit (suc x) y hx hy f g = let e : y ≡ 1 = f (omega arith) in omega arith

pub same : (x y : ℕ) → Within x y → Within y x → x ≡ y
same x y f g =
    same_from_bits x y
    (λ a. same_bit (bit x a) (bit y a) (mod-lt (x / 2 ^ a) (omega arith)) (mod-lt (y / 2 ^ a) (omega arith)) (f a) (g a))

-- ---- the tests

-- the empty set is 0
pub empty_is : (x : ℕ) → Empty x ↔ (x ≡ 0)
empty_is x = (λ f. same x 0 (λ b h. absurd (f b h)) (λ b h. absurd (nothing b h)), λ e b h. nothing b (subst (λ (n : ℕ). Holds n b) e h))
  where
    nothing : (b : ℕ) → Holds 0 b → ⊥
    nothing b h = says_empty b ((says_holds 0 b).from h)

-- x is within y where the join with y adds nothing to it
pub within_is : (x y : ℕ) → Within x y ↔ (bit_or x y ≡ y)
within_is x y = (
  λ f. same (bit_or x y) y (λ b h. either b f (((join_is x y).holds b).0 h)) (λ b h. ((join_is x y).holds b).1 (inr h)),
  λ e b h. subst (λ (n : ℕ). Holds n b) e (((join_is x y).holds b).1 (inl h)),
)
  where
    either : (b : ℕ) → Within x y → Holds x b ⊎ Holds y b → Holds y b
    either b f (inl h) = f b h
    either b f (inr h) = h

-- a set is below 2 ^ n where nothing is left of it past n bits
pub below_is : (n x : ℕ) → (x < 2 ^ n) ↔ (x / 2 ^ n ≡ 0)
below_is n x = (div-eq_of_lt, λ e. let h : x < 1 * 2 ^ n = (div-lt_iff_lt-mul (pow_pos n)).0 (omega arith) in omega arith)

-- and holds only what is below n
pub held_below : (n x a : ℕ) → x < 2 ^ n → Holds x a → a < n
held_below n x a h k = go (ltb a n) refl
  where
    go : (c : Bool) → ltb a n ≡ c → a < n
    go true e = ltb-true a n e
    go false e =
        let z : bit x a ≡ 0 = ap (λ (m : ℕ). m % 2) (div-eq_of_lt (lt_of_lt_of_le h (pow_mono (ltb-false a n e)))) in
        absurd (omega arith)
