-- What `holds` says: a is in the set x. And of the empty set, a set of one, a join, and a join below n.
use Rattle.std.specs.Prelude.{◌≡◌, refl, Bool, true, false, ◌⊎◌, ℕ, zero, suc, ◌+◌, ◌-◌, ◌/◌, ◌%◌, ◌^◌, ◌≤◌, ◌<◌, max, ltb, eqb}
use Rattle.std.proofs.Common.{sym, subst, ap, ◌∙◌, inl, inr, pow-suc, not-suc-le-zero, arith, pow_pos, pow-add, ltb-true, ltb-false, eqb-true}
use Rattle.std.proofs.Math.Nat.{div_self, div-eq_of_lt}
use Rattle.std.proofs.lemmas.Nat.{or_shr, shl-shr}
use Rattle.std.specs.Int.Bits.{or_step}
use Rattle.std.proofs.Math.Pow.{pow-lt}
use Rattle.std.proofs.lemmas.Bool.{eqb-false}
use Rattle.definitions.specs.States.{Holds}
use Rattle.theory.specs.Check.Sets.{empty, one, join, holds, join_below}
use Rattle.theory.specs.Check.Says.{Says, says_as, says_eq, up, down}

-- the test is the document's "a is in the set x"
pub says_holds : (x a : ℕ) → Says (holds x a) (Holds x a)
says_holds x a = says_eq (x / 2 ^ a % 2) 1

-- what passes the test
abbrev pub Held : ℕ → ℕ → Type 0
Held x a = holds x a ≡ true

abbrev bit : ℕ → ℕ → ℕ
bit x a = x / 2 ^ a % 2

join-bit : (x y a : ℕ) → bit (join x y) a ≡ max (bit x a) (bit y a)
join-bit x y a =
    ap (λ (z : ℕ). z % 2) (or_shr x y a ∙ or_step (x / 2 ^ a) (y / 2 ^ a)) ∙ omega arith

pub says_join : (x y a : ℕ) → Says (holds (join x y) a) (Held x a ⊎ Held y a)
says_join x y a =
    says_as (says_eq (bit (join x y) a) 1)
    (λ e. go (holds x a) refl (holds y a) refl (sym (join-bit x y a) ∙ e))
    (λ h. join-bit x y a ∙ back h)
  where
    go : (c : Bool) → holds x a ≡ c → (d : Bool) → holds y a ≡ d → max (bit x a) (bit y a) ≡ 1 → Held x a ⊎ Held y a
    go true p d q e = inl p
    go false p true q e = inr q
    go false p false q e = let u = eqb-false (bit x a) 1 p in let v = eqb-false (bit y a) 1 q in absurd (omega arith)

    back : Held x a ⊎ Held y a → max (bit x a) (bit y a) ≡ 1
    back (inl h) = let e = eqb-true (bit x a) 1 h in omega arith
    back (inr h) = let e = eqb-true (bit y a) 1 h in omega arith

one-bit-over : (k b : ℕ) → bit (2 ^ (suc k + b)) b ≡ 0
one-bit-over k b =
    ap (λ (z : ℕ). z / 2 ^ b % 2) (pow-add 2 (suc k) b) ∙ ap (λ (z : ℕ). z % 2) (shl-shr (2 ^ suc k) b ∙ pow-suc 2 k) ∙ omega arith

pub says_one : (a b : ℕ) → Says (holds (one a) b) (a ≡ b)
says_one a b =
    says_as (says_eq (bit (2 ^ a) b) 1) (λ e. go (eqb a b) refl (ltb a b) refl e)
    (λ e. subst (λ (c : ℕ). bit (2 ^ a) c ≡ 1) e (ap (λ (z : ℕ). z % 2) (div_self (pow_pos a))))
  where
    go : (c : Bool) → eqb a b ≡ c → (d : Bool) → ltb a b ≡ d → bit (2 ^ a) b ≡ 1 → a ≡ b
    go true p d q e = eqb-true a b p
    go false p true q e =
        let z : bit (2 ^ a) b ≡ 0 = ap (λ (z : ℕ). z % 2) (div-eq_of_lt (pow-lt (ltb-true a b q))) in omega arith
    go false p false q e =
        let le : b ≤ a = ltb-false a b q in
        let ne = eqb-false a b p in
        let eq : suc (a - suc b) + b ≡ a = omega arith in
        let z : bit (2 ^ a) b ≡ 0 = subst (λ (c : ℕ). bit (2 ^ c) b ≡ 0) eq (one-bit-over (a - suc b) b) in
        omega arith

pub says_empty : (a : ℕ) → Held empty a → ⊥
says_empty a h =
    let z : bit 0 a ≡ 0 = ap (λ (z : ℕ). z % 2) (div-eq_of_lt (pow_pos a)) in
    let e = eqb-true (bit 0 a) 1 h in omega arith

pub map_right : {A B C : Type 0} → (B → C) → A ⊎ B → A ⊎ C
map_right g (inl a) = inl a
map_right g (inr b) = inr (g b)

-- the join below n holds a where some of its sets does
pub says_joins : (n : ℕ) (f : ℕ → ℕ) (a : ℕ) → Says (holds (join_below n f) a) ((i : ℕ) × (i < n) × Held (f i) a)
says_joins zero f a = record { to = λ e. absurd (says_empty a e); from = λ r. absurd (not-suc-le-zero r.1) }
says_joins (suc n) f a =
    says_as (says_join (f n) (join_below n f) a)
    (λ h. up (λ i. Held (f i) a) n (map_right (says_joins n f a).to h))
    (λ r. map_right (says_joins n f a).from (down (λ i. Held (f i) a) n r))
