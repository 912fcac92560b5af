-- What a test says: `Says b A` is that the test b passes exactly where A. One law for each way of making tests.
use Rattle.std.specs.Prelude.{◌≡◌, refl, Bool, true, false, ◌&&◌, ◌||◌, not, cond, ◌⊎◌, ℕ, zero, suc, ◌≤◌, ◌<◌, leb, ltb, eqb}
use Rattle.std.proofs.Common.{sym, subst, ◌∙◌, true≢false, inl, inr, not-suc-le-zero, arith, ltb-true, leb-true, eqb-true, lt-ltb, le-leb, eq-eqb}
use Rattle.std.proofs.lemmas.Bool.{false≢true, eqb-false}
use Rattle.theory.specs.Check.Every.{all_below, any_below, ◌⇒◌}

pub record Says (b : Bool) (A : Type 0) : Type 0 where
  pub to : b ≡ true → A
  pub from : A → b ≡ true

-- a verdict given outright: yes of what holds, no of what does not
pub says_yes : {A : Type 0} → A → Says true A
says_yes a = record { to = λ e. a; from = λ h. refl }

pub says_no : {A : Type 0} → (A → ⊥) → Says false A
says_no f = record { to = λ e. absurd (false≢true e); from = λ h. absurd (f h) }

-- what a test that failed says
pub refused : {b : Bool} {A : Type 0} → Says b A → b ≡ false → A → ⊥
refused x e h = false≢true (sym e ∙ x.from h)

module _ {a b : Bool} {A B : Type 0} where
  pub says_and : Says a A → Says b B → Says (a && b) (A × B)
  says_and x y = record { to = go a x.to; from = back a x.from }
    where
      go : (c : Bool) → (c ≡ true → A) → (c && b) ≡ true → A × B
      go true f e = (f refl, y.to e)
      go false f e = absurd (false≢true e)

      back : (c : Bool) → (A → c ≡ true) → A × B → (c && b) ≡ true
      back true g h = y.from h.1
      back false g h = g h.0

  pub says_imp : Says a A → Says b B → Says (a ⇒ b) (A → B)
  says_imp x y = record { to = go a x.from; from = back a x.to }
    where
      go : (c : Bool) → (A → c ≡ true) → (c ⇒ b) ≡ true → A → B
      go true g e h = y.to e
      go false g e h = absurd (false≢true (g h))

      back : (c : Bool) → (c ≡ true → A) → (A → B) → (c ⇒ b) ≡ true
      back true f h = y.from (h (f refl))
      back false f h = refl

  pub says_or : Says a A → Says b B → Says (a || b) (A ⊎ B)
  says_or x y = record { to = go a x.to; from = back a x.from }
    where
      go : (c : Bool) → (c ≡ true → A) → (c || b) ≡ true → A ⊎ B
      go true f e = inl (f refl)
      go false f e = inr (y.to e)

      back : (c : Bool) → (A → c ≡ true) → A ⊎ B → (c || b) ≡ true
      back true g h = refl
      back false g (inl h) = absurd (false≢true (g h))
      back false g (inr h) = y.from h

-- the test that one of two tests makes, by a third
pub says_if : (c : Bool) {a b : Bool} {A B : Type 0} → Says a A → Says b B → Says (cond c a b) ((c ≡ true → A) × (c ≡ false → B))
says_if true x y = record { to = λ e. (λ k. x.to e, λ k. absurd (true≢false k)); from = λ r. x.from (r.0 refl) }
says_if false x y = record { to = λ e. (λ k. absurd (false≢true k), λ k. y.to e); from = λ r. y.from (r.1 refl) }

module _ {a : Bool} {A : Type 0} where
  pub says_not : Says a A → Says (not a) (A → ⊥)
  says_not x = record { to = go a x.from; from = back a x.to }
    where
      go : (c : Bool) → (A → c ≡ true) → not c ≡ true → A → ⊥
      go true g e h = false≢true e
      go false g e h = false≢true (g h)

      back : (c : Bool) → (c ≡ true → A) → (A → ⊥) → not c ≡ true
      back true f h = absurd (h (f refl))
      back false f h = refl

  -- the same fact in other words
  pub says_as : {B : Type 0} → Says a A → (A → B) → (B → A) → Says a B
  says_as x f g = record { to = λ e. f (x.to e); from = λ h. x.from (g h) }

pub says_eq : (m n : ℕ) → Says (eqb m n) (m ≡ n)
says_eq m n = record { to = eqb-true m n; from = eq-eqb m n }

pub says_lt : (m n : ℕ) → Says (ltb m n) (m < n)
says_lt m n = record { to = ltb-true m n; from = lt-ltb m n }

pub says_le : (m n : ℕ) → Says (leb m n) (m ≤ n)
says_le m n = record { to = leb-true m n; from = le-leb m n }

-- a test that stands for itself
pub says_so : (b : Bool) → Says b (b ≡ true)
says_so b = record { to = λ e. e; from = λ e. e }

-- the number below suc n is n, or below n
pub below : (A : ℕ → Type 0) (n : ℕ) → A n → ((i : ℕ) → i < n → A i) → (i : ℕ) → i < suc n → A i
below A n x f i h = go (eqb i n) refl
  where
    go : (c : Bool) → eqb i n ≡ c → A i
    go true e = subst A (sym (eqb-true i n e)) x
    go false e = f i (let ne : i ≡ n → ⊥ = eqb-false i n e in omega arith)

-- for every number below n. (`says_all` and `says_any`, below, where the bound is not needed to see what f says)
pub says_each_below : (n : ℕ) {f : ℕ → Bool} {A : ℕ → Type 0} → ((i : ℕ) → i < n → Says (f i) (A i)) → Says (all_below n f) ((i : ℕ) → i < n → A i)
says_each_below zero x = record { to = λ e i h. absurd (not-suc-le-zero h); from = λ g. refl }
says_each_below (suc n) {f} {A} x =
    let both = says_and (x n (omega arith)) (says_each_below n (λ i h. x i (omega arith))) in
    record {
      to = λ e. below A n (both.to e).0 (both.to e).1;
      from = λ g. both.from (g n (omega arith), λ i h. g i (omega arith));
    }

pub says_all : (n : ℕ) {f : ℕ → Bool} {A : ℕ → Type 0} → ((i : ℕ) → Says (f i) (A i)) → Says (all_below n f) ((i : ℕ) → i < n → A i)
says_all n x = says_each_below n (λ i h. x i)

-- some number below suc n: n, or some number below n
pub up : (A : ℕ → Type 0) (n : ℕ) → A n ⊎ ((i : ℕ) × (i < n) × A i) → (i : ℕ) × (i < suc n) × A i
up A n (inl a) = (n, omega arith, a)
up A n (inr (r)) = (r.0, (let h = r.1 in omega arith), r.2)

pub down : (A : ℕ → Type 0) (n : ℕ) → (i : ℕ) × (i < suc n) × A i → A n ⊎ ((i : ℕ) × (i < n) × A i)
down A n r = below (λ i. A i → A n ⊎ ((i : ℕ) × (i < n) × A i)) n (λ a. inl a) (λ i h a. inr (i, h, a)) r.0 r.1 r.2

pub says_some_below : (n : ℕ) {f : ℕ → Bool} {A : ℕ → Type 0} → ((i : ℕ) → i < n → Says (f i) (A i)) → Says (any_below n f) ((i : ℕ) × (i < n) × A i)
says_some_below zero x = record { to = λ e. absurd (false≢true e); from = λ g. absurd (not-suc-le-zero g.1) }
says_some_below (suc n) {f} {A} x =
    says_as (says_or (x n (omega arith)) (says_some_below n (λ i h. x i (omega arith)))) (up A n) (down A n)

pub says_any : (n : ℕ) {f : ℕ → Bool} {A : ℕ → Type 0} → ((i : ℕ) → Says (f i) (A i)) → Says (any_below n f) ((i : ℕ) × (i < n) × A i)
says_any n x = says_some_below n (λ i h. x i)
