-- What the tests over the items of a state and over the symbols of a table say: `HasItem`, `In`, and "for every" one of them.
use Rattle.std.specs.Prelude.{refl, Bool, List, ℕ, ◌+◌, ◌<◌}
use Rattle.std.proofs.Common.{sym, subst, inl, inr}
use Rattle.definitions.specs.Sheet.{T, N, count, prod, dot, ahead}
use Rattle.definitions.specs.States.{Holds, HasItem, In, Symbol}
use Rattle.theory.specs.Check.StatesTest.{is_in, has_item, each_in, each_item, each_symbol}
use Rattle.theory.specs.Check.Says.{Says, says_and, says_imp, says_as, says_each_below, says_all, says_any, says_eq}
use Rattle.theory.specs.Check.SetLaws.{says_holds}

-- (p,d) is in s; (p,d,a) is in s
pub says_has : (t : List ℕ) (s p d : ℕ) → Says (has_item t s p d) (HasItem t s p d)
says_has t s p d =
    says_as (says_any (count t s) (λ i. says_and (says_eq (prod t s i) p) (says_eq (dot t s i) d)))
    (λ r. record { item = r.0; listed = r.1; production = r.2.0; place = r.2.1 })
    (λ r. (r.item, r.listed, (r.production, r.place)))

pub says_in : (t : List ℕ) (s p d a : ℕ) → Says (is_in t s p d a) (In t s p d a)
says_in t s p d a =
    says_as (says_any (count t s) (λ i. says_and (says_and (says_eq (prod t s i) p) (says_eq (dot t s i) d)) (says_holds (ahead t s i) a)))
    (λ r. record { item = r.0; listed = r.1; production = r.2.0.0; place = r.2.0.1; looks = r.2.1 })
    (λ r. (r.item, r.listed, ((r.production, r.place), r.looks)))

-- what holds of each listed item holds of each (p,d) in s
pub with_item : (t : List ℕ) (s : ℕ) (A : ℕ → ℕ → Type 0)
    → ((i : ℕ) → i < count t s → A (prod t s i) (dot t s i)) → (p d : ℕ) → HasItem t s p d → A p d
with_item t s A g p d r =
    subst (λ (p : ℕ). A p d) r.production (subst (λ (d : ℕ). A (prod t s r.item) d) r.place (g r.item r.listed))

-- what holds of each listed item and each lookahead in its set holds of each (p,d,a) in s
pub with_in : (t : List ℕ) (s a : ℕ) (A : ℕ → ℕ → Type 0) → ((i : ℕ) → i < count t s → Holds (ahead t s i) a → A (prod t s i) (dot t s i))
    → (p d : ℕ) → In t s p d a → A p d
with_in t s a A g p d r =
    subst (λ (p : ℕ). A p d) r.production (subst (λ (d : ℕ). A (prod t s r.item) d) r.place (g r.item r.listed r.looks))

-- for every (p,d) in s
pub says_item : (t : List ℕ) (s : ℕ) {f : ℕ → ℕ → Bool} {A : ℕ → ℕ → Type 0} → ((p d : ℕ) → Says (f p d) (A p d))
    → Says (each_item t s f) ((p d : ℕ) → HasItem t s p d → A p d)
says_item t s {f} {A} x =
    says_as (says_all (count t s) (λ i. x (prod t s i) (dot t s i)))
    (with_item t s A)
    (λ g i l. g (prod t s i) (dot t s i) (record { item = i; listed = l; production = refl; place = refl }))

-- for every (p,d,a) in s, where what the test says may need a fact B of the productions that the items name
pub says_each_named : (t : List ℕ) (s : ℕ) {B : ℕ → Type 0} → ((i : ℕ) → i < count t s → B (prod t s i))
    → {f : ℕ → ℕ → ℕ → Bool} {A : ℕ → ℕ → ℕ → Type 0}
    → ((p d a : ℕ) → B p → Says (f p d a) (A p d a)) → Says (each_in t s f) ((p d a : ℕ) → a < T t → In t s p d a → A p d a)
says_each_named t s named {f} {A} x =
    says_as (says_each_below (count t s) (λ i l. says_all (T t) (λ a.
    says_imp (says_holds (ahead t s i) a) (x (prod t s i) (dot t s i) a (named i l)))))
    (λ g p d a h. with_in t s a (λ p d. A p d a) (λ i l. g i l a h) p d)
    (λ g i l a h k. g (prod t s i) (dot t s i) a h (record { item = i; listed = l; production = refl; place = refl; looks = k }))

pub says_each : (t : List ℕ) (s : ℕ) {f : ℕ → ℕ → ℕ → Bool} {A : ℕ → ℕ → ℕ → Type 0} → ((p d a : ℕ) → Says (f p d a) (A p d a))
    → Says (each_in t s f) ((p d a : ℕ) → a < T t → In t s p d a → A p d a)
says_each t s x = says_each_named t s {B = λ p. Unit {0}} (λ i l. tt) (λ p d a u. x p d a)

-- for every symbol of the table
with_symbol : (t : List ℕ) (A : ℕ → Type 0)
    → ((x : ℕ) → x < T t → A x) × ((n : ℕ) → n < N t → A (128 + n)) → (x : ℕ) → Symbol t x → A x
with_symbol t A g x (inl h) = g.0 x h
with_symbol t A g x (inr r) = subst A (sym r.2) (g.1 r.0 r.1)

pub says_symbol : (t : List ℕ) {f : ℕ → Bool} {A : ℕ → Type 0} → ((x : ℕ) → Says (f x) (A x)) → Says (each_symbol t f) ((x : ℕ) → Symbol t x → A x)
says_symbol t {f} {A} y =
    says_as (says_and (says_all (T t) y) (says_all (N t) (λ n. y (128 + n))))
    (with_symbol t A)
    (λ g. (λ x h. g x (inl h), λ n h. g (128 + n) (inr (n, h, refl))))
