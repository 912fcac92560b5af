-- Lists by their places: what agrees from a place on, record by record; and how often a number stands, by its places.
use Rattle.std.specs.Prelude.{◌≡◌, refl, List, [], ◌∷◌, ℕ, zero, suc, ◌+◌, ◌≤◌, ◌<◌, length}
use Rattle.std.proofs.Common.{◌∙◌, arith}
use Rattle.std.proofs.Math.Option.{some}
use Rattle.std.proofs.Math.ListN.{get_elem?}
use Rattle.theory.specs.Records.Stand.{Agree}
use Rattle.theory.specs.Numbers.Counting.{among, eqn_same}

module _ {A : Type 0} where
  pub at_some : (l : List A) (t : ℕ) → t < length l → (x : A) × (get_elem? l t ≡ some x)
  at_some [] t h = absurd (omega arith)
  at_some (y ∷ l) zero h = (y, refl)
  at_some (y ∷ l) (suc t) h = at_some l t (omega arith)

  pub agree_at : (W : List A) (p : ℕ) (l : List A) (t : ℕ) {x : A} → Agree W p l → get_elem? l t ≡ some x → get_elem? W (p + t) ≡ some x
  agree_at W p [] t g e = let z : ◌≡◌ {A = ℕ} 0 1 = cc in absurd (omega arith)
  agree_at W p (y ∷ l) zero g e = let z : p + 0 ≡ p = omega arith in rw z (g.0 ∙ e)
  agree_at W p (y ∷ l) (suc t) g e = let z : p + suc t ≡ suc p + t = omega arith in rw z (agree_at W (suc p) l t g.1 e)

  pub agree_each : (W : List A) (p : ℕ) (l : List A) → ((t : ℕ) (x : A) → get_elem? l t ≡ some x → get_elem? W (p + t) ≡ some x) → Agree W p l
  agree_each W p [] h = tt
  agree_each W p (y ∷ l) h =
      let z : p + 0 ≡ p = omega arith in
      (rw z at (h 0 y refl), agree_each W (suc p) l (λ t x e. let z : p + suc t ≡ suc p + t = omega arith in rw z at (h (suc t) x e)))

pub among-at : (l : List ℕ) (k : ℕ) {y : ℕ} → get_elem? l k ≡ some y → 0 < among y l
among-at [] k e = let z : ◌≡◌ {A = ℕ} 0 1 = cc in absurd (omega arith)
among-at (x ∷ l) zero {y} e = let z : x ≡ y = cc in rw z (omega (arith, eqn_same y))
among-at (x ∷ l) (suc k) e = omega (arith, among-at l k e)

-- of two places with one number
pub among_two : (l : List ℕ) (k m : ℕ) {y : ℕ} → k < m → get_elem? l k ≡ some y → get_elem? l m ≡ some y → 2 ≤ among y l
among_two [] k m h e g = let z : ◌≡◌ {A = ℕ} 0 1 = cc in absurd (omega arith)
among_two (x ∷ l) k zero h e g = absurd (omega arith)
among_two (x ∷ l) zero (suc m) {y} h e g = let z : x ≡ y = cc in rw z (omega (arith, eqn_same y, among-at l m g))
among_two (x ∷ l) (suc k) (suc m) h e g = omega (arith, among_two l k m (omega arith) e g)
