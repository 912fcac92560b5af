-- Condition 6 at a transition from s into u, from an array of the dots of s: bit d of entry p is 1 where (p,d) is in s.
use Rattle.std.specs.Prelude.{◌≡◌, refl, Bool, List, ◌↔◌, ℕ, ◌-◌, ◌<◌, Some}
use Rattle.std.proofs.Common.{sym, ◌∙◌, arith}
use Rattle.definitions.specs.Sheet.{S, symbol, prod, dot, count}
use Rattle.definitions.specs.States.{HasItem, Symbol, target, Goes, Condition6}
use Rattle.theory.specs.Check.Says.{Says, says_as}
use Rattle.theory.specs.Check.ItemLaws.{with_item}
use Rattle.terminals.specs.Members.{One}
use Rattle.terminals.specs.declared.Terminals.{Terminals}
use Rattle.states.specs.Places.{IsItem}
use Rattle.states.specs.Gathering.{Exactly, exactly_one, Among, entry, Puts}

-- the dots of s, by production
abbrev pub Dots : List ℕ → ℕ → List Terminals → Type 0
Dots t s dots = (p : ℕ) → p < 200 → Exactly (entry dots p) (HasItem t s p)

-- (p,d) stands at item i
abbrev pub Dot : List ℕ → ℕ → ℕ → ℕ → ℕ → Type 0
Dot t s p i d = IsItem t s i p d

-- condition 6 at the transition of s on x into u, and at item i of u
abbrev pub Condition6At : List ℕ → ℕ → ℕ → ℕ → Type 0
Condition6At t s x u = (p d : ℕ) → HasItem t u p d → 0 < d → (symbol t p (d - 1) ≡ x) × HasItem t s p (d - 1)

pub record Entered (t : List ℕ) (s x u i : ℕ) : Type 0 where
  pub back : 0 < dot t u i → (symbol t (prod t u i) (dot t u i - 1) ≡ x) × HasItem t s (prod t u i) (dot t u i - 1)

pub six : (t : List ℕ) → ((s x : ℕ) → s < S t → Symbol t x → Goes t s x → Condition6At t s x (target t s x)) ↔ Condition6 t
unfolding Condition6
six t = (λ f s x p d hs hx hg. f s x hs hx hg p d, λ g s x hs hx hg p d. g s x p d hs hx hg)

module _ {t : List ℕ} {s x u : ℕ} where
  pub entered_all : ((i : ℕ) → i < count t u → Entered t s x u i) → Condition6At t s x u
  entered_all f = with_item t u (λ p d. 0 < d → (symbol t p (d - 1) ≡ x) × HasItem t s p (d - 1)) (λ i l. (f i l).back)

  pub all_entered : Condition6At t s x u → (i : ℕ) → i < count t u → Entered t s x u i
  all_entered f i l = record { back = f (prod t u i) (dot t u i) (record { item = i; listed = l; production = refl; place = refl }) }

-- ---- the array

module _ {t : List ℕ} {s : ℕ} where
  -- an item puts its dot in its production's entry
  pub dot_put : {i p d : ℕ} (y : Terminals) → p < 200 → IsItem t s i p d → One d y.bits → Puts 200 (Dot t s) i (Some (p, y))
  dot_put y h e o = (h, exactly_one o e (λ a r. r.place ∙ sym e.place), λ q a r. r.production ∙ sym e.production)

  pub dots_all : (dots : List Terminals) → ((p : ℕ) → p < 200 → Exactly (entry dots p) (Among (Dot t s p) (count t s))) → Dots t s dots
  dots_all dots f p h = record {
    holds = λ b. (
      (λ r. let q = ((f p h).holds b).0 r in
          record { item = q.0; listed = q.1; production = sym q.2.production; place = sym q.2.place }),
      (λ r. ((f p h).holds b).1 (r.item, r.listed, record { production = sym r.production; place = sym r.place })),
    );
  }

-- ---- one item of u: its dot is 0; another symbol is before it; what s has tells

module _ (t : List ℕ) (u i : ℕ) {d : ℕ} (f : d ≡ dot t u i) where
  pub entered_zero : {s x : ℕ} → d ≡ 0 → Entered t s x u i
  entered_zero z = record { back = λ k. absurd (omega arith) }

  above : (d ≡ 0 → ⊥) → 0 < dot t u i
  above z = let g : dot t u i ≡ 0 → ⊥ = λ q. z (f ∙ q) in omega arith

  module _ {p y : ℕ} (e : p ≡ prod t u i) (g : y ≡ symbol t p (d - 1)) (z : d ≡ 0 → ⊥) (s x : ℕ) where
    before : y ≡ symbol t (prod t u i) (dot t u i - 1)
    before = rw (e, f) at g

    pub entered_other : (y ≡ x → ⊥) → Entered t s x u i → ⊥
    entered_other n r = n (before ∙ (r.back (above z)).0)

    pub entered_told : {b : Bool} → y ≡ x → Says b (HasItem t s p (d - 1)) → Says b (Entered t s x u i)
    entered_told n w = says_as w
        (λ r. record { back = λ k. (sym before ∙ n, (rw (e, f) at r)) })
        (λ r. rw (e, f) (r.back (above z)).1)
