-- Condition 1 at a state, and at one of its items.
use Rattle.std.specs.Prelude.{◌≡◌, refl, Bool, false, List, ◌↔◌, ℕ, ◌^◌, ◌<◌}
use Rattle.std.proofs.Common.{sym, subst, ◌∙◌, arith}
use Rattle.std.proofs.Math.Path.{subst⁻¹}
use Rattle.definitions.specs.Sheet.{S, prod, dot, ahead, count, Layout}
use Rattle.definitions.specs.States.{Holds, HasItem, In, Condition1}
use Rattle.theory.specs.Check.Says.{Says, says_no, says_as}
use Rattle.theory.specs.Check.ItemLaws.{with_item}
use Rattle.terminals.specs.Members.{one_is}

pub record Condition1At (t : List ℕ) (s : ℕ) : Type 0 where
  pub starts : s ≡ 0 → In t s 0 0 0
  pub dots : s ≡ 0 → (i : ℕ) → i < count t s → dot t s i ≡ 0
  pub ends : (i : ℕ) → i < count t s → prod t s i ≡ 0 → ahead t s i ≡ 2 ^ 0
  pub once : HasItem t s 0 0 → s ≡ 0

-- where the dot of (p,d) may stand in s: at 0 in state 0, and (0,0) nowhere else
pub record DotFits (s p d : ℕ) : Type 0 where
  pub dots : s ≡ 0 → d ≡ 0
  pub once : p ≡ 0 → d ≡ 0 → s ≡ 0

-- an item of production 0 looks ahead to the end alone
pub record EndFits (t : List ℕ) (s i : ℕ) : Type 0 where
  pub ends : prod t s i ≡ 0 → ahead t s i ≡ 2 ^ 0

pub record FirstFits (t : List ℕ) (s i : ℕ) : Type 0 where
  pub dot : DotFits s (prod t s i) (dot t s i)
  pub end : EndFits t s i

-- condition 1 is what it says of every state
pub one : (t : List ℕ) → Layout t → ((s : ℕ) → s < S t → Condition1At t s) ↔ Condition1 t
one t laid = (
  (λ f. record {
    starts = (f 0 (let h = laid.head.states.0 in omega arith)).starts refl;
    dots = with_item t 0 (λ p d. d ≡ 0) ((f 0 (let h = laid.head.states.0 in omega arith)).dots refl);
    ends = λ s i h l. (f s h).ends i l;
    once = λ s h. (f s h).once;
  }),
  (λ g s h. record {
    starts = λ e. subst⁻¹ (λ (s : ℕ). In t s 0 0 0) e g.starts;
    dots = λ e i l. g.dots (prod t s i) (dot t s i) (subst (λ (r : ℕ). HasItem t r (prod t s i) (dot t s i)) e (record { item = i; listed = l; production = refl; place = refl }));
    ends = λ i l. g.ends s i h l;
    once = g.once s h;
  }),
)

module _ (t : List ℕ) (s : ℕ) where
  -- of every item, and that (0,0) is in state 0
  pub first_all : ((i : ℕ) → i < count t s → FirstFits t s i) → (s ≡ 0 → HasItem t s 0 0) → Condition1At t s
  first_all f g = record {
    starts = λ e. let r = g e in record {
      item = r.item;
      listed = r.listed;
      production = r.production;
      place = r.place;
      looks = subst⁻¹ (λ (x : ℕ). Holds x 0) ((f r.item r.listed).end.ends r.production) (((one_is 0).holds 0).1 refl);
    };
    dots = λ e i l. (f i l).dot.dots e;
    ends = λ i l. (f i l).end.ends;
    once = λ r. (f r.item r.listed).dot.once r.production r.place;
  }

  pub all_first : Condition1At t s → (i : ℕ) → i < count t s → FirstFits t s i
  all_first c i l = record {
    dot = record { dots = λ e. c.dots e i l; once = λ p d. c.once (record { item = i; listed = l; production = p; place = d }) };
    end = record { ends = c.ends i l };
  }

  pub all_starts : Condition1At t s → s ≡ 0 → HasItem t s 0 0
  all_starts c e = let r = c.starts e in record { item = r.item; listed = r.listed; production = r.production; place = r.place }

-- the dot: in state 0; elsewhere of another production, above 0, of (0,0)
pub dot-start : {b : Bool} {s p d : ℕ} → s ≡ 0 → Says b (d ≡ 0) → Says b (DotFits s p d)
dot-start e y = says_as y (λ z. record { dots = λ q. z; once = λ u v. e }) (λ f. f.dots e)

pub dot-other : {s p d : ℕ} → (s ≡ 0 → ⊥) → (p ≡ 0 → ⊥) → DotFits s p d
dot-other n g = record { dots = λ e. absurd (n e); once = λ e f. absurd (g e) }

pub dot-inner : {b : Bool} {s p d : ℕ} → (s ≡ 0 → ⊥) → p ≡ 0 → Says b (d ≡ 0 → ⊥) → Says b (DotFits s p d)
dot-inner n e y = says_as y (λ g. record { dots = λ q. absurd (n q); once = λ u v. absurd (g v) }) (λ f z. n (f.once e z))

-- the set of an item of production 0
pub end_told : (t : List ℕ) (s i : ℕ) {b : Bool} {x y : ℕ} → prod t s i ≡ 0 → x ≡ ahead t s i → y ≡ 2 ^ 0 → Says b (x ≡ y) → Says b (EndFits t s i)
end_told t s i e f g w = says_as w (λ q. record { ends = λ z. sym f ∙ q ∙ g }) (λ r. f ∙ r.ends e ∙ sym g)

-- both of an item: where its dot fits, its set tells
module _ (t : List ℕ) (s i : ℕ) {p d : ℕ} (e : p ≡ prod t s i) (f : d ≡ dot t s i) where
  pub first_told : {b : Bool} → DotFits s p d → Says b (EndFits t s i) → Says b (FirstFits t s i)
  first_told g y = says_as y (λ r. record { dot = (rw (e, f) at g); end = r }) (λ r. r.end)

  pub first_not : (DotFits s p d → ⊥) → Says false (FirstFits t s i)
  first_not g = says_no (λ r. g (rw (e, f) r.dot))
