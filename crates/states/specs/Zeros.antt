-- The sets of the items (q,0) of a state, as an array by production: the empty set where there is none.
use Rattle.std.specs.Prelude.{◌≡◌, List, ℕ, ◌<◌, Some, None}
use Rattle.std.proofs.Common.{sym, subst, ◌∙◌}
use Rattle.std.proofs.Math.Path.{subst⁻¹}
use Rattle.definitions.specs.Sheet.{dot, ahead, count}
use Rattle.definitions.specs.States.{Holds, In}
use Rattle.states.specs.Places.{IsItem}
use Rattle.terminals.specs.declared.Terminals.{Terminals}
use Rattle.states.specs.Gathering.{Exactly, Among, entry, Puts}

-- entry q holds a where (q,0,a) is in s
abbrev pub Zeros : List ℕ → ℕ → List Terminals → Type 0
Zeros t s zeros = (q : ℕ) → q < 200 → Exactly (entry zeros q) (In t s q 0)

-- item i is (q,0), and a is in its set
pub record Zero (t : List ℕ) (s q i a : ℕ) : Type 0 where
  pub item : IsItem t s i q 0
  pub looks : Holds (ahead t s i) a

pub zero_set : {t : List ℕ} {s p i d y : ℕ} → IsItem t s i p d → d ≡ 0 → y ≡ ahead t s i → Exactly y (Zero t s p i)
zero_set e z f = record {
  holds = λ a. (
    (λ h. record { item = record { production = e.production; place = sym z ∙ e.place }; looks = subst (λ (y : ℕ). Holds y a) f h }),
    (λ r. subst⁻¹ (λ (y : ℕ). Holds y a) f r.looks),
  );
}

pub zero_in : {t : List ℕ} {s p i d : ℕ} (y : Terminals) → p < 200 → IsItem t s i p d → d ≡ 0 → y.bits ≡ ahead t s i → Puts 200 (Zero t s) i (Some (p, y))
zero_in y h e z f = (h, zero_set e z f, λ q a r. r.item.production ∙ sym e.production)

pub zero_out : {t : List ℕ} {s i d : ℕ} → d ≡ dot t s i → (d ≡ 0 → ⊥) → Puts 200 (Zero t s) i None
zero_out e g q a r = g (e ∙ sym r.item.place)

pub zeros_all : {t : List ℕ} {s : ℕ} (zeros : List Terminals) → ((q : ℕ) → q < 200 → Exactly (entry zeros q) (Among (Zero t s q) (count t s))) → Zeros t s zeros
zeros_all zeros f q h = record {
  holds = λ a. (
    (λ r. let w = ((f q h).holds a).0 r in
        record { item = w.0; listed = w.1; production = sym w.2.item.production; place = sym w.2.item.place; looks = w.2.looks }),
    (λ r. ((f q h).holds a).1 (r.item, r.listed, record { item = record { production = sym r.production; place = sym r.place }; looks = r.looks })),
  );
}
