-- Sets that are gathered over the items of a state: what one item puts in, and what all of them do. What R gives of an item is what a
-- closure answers of it.
use Rattle.std.specs.Prelude.{◌≡◌, refl, ⊤, Bool, true, false, List, ◌⊎◌, ◌↔◌, ℕ, ◌+◌, ◌-◌, ◌≤◌, ◌<◌, eqb, length, get_or, set, replicate, Option, Some, None}
use Rattle.std.proofs.Common.{sym, ap, subst, ◌∙◌, inl, inr, not-suc-le-zero, arith, below_more, length-set, get_or-set_same, get_or-set_other, eqb-true}
use Rattle.std.proofs.Math.Path.{subst⁻¹}
use Rattle.std.proofs.lemmas.List.{length-replicate, get_or-replicate}
use Rattle.std.proofs.lemmas.Bool.{eqb-false}
use Rattle.definitions.specs.Sheet.{len, prod, dot, ahead}
use Rattle.definitions.specs.States.{Holds}
use Rattle.theory.specs.Check.Says.{Says, says_as}
use Rattle.terminals.specs.Members.{One, Join, Within, empty_is}
use Rattle.terminals.specs.declared.Terminals.{Terminals}
use Rattle.states.specs.Places.{Lies}
use Rattle.states.specs.Items.{After, after_exists, terminal_of, nonterminal_of}

-- x holds what A says, and nothing else
pub record Exactly (x : ℕ) (A : ℕ → Type 0) : Type 0 where
  pub holds : (a : ℕ) → Holds x a ↔ A a

-- A of one of the items below k
abbrev pub Among : (ℕ → ℕ → Type 0) → ℕ → ℕ → Type 0
Among A k a = (i : ℕ) × (i < k) × A i a

-- terminal a stands after the dot of item i; nonterminal n does; item i is complete and a is in its set
pub record AfterTerminal (t : List ℕ) (s i a : ℕ) : Type 0 where
  pub terminal : a < 128
  pub after : After t s i a

pub record AfterNonterminal (t : List ℕ) (s i n : ℕ) : Type 0 where
  pub after : After t s i (128 + n)

pub record Done (t : List ℕ) (s i a : ℕ) : Type 0 where
  pub complete : dot t s i ≡ len t (prod t s i)
  pub looks : Holds (ahead t s i) a

-- ---- none, one more

pub exactly_none : {A : ℕ → Type 0} → ((a : ℕ) → A a → ⊥) → Exactly 0 A
exactly_none f = record { holds = λ a. (λ h. absurd ((empty_is 0).1 refl a h), λ r. absurd (f a r)) }

pub exactly_one : {A : ℕ → Type 0} {b x : ℕ} → One b x → A b → ((a : ℕ) → A a → a ≡ b) → Exactly x A
exactly_one {A} {b} o r f = record { holds = λ a. (λ h. subst A ((o.holds a).0 h) r, λ q. (o.holds a).1 (sym (f a q))) }

-- the test of such a set
pub exact_says : {b : Bool} {x a : ℕ} {A : ℕ → Type 0} → Exactly x A → Says b (Holds x a) → Says b (A a)
exact_says {b} {x} {a} f y = says_as y (f.holds a).0 (f.holds a).1

-- ---- one set of all items

-- x holds what the sets hold that R gives of the items below n
pub record Gathers (R : ℕ → Terminals → Type 0) (n x : ℕ) : Type 0 where
  pub each : (i : ℕ) → i < n → (y : Terminals) × R i y × Within y.bits x
  pub only : (a : ℕ) → Holds x a → (i : ℕ) × (i < n) × (y : Terminals) × R i y × Holds y.bits a

module _ {R : ℕ → Terminals → Type 0} where
  pub gathers_none : Gathers R 0 0
  gathers_none = record { each = λ i l. absurd (not-suc-le-zero l); only = λ a h. absurd ((empty_is 0).1 refl a h) }

  pub gathers_more : {n x z : ℕ} (y : Terminals) → Gathers R n x → R n y → Join x y.bits z → Gathers R (n + 1) z
  gathers_more {n} {x} {z} y g r j = record {
    each = below_more (λ i. (y : Terminals) × R i y × Within y.bits z) n
        (λ i l. let o = g.each i l in (o.0, o.1, λ b h. (j.holds b).1 (inl (o.2 b h))))
        (y, r, λ b h. (j.holds b).1 (inr h));
    only = λ a h. from a ((j.holds a).0 h);
  }
    where
      from : (a : ℕ) → Holds x a ⊎ Holds y.bits a → (i : ℕ) × (i < n + 1) × (y : Terminals) × R i y × Holds y.bits a
      from a (inl h) = let o = g.only a h in let l = o.1 in (o.0, omega arith, o.2, o.3, o.4)
      from a (inr h) = (n, omega arith, y, r, h)

  -- where each item's set holds what A says of it
  pub gathers_all : {A : ℕ → ℕ → Type 0} {n x : ℕ} → Gathers R n x → ((i : ℕ) (y : Terminals) → i < n → R i y → Exactly y.bits (A i)) → Exactly x (Among A n)
  gathers_all g f = record {
    holds = λ a. (
      (λ h. let o = g.only a h in (o.0, o.1, ((f o.0 o.2 o.1 o.3).holds a).0 o.4)),
      (λ q. let o = g.each q.0 q.1 in o.2 a (((f q.0 o.0 q.1 o.1).holds a).1 q.2)),
    );
  }

-- ---- sets in an array

-- the set in entry q
abbrev pub entry : List Terminals → ℕ → ℕ
entry sets q = (get_or sets q (record { bits = 0 })).bits

-- what one item puts in an array of w sets: in entry q what A q says of it and in no other entry anything; or nothing
abbrev pub Puts : ℕ → (ℕ → ℕ → ℕ → Type 0) → ℕ → Option (ℕ × Terminals) → Type 0
Puts w A i (Some e) = (e.0 < w) × Exactly e.1.bits (A e.0 i) × ((q a : ℕ) → A q i a → q ≡ e.0)
Puts w A i None = (q a : ℕ) → A q i a → ⊥

-- an entry of the array, if there is one
abbrev pub Inside : ℕ → Option (ℕ × Terminals) → Type 0
Inside w (Some e) = e.0 < w
Inside w None = ⊤

pub puts_inside : (w i : ℕ) (A : ℕ → ℕ → ℕ → Type 0) (o : Option (ℕ × Terminals)) → Puts w A i o → Inside w o
puts_inside w i A (Some e) p = p.0
puts_inside w i A None p = tt

-- what is put is in the array
abbrev pub Taken : List Terminals → Option (ℕ × Terminals) → Type 0
Taken sets (Some e) = Within e.1.bits (entry sets e.0)
Taken sets None = ⊤

-- the array holds what R gives of the items below n
pub record Sorts (R : ℕ → Option (ℕ × Terminals) → Type 0) (w n : ℕ) (sets : List Terminals) : Type 0 where
  pub size : length sets ≡ w
  pub each : (i : ℕ) → i < n → (o : Option (ℕ × Terminals)) × R i o × Taken sets o
  pub only : (q a : ℕ) → q < w → Holds (entry sets q) a → (i : ℕ) × (i < n) × (y : Terminals) × R i (Some (q, y)) × Holds y.bits a

module _ {R : ℕ → Option (ℕ × Terminals) → Type 0} {w : ℕ} where
  pub sorts_none : Sorts R w 0 (replicate w (record { bits = 0 }))
  sorts_none = record {
    size = length-replicate {A = Terminals} w (record { bits = 0 });
    each = λ i l. absurd (not-suc-le-zero l);
    only = λ q a l h. absurd ((empty_is 0).1 refl a (subst (λ (e : Terminals). Holds e.bits a) (get_or-replicate {A = Terminals} w q (record { bits = 0 }) (record { bits = 0 }) l) h));
  }

  -- an item that puts nothing in
  pub sorts_still : {n : ℕ} {sets : List Terminals} → R n None → Sorts R w n sets → Sorts R w (n + 1) sets
  sorts_still {n} {sets} r g = record {
    size = g.size;
    each = below_more (λ i. (o : Option (ℕ × Terminals)) × R i o × Taken sets o) n g.each (None, r, tt);
    only = λ q a l h. let o = g.only q a l h in let k = o.1 in (o.0, omega arith, o.2, o.3, o.4);
  }

  -- one that puts a set in an entry
  module _ {n : ℕ} {sets : List Terminals} {q : ℕ} {y z : Terminals} (r : R n (Some (q, y))) (h : q < w) (j : Join (entry sets q) y.bits z.bits) (g : Sorts R w n sets) where
    same : entry (set sets q z) q ≡ z.bits
    same = ap (λ (e : Terminals). e.bits) (get_or-set_same sets q z (record { bits = 0 }) (let m = g.size in omega arith))

    other : (p : ℕ) → (p ≡ q → ⊥) → entry (set sets q z) p ≡ entry sets p
    other p n = ap (λ (e : Terminals). e.bits) (get_or-set_other sets q p z (record { bits = 0 }) n)

    grows : (p b : ℕ) → Holds (entry sets p) b → Holds (entry (set sets q z) p) b
    grows p b k = go (eqb p q) refl
      where
        go : (c : Bool) → eqb p q ≡ c → Holds (entry (set sets q z) p) b
        go true e =
            let f = eqb-true p q e in
            subst⁻¹ (λ (p : ℕ). Holds (entry (set sets q z) p) b) f
            (subst⁻¹ (λ (x : ℕ). Holds x b) same ((j.holds b).1 (inl (subst (λ (p : ℕ). Holds (entry sets p) b) f k))))
        go false e = subst⁻¹ (λ (x : ℕ). Holds x b) (other p (eqb-false p q e)) k

    kept : (o : Option (ℕ × Terminals)) → Taken sets o → Taken (set sets q z) o
    kept (Some e) t = λ b k. grows e.0 b (t b k)
    kept None t = tt

    pub sorts_more : Sorts R w (n + 1) (set sets q z)
    sorts_more = record {
      size = simp length-set g.size;
      each = below_more (λ i. (o : Option (ℕ × Terminals)) × R i o × Taken (set sets q z) o) n
          (λ i l. let o = g.each i l in (o.0, o.1, kept o.0 o.2))
          (Some (q, y), r, λ b k. subst⁻¹ (λ (x : ℕ). Holds x b) same ((j.holds b).1 (inr k)));
      only = λ p a l k. only p a l k (eqb p q) refl;
    }
      where
        old : (p a : ℕ) → p < w → Holds (entry sets p) a → (i : ℕ) × (i < n + 1) × (y : Terminals) × R i (Some (p, y)) × Holds y.bits a
        old p a l k = let o = g.only p a l k in let m = o.1 in (o.0, omega arith, o.2, o.3, o.4)

        either : (p a : ℕ) → p ≡ q → p < w → Holds (entry sets q) a ⊎ Holds y.bits a → (i : ℕ) × (i < n + 1) × (y : Terminals) × R i (Some (p, y)) × Holds y.bits a
        either p a e l (inl k) = old p a l (subst⁻¹ (λ (p : ℕ). Holds (entry sets p) a) e k)
        either p a e l (inr k) = (n, omega arith, y, subst⁻¹ (λ (p : ℕ). R n (Some (p, y))) e r, k)

        only : (p a : ℕ) → p < w → Holds (entry (set sets q z) p) a → (c : Bool) → eqb p q ≡ c → (i : ℕ) × (i < n + 1) × (y : Terminals) × R i (Some (p, y)) × Holds y.bits a
        only p a l k true e =
            let f = eqb-true p q e in
            either p a f l ((j.holds a).0 (subst (λ (x : ℕ). Holds x a) same (subst (λ (p : ℕ). Holds (entry (set sets q z) p) a) f k)))
        only p a l k false e = old p a l (subst (λ (x : ℕ). Holds x a) (other p (eqb-false p q e)) k)

  -- where each item puts in what A says of it
  pub sorts_all : {A : ℕ → ℕ → ℕ → Type 0} {n : ℕ} {sets : List Terminals} → Sorts R w n sets → ((i : ℕ) (o : Option (ℕ × Terminals)) → i < n → R i o → Puts w A i o)
      → (q : ℕ) → q < w → Exactly (entry sets q) (Among (A q) n)
  sorts_all {A} {n} {sets} g f q h = record {
    holds = λ a. (
      (λ k. let o = g.only q a h k in (o.0, o.1, ((f o.0 (Some (q, o.2)) o.1 o.3).1.holds a).0 o.4)),
      (λ r. let o = g.each r.0 r.1 in to a r.0 r.2 o.0 (f r.0 o.0 r.1 o.1) o.2),
    );
  }
    where
      to : (a i : ℕ) → A q i a → (o : Option (ℕ × Terminals)) → Puts w A i o → Taken sets o → Holds (entry sets q) a
      to a i r (Some e) p t =
          let f = p.2 q a r in
          subst⁻¹ (λ (q : ℕ). Holds (entry sets q) a) f (t a ((p.1.holds a).1 (subst (λ (q : ℕ). A q i a) f r)))
      to a i r None p t = absurd (p q a r)

-- ---- what one item puts in, by what the code reads after its dot

module _ {t : List ℕ} {s at n : ℕ} (l : Lies t s at n) (i : ℕ) (h : i < n) {x : ℕ} (r : After t s i x) where
  pub small_terminal : x < 128 → x < 64
  small_terminal k = let a = terminal_of t x (after_exists l i h r) k in let b = l.laid.head.terminals.1 in omega arith

  pub small_nonterminal : 128 ≤ x → x - 128 < 64
  small_nonterminal k = let a = nonterminal_of t x l.laid (after_exists l i h r) k in let b = l.laid.head.nonterminals.1 in omega arith

-- what stands after the dot is one symbol
module _ {t : List ℕ} {s i x : ℕ} (r : After t s i x) where
  pub terminal_in : {y : ℕ} → x < 128 → One x y → Exactly y (AfterTerminal t s i)
  terminal_in k o = exactly_one o (record { terminal = k; after = r }) (λ a q. sym q.after.is ∙ r.is)

  pub terminal_out : 128 ≤ x → Exactly 0 (AfterTerminal t s i)
  terminal_out k = exactly_none (λ a q. let b = q.terminal in let e : a ≡ x = sym q.after.is ∙ r.is in omega arith)

  pub nonterminal_in : 128 ≤ x → AfterNonterminal t s i (x - 128)
  nonterminal_in k = let e : x ≡ 128 + (x - 128) = omega arith in record { after = subst (After t s i) e r }

  pub nonterminal_out : x < 128 → (m : ℕ) → AfterNonterminal t s i m → ⊥
  nonterminal_out k m q = let e : 128 + m ≡ x = sym q.after.is ∙ r.is in omega arith

-- a complete item has none
module _ {t : List ℕ} {s i : ℕ} (e : dot t s i ≡ len t (prod t s i)) where
  pub terminal_none : Exactly 0 (AfterTerminal t s i)
  terminal_none = exactly_none (λ a q. let b = q.after.inner in omega arith)

  pub nonterminal_none : (m : ℕ) → AfterNonterminal t s i m → ⊥
  nonterminal_none m q = let b = q.after.inner in omega arith

-- a nonterminal is after one dot at most
pub nonterminal_one : {t : List ℕ} {s i m k : ℕ} → AfterNonterminal t s i m → AfterNonterminal t s i k → k ≡ m
nonterminal_one {t} {s} {i} {m} {k} q r = let e : 128 + k ≡ 128 + m = sym r.after.is ∙ q.after.is in omega arith

-- the nonterminal that the code reads after a dot, and its set
abbrev pub Nonterminal : List ℕ → ℕ → ℕ → Option ℕ → Type 0
Nonterminal t s i (Some m) = (m < 64) × AfterNonterminal t s i m
Nonterminal t s i None = (m : ℕ) → AfterNonterminal t s i m → ⊥

pub nonterminal_set : {t : List ℕ} {s i m y : ℕ} → AfterNonterminal t s i m → One m y → Exactly y (AfterNonterminal t s i)
nonterminal_set q o = exactly_one o q (λ k r. nonterminal_one q r)

pub done_in : (t : List ℕ) (s i : ℕ) {y : ℕ} → dot t s i ≡ len t (prod t s i) → y ≡ ahead t s i → Exactly y (Done t s i)
done_in t s i {y} e f =
    record { holds = λ a. (λ h. record { complete = e; looks = subst (λ (y : ℕ). Holds y a) f h }, λ q. subst (λ (y : ℕ). Holds y a) (sym f) q.looks) }

pub done_out : (t : List ℕ) (s i : ℕ) → (dot t s i ≡ len t (prod t s i) → ⊥) → Exactly 0 (Done t s i)
done_out t s i g = exactly_none (λ a q. g q.complete)
