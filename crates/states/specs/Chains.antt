-- Condition 7 at a state, from the set of the nonterminals after the dots of the items to which a chain leads: such a set holds
-- nothing else, and another round over the items adds nothing to it.
use Rattle.std.specs.Prelude.{◌≡◌, refl, Bool, List, ◌⊎◌, ◌↔◌, ℕ, zero, suc, ◌+◌, ◌≤◌, ◌<◌}
use Rattle.std.proofs.Common.{sym, subst, inl, inr, not-suc-le-zero, arith, below_more}
use Rattle.std.proofs.Math.Path.{subst⁻¹}
use Rattle.std.specs.Int.Bits.{or_add_and}
use Rattle.std.proofs.lemmas.Nat.{and_le_r}
use Rattle.definitions.specs.Sheet.{S, left, len, symbol, prod, dot, count}
use Rattle.definitions.specs.States.{Holds, HasItem, Led, begin, next, Condition7}
use Rattle.theory.specs.Check.Says.{Says, says_as}
use Rattle.theory.specs.Check.ItemLaws.{with_item}
use Rattle.terminals.specs.Members.{Join, Within, within_is, empty_is}
use Rattle.states.specs.Items.{After}
use Rattle.states.specs.Gathering.{Exactly, exactly_none, AfterNonterminal}

-- the first of a chain: (0,0), or a dot above 0
abbrev pub First : ℕ → ℕ → Type 0
First p d = ((p ≡ 0) × (d ≡ 0)) ⊎ (0 < d)

-- item i is the first of a chain, or its left side is in the set x
abbrev pub Ready : List ℕ → ℕ → ℕ → ℕ → Type 0
Ready t s x i = First (prod t s i) (dot t s i) ⊎ Holds x (left t (prod t s i))

-- item i is, and nonterminal m stands after its dot
pub record Opens (t : List ℕ) (s x i m : ℕ) : Type 0 where
  pub ready : Ready t s x i
  pub after : After t s i (128 + m)

-- m is after the dot of an item to which a chain leads
pub record Opened (t : List ℕ) (s m : ℕ) : Type 0 where
  pub p : ℕ
  pub d : ℕ
  pub led : Led t s p d
  pub inner : d < len t p
  pub is : symbol t p d ≡ 128 + m

-- a set with nothing else in it
pub record Sound (t : List ℕ) (s x : ℕ) : Type 0 where
  pub opened : (m : ℕ) → Holds x m → Opened t s m

-- what a round over the first k items makes of x
pub record Round (t : List ℕ) (s x k y : ℕ) : Type 0 where
  pub grows : Within x y
  pub sound : Sound t s y
  pub adds : (i : ℕ) → i < k → Ready t s x i → (m : ℕ) → After t s i (128 + m) → Holds y m

-- the set that condition 7 goes by
pub record LedSet (t : List ℕ) (s x : ℕ) : Type 0 where
  pub sound : Sound t s x
  pub adds : (i : ℕ) → i < count t s → Ready t s x i → (m : ℕ) → After t s i (128 + m) → Holds x m

-- condition 7 at s
abbrev pub Condition7At : List ℕ → ℕ → Type 0
Condition7At t s = (p : ℕ) → 0 < p → HasItem t s p 0 → Led t s p 0

pub seven : (t : List ℕ) → ((s : ℕ) → s < S t → Condition7At t s) ↔ Condition7 t
unfolding Condition7
seven t = (λ f s p hs. f s hs p, λ g s hs p. g s p hs)

-- ---- the rounds

module _ {t : List ℕ} {s : ℕ} where
  pub sound_none : Sound t s 0
  sound_none = record { opened = λ m h. absurd ((empty_is 0).1 refl m h) }

  -- a chain leads to an item that is ready
  lead : {x : ℕ} → Sound t s x → (i : ℕ) → i < count t s → (c : ℕ) → dot t s i ≡ c → Ready t s x i → Led t s (prod t s i) (dot t s i)
  lead f i l c e (inl r) = begin (prod t s i) (dot t s i) (record { item = i; listed = l; production = refl; place = refl }) r
  lead f i l zero e (inr h) =
      let o = f.opened (left t (prod t s i)) h in
      subst (λ (d : ℕ). Led t s (prod t s i) d) (sym e)
      (next o.p o.d (prod t s i) o.led o.inner o.is (record { item = i; listed = l; production = refl; place = e }))
  lead f i l (suc c) e (inr h) =
      begin (prod t s i) (dot t s i) (record { item = i; listed = l; production = refl; place = refl }) (inr (omega arith))

  pub round_none : {x : ℕ} → Sound t s x → Round t s x 0 x
  round_none f = record { grows = λ b h. h; sound = f; adds = λ i l. absurd (not-suc-le-zero l) }

  pub round_more : {x k y e z : ℕ} → k < count t s → Round t s x k y → Exactly e (Opens t s y k) → Join y e z → Round t s x (k + 1) z
  round_more {x} {k} {y} {e} {z} l r f j = record {
    grows = λ b h. (j.holds b).1 (inl (r.grows b h));
    sound = record { opened = λ m h. opened m ((j.holds m).0 h) };
    adds = below_more (λ i. Ready t s x i → (m : ℕ) → After t s i (128 + m) → Holds z m) k
        (λ i h q m a. (j.holds m).1 (inl (r.adds i h q m a)))
        (λ q m a. (j.holds m).1 (inr ((f.holds m).1 (record { ready = still q; after = a }))));
  }
    where
      still : Ready t s x k → Ready t s y k
      still (inl q) = inl q
      still (inr h) = inr (r.grows (left t (prod t s k)) h)

      opened : (m : ℕ) → Holds y m ⊎ Holds e m → Opened t s m
      opened m (inl h) = r.sound.opened m h
      opened m (inr h) =
          let o = (f.holds m).0 h in
          record { p = prod t s k; d = dot t s k; led = lead r.sound k l (dot t s k) refl o.ready; inner = o.after.inner; is = o.after.is }

  -- a round that adds nothing
  pub round_same : {x y : ℕ} → Round t s x (count t s) y → y ≡ x → LedSet t s x
  round_same {x} {y} r e = record {
    sound = record { opened = λ m h. r.sound.opened m (r.grows m h) };
    adds = λ i l q m a. subst (λ (z : ℕ). Holds z m) e (r.adds i l q m a);
  }

-- a set within another is no larger a number
pub within_le : (x y : ℕ) → Within x y → x ≤ y
within_le x y f = let e = (within_is x y).0 f in let a = or_add_and x y in let b = and_le_r x y in omega arith

-- what one item opens, by whether it is ready
pub opens_in : {t : List ℕ} {s x i y : ℕ} → Ready t s x i → Exactly y (AfterNonterminal t s i) → Exactly y (Opens t s x i)
opens_in q f = record { holds = λ m. (λ h. record { ready = q; after = ((f.holds m).0 h).after }, λ o. (f.holds m).1 (record { after = o.after })) }

pub opens_out : {t : List ℕ} {s x i : ℕ} → (Ready t s x i → ⊥) → Exactly 0 (Opens t s x i)
opens_out g = exactly_none (λ m o. g o.ready)

-- item i: its dot is above 0; it is (0,0); it is (p,0) with p > 0, where the left side tells
module _ (t : List ℕ) (s x i : ℕ) {d : ℕ} (e : d ≡ dot t s i) where
  pub ready-inner : 0 < d → Ready t s x i
  ready-inner h = inl (inr (omega arith))

  pub ready-top : {p : ℕ} → p ≡ prod t s i → d ≤ 0 → p ≡ 0 → Ready t s x i
  ready-top f h k = inl (inl (omega arith, omega arith))

  pub ready-left : {b : Bool} {p : ℕ} (m : ℕ) → p ≡ prod t s i → d ≤ 0 → (p ≡ 0 → ⊥) → m ≡ left t (prod t s i) → Says b (Holds x m) → Says b (Ready t s x i)
  ready-left m f h k q y = says_as y (λ r. inr (subst (Holds x) q r)) back
    where
      back : Ready t s x i → Holds x m
      back (inl (inl r)) = let a = r.0 in absurd (k (omega arith))
      back (inl (inr r)) = absurd (omega arith)
      back (inr r) = subst⁻¹ (Holds x) q r

-- ---- condition 7 holds exactly where every item is ready

module _ {t : List ℕ} {s x : ℕ} (l : LedSet t s x) where
  -- a chain's items have their nonterminals in the set
  complete : (p d : ℕ) → Led t s p d → (m : ℕ) → d < len t p → symbol t p d ≡ 128 + m → Holds x m
  complete p d (begin p' d' has q) = with_item t s
      (λ p d. First p d → (m : ℕ) → d < len t p → symbol t p d ≡ 128 + m → Holds x m)
      (λ i h q m n e. l.adds i h (inl q) m (record { inner = n; is = e })) p' d' has q
  complete q d (next p' d' q' w h e has) = with_item t s
      (λ q d. Holds x (left t q) → (m : ℕ) → d < len t q → symbol t q d ≡ 128 + m → Holds x m)
      (λ i h k m n e. l.adds i h (inr k) m (record { inner = n; is = e })) q' 0 has (complete p' d' w (left t q') h e)

  behind : (p d : ℕ) → Led t s p d → d ≡ 0 → 0 < p → Holds x (left t p)
  behind p d (begin p' d' has (inl q)) z h = let e = q.0 in absurd (omega arith)
  behind p d (begin p' d' has (inr q)) z h = absurd (omega arith)
  behind p d (next p' d' q' w n e has) z h = complete p' d' w (left t q') n e

  pub ready_all : ((i : ℕ) → i < count t s → Ready t s x i) → Condition7At t s
  ready_all f p h has = go (f has.item has.listed)
    where
      go : Ready t s x has.item → Led t s p 0
      go (inl (inl q)) = let a = q.0 in let b = has.production in absurd (omega arith)
      go (inl (inr q)) = let b = has.place in absurd (omega arith)
      go (inr q) =
          let o = l.sound.opened (left t p) (subst (λ (p : ℕ). Holds x (left t p)) has.production q) in
          next o.p o.d p o.led o.inner o.is has

  pub all_ready : Condition7At t s → (i : ℕ) → i < count t s → Ready t s x i
  all_ready f i h = go (dot t s i) refl (prod t s i) refl
    where
      go : (d : ℕ) → dot t s i ≡ d → (p : ℕ) → prod t s i ≡ p → Ready t s x i
      go (suc d) e p q = inl (inr (omega arith))
      go zero e zero q = inl (inl (q, e))
      go zero e (suc p) q =
          inr (subst⁻¹ (λ (p : ℕ). Holds x (left t p)) q
          (behind (suc p) 0 (f (suc p) (omega arith) (record { item = i; listed = h; production = q; place = e })) refl (omega arith)))
