-- Turns over the productions: one after the other, one production that adds nothing or something, and that sets to which a whole
-- round adds nothing are exactly FIRST.
use Rattle.std.specs.Prelude.{◌≡◌, refl, Bool, true, false, List, [], ◌∷◌, ◌⊎◌, ℕ, zero, suc, ◌+◌, ◌-◌, ◌^◌, ◌≤◌, ◌<◌, ltb, eqb, length, set, replicate}
use Rattle.std.proofs.Common.{sym, subst, ap, ◌∙◌, true≢false, inl, inr, ⊎_elim, not-suc-le-zero, arith, length-set, get_or-set_same, get_or-set_other, ltb-true, ltb-false, eqb-true}
use Rattle.std.proofs.lemmas.Bool.{false≢true, eqb-false}
use Rattle.terminals.specs.declared.Terminals.{Terminals}
use Rattle.definitions.specs.Sheet.{T, P, left, len, symbol, Layout}
use Rattle.definitions.specs.States.{Holds}
use Rattle.definitions.specs.Grammar.{Null, Begins, here, inside}
use Rattle.terminals.specs.Members.{Join, empty_is}
use Rattle.grammar.specs.Productions.{terminal_known}
use Rattle.grammar.specs.Sets.{within_less}
use Rattle.grammar.specs.First.{empty, set_at, Firsts, Starts, Reaches, Gathers, missing, Sound, Closed, Turn}

-- ---- how far the sets are from full

missing-set : (fs : List Terminals) (n : ℕ) (v : Terminals) → n < length fs → set_at fs n < v.bits → v.bits < 2 ^ 64 → missing (set fs n v) < missing fs
missing-set [] n v h l m = absurd (not-suc-le-zero h)
missing-set (x ∷ fs) zero v h l m = omega arith
missing-set (x ∷ fs) (suc n) v h l m = omega (arith, missing-set fs n v (omega arith) l m)

pub zeros : (k n : ℕ) → set_at (replicate k empty) n ≡ 0
zeros zero n = refl
zeros (suc k) zero = refl
zeros (suc k) (suc n) = zeros k n

module _ (t : List ℕ) where
  -- ---- one after the other

  pub turn-none : (p : ℕ) (fs : List Terminals) → Turn t p p fs fs false
  turn-none p fs =
      record {
        long = refl;
        sound = λ s. s;
        no_more = omega arith;
        falls = λ e. absurd (false≢true e);
        same = λ e. refl;
        closed = λ e q l h. absurd (omega arith);
      }

  module _ (lo p hi : ℕ) (fs gs hs : List Terminals) where
    -- after a turn with something new
    pub turn_more : (m : Bool) → Turn t lo p fs gs m → Turn t p hi gs hs true → Turn t lo hi fs hs true
    turn_more m f g =
        record {
          long = g.long ∙ f.long;
          sound = λ s. g.sound (f.sound s);
          no_more = omega (arith, f.no_more, g.no_more);
          falls = λ e. omega (arith, f.no_more, g.falls refl);
          same = λ e. absurd (true≢false e);
          closed = λ e. absurd (true≢false e);
        }

    -- after one with nothing new
    pub turn_less : (m : Bool) → Turn t lo p fs gs m → Turn t p hi gs hs false → Turn t lo hi fs hs m
    turn_less m f g =
        record {
          long = g.long ∙ f.long;
          sound = λ s. g.sound (f.sound s);
          no_more = omega (arith, f.no_more, g.no_more);
          falls = λ e. omega (arith, f.falls e, g.no_more);
          same = λ e. g.same refl ∙ f.same e;
          closed = λ e q l h. go e q l h (ltb q p) refl;
        }
      where
        go : m ≡ false → (q : ℕ) → lo ≤ q → q < hi → (c : Bool) → ltb q p ≡ c → Closed t fs q
        go e q l h true k = f.closed e q l (ltb-true q p k)
        go e q l h false k = subst (λ (fs : List Terminals). Closed t fs q) (f.same e) (g.closed refl q (ltb-false q p k) h)

  -- ---- one production

  -- what a production starts with is in FIRST of its left side
  begins : (l : Layout t) (fs : List Terminals) (p b : ℕ) → p < P t → Sound t fs → Reaches t fs b p 0 → (b < T t) × Begins t b (left t p)
  begins l fs p b h s q = go q.2.starts
    where
      nulls : (j : ℕ) → j < q.0 → Null t (symbol t p j)
      nulls j i = q.2.before j i (omega arith)

      go : Starts fs b (symbol t p q.0) → (b < T t) × Begins t b (left t p)
      go (inl e) =
          (subst (λ (n : ℕ). n < T t) e.1 (terminal_known t l p q.0 h q.1 e.0), here p q.0 h q.1 e.1 nulls)
      go (inr e) =
          let g = s (symbol t p q.0 - 128) b e.1 in
          (g.0, inside p q.0 h q.1 e.0 g.1 nulls)

  module _ (fs : List Terminals) (p got : ℕ) (new : Terminals) (g : Gathers t fs p 0 0 got) (j : Join (set_at fs (left t p)) got new.bits) where
    reaches : (b : ℕ) → Holds got b → Reaches t fs b p 0
    reaches b h = go ((g b).0 h)
      where
        go : Reaches t fs b p 0 ⊎ (Holds 0 b × ((j : ℕ) → j < len t p → 0 ≤ j → Null t (symbol t p j))) → Reaches t fs b p 0
        go (inl q) = q
        go (inr q) = absurd ((empty_is 0).1 refl b q.0)

    -- that adds nothing
    pub turn_same : new.bits ≡ set_at fs (left t p) → Turn t p (p + 1) fs fs false
    turn_same e =
        record {
          long = refl;
          sound = λ s. s;
          no_more = omega arith;
          falls = λ e. absurd (false≢true e);
          same = λ e. refl;
          closed = λ _ q l h. let same : p ≡ q = omega arith in subst (Closed t fs) same here_closed;
        }
      where
        here_closed : Closed t fs p
        here_closed b q = subst (λ (n : ℕ). Holds n b) e ((j.holds b).1 (inr ((g b).1 (inl q))))

    -- that adds something
    pub turn-set : Layout t → p < P t → left t p < length fs → new.bits < 2 ^ 64 → (new.bits ≡ set_at fs (left t p) → ⊥)
        → Turn t p (p + 1) fs (set fs (left t p) new) true
    turn-set l h i small ne =
        record {
          long = length-set fs (left t p) new;
          sound = λ s n b. sound s n b (eqb n (left t p)) refl;
          no_more = omega (arith, less);
          falls = λ e. less;
          same = λ e. absurd (true≢false e);
          closed = λ e. absurd (true≢false e);
        }
      where
        less : missing (set fs (left t p) new) < missing fs
        less = missing-set fs (left t p) new i (within_less (set_at fs (left t p)) new.bits (λ b m. (j.holds b).1 (inl m)) ne) small

        sound : Sound t fs → (n b : ℕ) → (c : Bool) → eqb n (left t p) ≡ c → Holds (set_at (set fs (left t p) new) n) b → (b < T t) × Begins t b n
        sound s n b false e m =
            s n b (subst (λ (x : ℕ). Holds x b) (ap (λ (x : Terminals). x.bits) (get_or-set_other fs (left t p) n new empty (eqb-false n (left t p) e))) m)
        sound s n b true e m =
            let same : n ≡ left t p = eqb-true n (left t p) e in
            let v : set_at (set fs (left t p) new) n ≡ new.bits = ap (set_at (set fs (left t p) new)) same ∙ ap (λ (x : Terminals). x.bits) (get_or-set_same fs (left t p) new empty i) in
            subst (λ (n : ℕ). (b < T t) × Begins t b n) (sym same)
            (⊎_elim (s (left t p) b) (λ k. begins l fs p b h s (reaches b k)) ((j.holds b).0 (subst (λ (x : ℕ). Holds x b) v m)))

  -- ---- a whole round

  pub sound_none : (fs : List Terminals) → ((n : ℕ) → set_at fs n ≡ 0) → Sound t fs
  sound_none fs z n b h = absurd ((empty_is (set_at fs n)).1 (z n) b h)

  complete : (fs : List Terminals) → ((p : ℕ) → p < P t → Closed t fs p) → T t ≤ 64 → (b : ℕ) → b < T t → (n : ℕ) → Begins t b n → Holds (set_at fs n) b
  complete fs f s b m n (here p k h i e nulls) =
      f p h b (k, i, record { from = omega arith; starts = inl (omega arith, e); before = λ j l _. nulls j l })
  complete fs f s b m n (inside p k h i big g nulls) =
      f p h b (k, i, record { from = omega arith; starts = inr (big, complete fs f s b m (symbol t p k - 128) g); before = λ j l _. nulls j l })

  pub firsts_found : Layout t → (fs gs : List Terminals) → Sound t fs → Turn t 0 (P t) fs gs false → Firsts t gs
  firsts_found l fs gs s r =
      subst (Firsts t) (sym (r.same refl))
      (λ n b. (s n b, λ q. complete fs (λ p h. r.closed refl p (omega arith) h) l.head.terminals.1 b q.0 n q.1))
