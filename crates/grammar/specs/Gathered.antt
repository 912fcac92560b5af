-- What the walk over a production's symbols has gathered: it goes on where a symbol derives the empty string, and stops where one
-- does not. And what it gathers by the sets of FIRST.
use Rattle.std.specs.Prelude.{◌≡◌, refl, Bool, true, false, List, ◌⊎◌, ◌↔◌, ℕ, ◌+◌, ◌-◌, ◌^◌, ◌≤◌, ◌<◌, ltb}
use Rattle.std.proofs.Common.{sym, subst, inl, inr, arith, ltb-true, ltb-false}
use Rattle.std.proofs.lemmas.Bool.{false≢true}
use Rattle.terminals.specs.declared.Terminals.{Terminals}
use Rattle.definitions.specs.Sheet.{T, P, len, symbol, Layout}
use Rattle.definitions.specs.States.{Holds}
use Rattle.definitions.specs.Grammar.{Null, Begins, Leads, InFirst}
use Rattle.theory.specs.Check.Says.{Says, says_as}
use Rattle.terminals.specs.Members.{Join, One, empty_is, held_below}
use Rattle.grammar.specs.Productions.{terminal_known}
use Rattle.grammar.specs.Sets.{some-held}
use Rattle.grammar.specs.Least.{Passes, Nulls}
use Rattle.grammar.specs.First.{set_at, Firsts, FirstOf, Starts, Reach, Reaches, Empties, Gathers}

-- ---- one symbol

pub starts_terminal : (fs : List Terminals) (x r : ℕ) → x < 128 → One x r → (b : ℕ) → Holds r b ↔ Starts fs b x
starts_terminal fs x r l o b = (λ h. inl (l, (o.holds b).0 h), back)
  where
    back : Starts fs b x → Holds r b
    back (inl h) = (o.holds b).1 h.1
    back (inr h) = let a = h.0 in absurd (omega arith)

pub starts_nonterminal : (fs : List Terminals) (x r : ℕ) → 128 ≤ x → r ≡ set_at fs (x - 128) → (b : ℕ) → Holds r b ↔ Starts fs b x
starts_nonterminal fs x r l e b = (λ h. inr (l, subst (λ (n : ℕ). Holds n b) e h), back)
  where
    back : Starts fs b x → Holds r b
    back (inl h) = let a = h.0 in absurd (omega arith)
    back (inr h) = subst (λ (n : ℕ). Holds n b) (sym e) h.1

-- the nullable set tells which symbols derive the empty string
pub says_null : (t : List ℕ) (set x : ℕ) {c : Bool} → Nulls t set → Says c (Passes false set x) → Says c (Null t x)
says_null t set x n s = says_as s to (λ h. inr (h.0, (n (x - 128)).1 h.1))
  where
    to : Passes false set x → Null t x
    to (inl h) = absurd (false≢true h.1)
    to (inr h) = (h.0, (n (x - 128)).0 h.1)

-- ---- the walk

-- r holds what the symbols from place d up to k start with, and all of those derive the empty string
pub record Seen (t : List ℕ) (fs : List Terminals) (p d k r : ℕ) : Type 0 where
  pub from : d ≤ k
  pub nulls : (j : ℕ) → j < k → d ≤ j → Null t (symbol t p j)
  pub holds : (b : ℕ) → Holds r b ↔ ((i : ℕ) × (i < k) × Reach t fs b p d i)

module _ (t : List ℕ) (fs : List Terminals) (p d : ℕ) where
  pub seen_none : Seen t fs p d d 0
  seen_none =
      record {
        from = omega arith;
        nulls = λ j h l. absurd (omega arith);
        holds = λ b. (λ h. absurd ((empty_is 0).1 refl b h), λ r. let h = r.1 in let l = r.2.from in absurd (omega arith));
      }

  -- with what symbol k starts with
  module _ (k r one s : ℕ) (seen : Seen t fs p d k r) (is : (b : ℕ) → Holds one b ↔ Starts fs b (symbol t p k)) (j : Join r one s) where
    more : (b : ℕ) → Holds s b ↔ ((i : ℕ) × (i < k + 1) × Reach t fs b p d i)
    more b = (λ h. to ((j.holds b).0 h), λ r. back r (ltb r.0 k) refl)
      where
        to : Holds r b ⊎ Holds one b → (i : ℕ) × (i < k + 1) × Reach t fs b p d i
        to (inl h) = let q = (seen.holds b).0 h in (q.0, let l = q.1 in omega arith, q.2)
        to (inr h) = (k, omega arith, record { from = seen.from; starts = (is b).0 h; before = seen.nulls })

        back : (q : (i : ℕ) × (i < k + 1) × Reach t fs b p d i) → (c : Bool) → ltb q.0 k ≡ c → Holds s b
        back q true e = (j.holds b).1 (inl ((seen.holds b).1 (q.0, ltb-true q.0 k e, q.2)))
        back q false e =
            let l = ltb-false q.0 k e in
            let m = q.1 in
            let same : q.0 ≡ k = omega arith in
            (j.holds b).1 (inr ((is b).1 (subst (λ (i : ℕ). Starts fs b (symbol t p i)) same q.2.starts)))

    pub seen_next : Null t (symbol t p k) → Seen t fs p d (k + 1) s
    seen_next n = record { from = let l = seen.from in omega arith; nulls = λ i h l. nulls i l (ltb i k) refl h; holds = more }
      where
        nulls : (i : ℕ) → d ≤ i → (c : Bool) → ltb i k ≡ c → i < k + 1 → Null t (symbol t p i)
        nulls i l true e h = seen.nulls i (ltb-true i k e) l
        nulls i l false e h =
            let m = ltb-false i k e in
            let same : k ≡ i = omega arith in
            subst (λ (i : ℕ). Null t (symbol t p i)) same n

    pub seen_stop : (set : ℕ) → k < len t p → (Null t (symbol t p k) → ⊥) → Gathers t fs p d set s
    seen_stop set h n b = (λ g. let q = (more b).0 g in inl (q.0, let l = q.1 in omega arith, q.2), back)
      where
        near : (q : Reaches t fs b p d) → (c : Bool) → ltb q.0 (k + 1) ≡ c → q.0 < k + 1
        near q true e = ltb-true q.0 (k + 1) e
        near q false e = let l = ltb-false q.0 (k + 1) e in absurd (n (q.2.before k (omega arith) seen.from))

        back : Reaches t fs b p d ⊎ (Holds set b × Empties t p d) → Holds s b
        back (inl q) = (more b).1 (q.0, near q (ltb q.0 (k + 1)) refl, q.2)
        back (inr q) = absurd (n (q.1 k h seen.from))

  -- all symbols have been seen, and the set follows
  pub seen_all : (k r set s : ℕ) → Seen t fs p d k r → k ≡ len t p → Join r set s → Gathers t fs p d set s
  seen_all k r set s seen e j b = (λ h. to ((j.holds b).0 h), back)
    where
      to : Holds r b ⊎ Holds set b → Reaches t fs b p d ⊎ (Holds set b × Empties t p d)
      to (inl h) = let q = (seen.holds b).0 h in inl (q.0, let l = q.1 in omega arith, q.2)
      to (inr h) = inr (h, λ i l. seen.nulls i (omega arith))

      back : Reaches t fs b p d ⊎ (Holds set b × Empties t p d) → Holds s b
      back (inl q) = (j.holds b).1 (inl ((seen.holds b).1 (q.0, let l = q.1 in omega arith, q.2)))
      back (inr q) = (j.holds b).1 (inr q.0)

-- ---- by the sets of FIRST

module _ (t : List ℕ) (fs : List Terminals) (l : Layout t) (f : Firsts t fs) (p d : ℕ) (h : p < P t) where
  -- what leads is reached, and what is reached leads
  reached : (b k : ℕ) → b < T t → Leads t b p d k → Reach t fs b p d k
  reached b k m x = record { from = x.from; starts = go x.it; before = x.before }
    where
      go : (symbol t p k ≡ b) ⊎ ((128 ≤ symbol t p k) × Begins t b (symbol t p k - 128)) → Starts fs b (symbol t p k)
      go (inl e) = inl (omega (arith, l.head.terminals), e)
      go (inr e) = inr (e.0, (f (symbol t p k - 128) b).1 (m, e.1))

  leads : (b k : ℕ) → k < len t p → Reach t fs b p d k → (b < T t) × Leads t b p d k
  leads b k i x = go x.starts
    where
      go : Starts fs b (symbol t p k) → (b < T t) × Leads t b p d k
      go (inl e) =
          (subst (λ (n : ℕ). n < T t) e.1 (terminal_known t l p k h i e.0), record { from = x.from; it = inl e.1; before = x.before })
      go (inr e) =
          let g = (f (symbol t p k - 128) b).0 e.1 in
          (g.0, record { from = x.from; it = inr (e.0, g.1); before = x.before })

  pub first_of : (set r : ℕ) → 1 ≤ set → set < 2 ^ T t → Gathers t fs p d set r → FirstOf t p d set r
  first_of set r full known g = record { each = each; some = λ b m. some b ((g b).0 m) }
    where
      each : (a b : ℕ) → Holds set a → b < T t → InFirst t p d a b → Holds r b
      each a b i m (inl q) = (g b).1 (inl (q.0, q.1, reached b q.0 m q.2))
      each a b i m (inr q) = (g b).1 (inr (subst (Holds set) q.0 i, q.1))

      some : (b : ℕ) → Reaches t fs b p d ⊎ (Holds set b × Empties t p d) → (b < T t) × ((a : ℕ) × Holds set a × InFirst t p d a b)
      some b (inl q) =
          let x = leads b q.0 q.1 q.2 in
          let a = some-held set full in
          (x.0, (a.0, a.1, inl (q.0, q.1, x.1)))
      some b (inr q) = (held_below (T t) set b known q.0, (b, q.0, inr (refl, q.1)))
