-- What the computed nullable nonterminals, beginners and FIRST say: `Nullable`, `Begins`, `InFirst`.
use Rattle.std.specs.Prelude.{◌≡◌, refl, ◌||◌, List, ◌⊎◌, ℕ, zero, suc, ◌-◌, ◌≤◌, ◌<◌, eqb}
use Rattle.std.proofs.Common.{subst, inl, inr, arith}
use Rattle.theory.specs.Check.Every.{all_below, times}
use Rattle.theory.specs.Check.Sets.{empty, holds}
use Rattle.definitions.specs.Sheet.{N, P, left, len, symbol, Layout}
use Rattle.definitions.specs.Grammar.{Nullable, by, Null, Begins, here, inside, InFirst}
use Rattle.theory.specs.Check.GrammarTest.{in_set, null_next, nullable, reaches, begin_next, beginners, in_first}
use Rattle.theory.specs.Check.Says.{Says, says_as, says_and, says_or, says_each_below, says_some_below, says_all, says_imp, says_le, says_eq, says_so}
use Rattle.theory.specs.Check.SetLaws.{Held, says_empty, map_right}
use Rattle.theory.specs.Check.LayoutLaws.{symbol_exists}
use Rattle.theory.specs.Check.Rounds.{Under}
use Rattle.theory.specs.Check.Least.{closed, says_lefts, lefts_mono}

says_set : (set x : ℕ) → Says (in_set set x) ((128 ≤ x) × Held set (x - 128))
says_set set x = says_and (says_le 128 x) (says_so (holds set (x - 128)))

-- of a sheet well laid out, whose every symbol named exists
module _ (t : List ℕ) (laid : Layout t) where
  exist : (p k : ℕ) → p < P t → k < len t p → symbol t p k - 128 < N t
  exist = symbol_exists t laid

  -- ---- nullable
  null_mono : (a b : ℕ) → Under (N t) (holds a) (holds b) → Under (N t) (holds (null_next t a)) (holds (null_next t b))
  null_mono a b u = lefts_mono t (N t) _ _ (λ p hp e.
      let g = (says_all (len t p) (λ k. says_set a (symbol t p k))).to e in
      (says_all (len t p) (λ k. says_set b (symbol t p k))).from (λ k h. ((g k h).0, u (symbol t p k - 128) (exist p k hp h) (g k h).1)))

  null_sound : (r n : ℕ) → Held (times r (null_next t) empty) n → Nullable t n
  null_sound zero n h = absurd (says_empty n h)
  null_sound (suc r) n h =
      let set = times r (null_next t) empty in
      let l = (says_lefts t (λ p. all_below (len t p) (λ k. in_set set (symbol t p k))) n).to h in
      let g = (says_all (len t l.rule) (λ k. says_set set (symbol t l.rule k))).to l.passes in
      subst (Nullable t) l.for (by l.rule l.exists (λ k m. (g k m).0) (λ k m. null_sound r (symbol t l.rule k - 128) (g k m).1))

  null_complete : (n : ℕ) → n < N t → Nullable t n → Held (nullable t) n
  null_complete n h (by p hp f g) =
      closed (N t) (null_next t) null_mono (left t p) h
      ((says_lefts t (λ p. all_below (len t p) (λ k. in_set (nullable t) (symbol t p k))) (left t p)).from
      (record {
        rule = p;
        exists = hp;
        for = refl;
        passes = (says_all (len t p) (λ k. says_set (nullable t) (symbol t p k))).from
            (λ k m. (f k m, null_complete (symbol t p k - 128) (exist p k hp m) (g k m)));
      }))

  pub says_nullable : (n : ℕ) → n < N t → Says (holds (nullable t) n) (Nullable t n)
  says_nullable n h = record { to = null_sound (N t) n; from = null_complete n h }

  pub says_null : (p k : ℕ) → p < P t → k < len t p → Says (in_set (nullable t) (symbol t p k)) (Null t (symbol t p k))
  says_null p k hp hk = says_and (says_le 128 (symbol t p k)) (says_nullable (symbol t p k - 128) (exist p k hp hk))

  -- ---- beginners
  -- what `reaches` says, of any set
  abbrev Reach : ℕ → ℕ → ℕ → ℕ → Type 0
  Reach set b p d =
      (k : ℕ) × (k < len t p)
      × (((d ≤ k) × ((symbol t p k ≡ b) ⊎ ((128 ≤ symbol t p k) × Held set (symbol t p k - 128)))) × ((j : ℕ) → j < k → d ≤ j → Null t (symbol t p j)))

  says_reach : (set b p d : ℕ) → p < P t → Says (reaches t (nullable t) set b p d) (Reach set b p d)
  says_reach set b p d hp =
      says_some_below (len t p) (λ k hk.
      says_and (says_and (says_le d k) (says_or (says_eq (symbol t p k) b) (says_set set (symbol t p k))))
      (says_each_below k (λ j hj. says_imp (says_le d j) (says_null p j hp (omega arith)))))

  begin_mono : (c a b : ℕ) → Under (N t) (holds a) (holds b) → Under (N t) (holds (begin_next t (nullable t) c a)) (holds (begin_next t (nullable t) c b))
  begin_mono c a b u = lefts_mono t (N t) _ _ (λ p hp e.
      let r = (says_reach a c p 0 hp).to e in
      let more = map_right (λ q. (q.0, u (symbol t p r.0 - 128) (exist p r.0 hp r.1) q.1)) r.2.0.1 in
      (says_reach b c p 0 hp).from (r.0, r.1, ((r.2.0.0, more), r.2.1)))

  begin_sound : (b r n : ℕ) → Held (times r (begin_next t (nullable t) b) empty) n → Begins t b n
  begin_sound b zero n h = absurd (says_empty n h)
  begin_sound b (suc r) n h =
      let set = times r (begin_next t (nullable t) b) empty in
      let l = (says_lefts t (λ p. reaches t (nullable t) set b p 0) n).to h in
      let g = (says_reach set b l.rule 0 l.exists).to l.passes in
      subst (Begins t b) l.for
      (made l.rule g.0 l.exists g.1 (begin_sound b r (symbol t l.rule g.0 - 128)) g.2.0.1 (λ j m. g.2.1 j m (omega arith)))
    where
      made : (p k : ℕ) → p < P t → k < len t p
          → (Held (times r (begin_next t (nullable t) b) empty) (symbol t p k - 128) → Begins t b (symbol t p k - 128))
          → (symbol t p k ≡ b) ⊎ ((128 ≤ symbol t p k) × Held (times r (begin_next t (nullable t) b) empty) (symbol t p k - 128))
          → ((j : ℕ) → j < k → Null t (symbol t p j)) → Begins t b (left t p)
      made p k hp hk ih (inl e) nulls = here p k hp hk e nulls
      made p k hp hk ih (inr q) nulls = inside p k hp hk q.0 (ih q.1) nulls

  -- the beginners are closed
  close_begin : (b p : ℕ) → left t p < N t → p < P t → Reach (beginners t (nullable t) b) b p 0 → Held (beginners t (nullable t) b) (left t p)
  close_begin b p h hp r =
      closed (N t) (begin_next t (nullable t) b) (begin_mono b) (left t p) h
      ((says_lefts t (λ p. reaches t (nullable t) (beginners t (nullable t) b) b p 0) (left t p)).from
      (record { rule = p; exists = hp; for = refl; passes = (says_reach (beginners t (nullable t) b) b p 0 hp).from r }))

  begin_complete : (b n : ℕ) → n < N t → Begins t b n → Held (beginners t (nullable t) b) n
  begin_complete b n h (here p k hp hk e nulls) = close_begin b p h hp (k, hk, ((omega arith, inl e), λ j m d. nulls j m))
  begin_complete b n h (inside p k hp hk m w nulls) =
      close_begin b p h hp (k, hk, ((omega arith, inr (m, begin_complete b (symbol t p k - 128) (exist p k hp hk) w)), λ j l d. nulls j l))

  pub says_begins : (b n : ℕ) → n < N t → Says (holds (beginners t (nullable t) b) n) (Begins t b n)
  says_begins b n h = record { to = begin_sound b (N t) n; from = begin_complete b n h }

  -- ---- FIRST
  says_it : (b p k : ℕ) → p < P t → k < len t p
      → Says (eqb (symbol t p k) b || in_set (beginners t (nullable t) b) (symbol t p k))
      ((symbol t p k ≡ b) ⊎ ((128 ≤ symbol t p k) × Begins t b (symbol t p k - 128)))
  says_it b p k hp hk =
      says_or (says_eq (symbol t p k) b)
      (says_and (says_le 128 (symbol t p k)) (says_begins b (symbol t p k - 128) (exist p k hp hk)))

  pub says_first : (p d a b : ℕ) → p < P t → Says (in_first t (nullable t) (beginners t (nullable t) b) b p d a) (InFirst t p d a b)
  says_first p d a b hp =
      says_or
      (says_some_below (len t p) (λ k hk.
      says_as (says_and (says_and (says_le d k) (says_it b p k hp hk))
      (says_each_below k (λ j hj. says_imp (says_le d j) (says_null p j hp (omega arith)))))
      (λ r. record { from = r.0.0; it = r.0.1; before = r.1 })
      (λ r. ((r.from, r.it), r.before))))
      (says_and (says_eq a b) (says_each_below (len t p) (λ j hj. says_imp (says_le d j) (says_null p j hp hj))))
