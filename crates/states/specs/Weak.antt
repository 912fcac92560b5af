-- Condition 5 at a state, from three sets: the terminals and the nonterminals after its dots, and what its complete items look
-- ahead to. Beside conditions 1 and 4 this weaker test says all that condition 5 does.
use Rattle.std.specs.Prelude.{◌≡◌, refl, Bool, List, ◌⊎◌, ℕ, zero, suc, ◌+◌, ◌-◌, ◌^◌, ◌≤◌, ◌<◌, Some, None}
use Rattle.std.proofs.Common.{sym, subst, ◌∙◌, inl, inr, arith, lt-ltb, le-ltb, le-leb}
use Rattle.std.proofs.Math.Path.{subst⁻¹}
use Rattle.definitions.specs.Sheet.{T, N, S, len, action, goto, prod, dot, ahead, count, symbol, IsAction, Layout}
use Rattle.definitions.specs.States.{Holds, HasItem, In, Symbol, target, Goes, Reduces, Condition5}
use Rattle.theory.specs.Check.Says.{Says, says_as}
use Rattle.terminals.specs.Members.{one_is}
use Rattle.states.specs.Items.{shift_of, shift_some, shift_none, no_shift, Condition4At}
use Rattle.states.specs.Gathering.{Among, AfterTerminal, AfterNonterminal, Done}

-- what is tested of the action on a, and of the goto on n
pub record WeakAction (t : List ℕ) (s a : ℕ) : Type 0 where
  pub shifts : Goes t s a → Among (AfterTerminal t s) (count t s) a
  pub ends : (512 ≤ action t s a) ⊎ (action t s a ≡ 1) → Among (Done t s) (count t s) a

pub record WeakGoto (t : List ℕ) (s n : ℕ) : Type 0 where
  pub goes : Goes t s (128 + n) → Among (AfterNonterminal t s) (count t s) n

pub record Weak5 (t : List ℕ) (s : ℕ) : Type 0 where
  pub actions : (a : ℕ) → a < T t → WeakAction t s a
  pub gotos : (n : ℕ) → n < N t → WeakGoto t s n

-- ---- what the weak test passes, condition 5 has; what it refuses breaks condition 5

module _ (t : List ℕ) (laid : Layout t) (s : ℕ) (one : len t 0 ≡ 1) (ends : (i : ℕ) → i < count t s → prod t s i ≡ 0 → ahead t s i ≡ 2 ^ 0) where
  terminal_small : (a : ℕ) → a < T t → a < 128
  terminal_small a h = let z = laid.head.terminals.1 in omega arith

  pub five : ((i a : ℕ) → i < count t s → a < T t → Condition4At t s i a) → Weak5 t s → Condition5 t s
  five four w = record { goes = goes; reduces = reduces; accepts = accepts }
    where
      goes : (x : ℕ) → Symbol t x → Goes t s x → (i : ℕ) × (i < count t s) × ((dot t s i < len t (prod t s i)) × (symbol t (prod t s i) (dot t s i) ≡ x))
      goes x (inl h) g = let r = (w.actions x h).shifts g in (r.0, r.1, (r.2.after.inner, r.2.after.is))
      goes x (inr h) g =
          let r = (w.gotos h.0 h.1).goes (subst (Goes t s) h.2 g) in
          (r.0, r.1, (r.2.after.inner, r.2.after.is ∙ sym h.2))

      reduced : (a i p : ℕ) → i < count t s → Done t s i a → 512 ≤ action t s a → prod t s i ≡ p → Reduces (action t s a) p
          → In t s (action t s a - 512) (len t (action t s a - 512)) a
      reduced a i zero l d h e r = absurd (omega arith)
      reduced a i (suc p) l d h e r =
          let q : prod t s i ≡ action t s a - 512 = omega arith in
          record { item = i; listed = l; production = q; place = subst (λ (p : ℕ). dot t s i ≡ len t p) q d.complete; looks = d.looks }

      reduces : (a : ℕ) → a < T t → 512 ≤ action t s a → In t s (action t s a - 512) (len t (action t s a - 512)) a
      reduces a h k =
          let r = (w.actions a h).ends (inl k) in
          reduced a r.0 (prod t s r.0) r.1 r.2 k refl ((four r.0 a r.1 h).reduces r.2.looks r.2.complete)

      accepted : (a i p : ℕ) → i < count t s → Done t s i a → action t s a ≡ 1 → prod t s i ≡ p → Reduces (action t s a) p → (a ≡ 0) × HasItem t s 0 1
      accepted a i zero l d k e r = (
        sym (((one_is 0).holds a).0 (subst (λ (x : ℕ). Holds x a) (ends i l e) d.looks)),
        record { item = i; listed = l; production = e; place = subst (λ (p : ℕ). dot t s i ≡ len t p) e d.complete ∙ one },
      )
      accepted a i (suc p) l d k e r = absurd (omega arith)

      accepts : (a : ℕ) → a < T t → action t s a ≡ 1 → (a ≡ 0) × HasItem t s 0 1
      accepts a h k =
          let r = (w.actions a h).ends (inr k) in
          accepted a r.0 (prod t s r.0) r.1 r.2 k refl ((four r.0 a r.1 h).reduces r.2.looks r.2.complete)

  pub weak : Condition5 t s → Weak5 t s
  weak f = record {
    actions = λ a h. record {
      shifts = λ g. let r = f.goes a (inl h) g in (r.0, r.1, record { terminal = terminal_small a h; after = record { inner = r.2.0; is = r.2.1 } });
      ends = end a h;
    };
    gotos = λ n h. record { goes = λ g. let r = f.goes (128 + n) (inr (n, h, refl)) g in (r.0, r.1, record { after = record { inner = r.2.0; is = r.2.1 } }) };
  }
    where
      end : (a : ℕ) → a < T t → (512 ≤ action t s a) ⊎ (action t s a ≡ 1) → Among (Done t s) (count t s) a
      end a h (inl k) =
          let r = f.reduces a h k in
          (r.item, r.listed, record { complete = subst⁻¹ (λ (p : ℕ). dot t s r.item ≡ len t p) r.production r.place; looks = r.looks })
      end a h (inr k) =
          let q = f.accepts a h k in
          let r = q.1 in (
            r.item,
            r.listed,
            record {
              complete = subst⁻¹ (λ (p : ℕ). dot t s r.item ≡ len t p) r.production (r.place ∙ sym one);
              looks = subst⁻¹ (λ (x : ℕ). Holds x a) (ends r.item r.listed r.production) (((one_is 0).holds a).1 (sym q.0));
            },
          )

-- ---- the tests

-- the action on a: none, a shift, an end
module _ (t : List ℕ) (laid : Layout t) (s : ℕ) (state : s < S t) (a : ℕ) (known : a < T t) where
  small : a < 128
  small = let z = laid.head.terminals.1 in omega arith

  no_shift_is : (action t s a < 256) ⊎ (512 ≤ action t s a) → target t s a ≡ 255
  no_shift_is w = rw (lt-ltb a 128 small) (no_shift (action t s a) w)

  pub action-none : action t s a ≡ 0 → WeakAction t s a
  action-none e = record { shifts = λ g. absurd (g (no_shift_is (inl (omega arith)))); ends = end }
    where
      end : (512 ≤ action t s a) ⊎ (action t s a ≡ 1) → Among (Done t s) (count t s) a
      end (inl h) = absurd (omega arith)
      end (inr h) = absurd (omega arith)

  pub action-shift : {b : Bool} (u : ℕ) → shift_of (action t s a) ≡ Some u → Says b (Among (AfterTerminal t s) (count t s) a) → Says b (WeakAction t s a)
  action-shift u e y = says_as y (λ r. record { shifts = λ q. r; ends = end }) (λ w. w.shifts goes)
    where
      k : (256 ≤ action t s a) × (action t s a < 512) × (u ≡ action t s a - 256)
      k = shift_some (action t s a) u e

      shift_inside : IsAction t (action t s a) → action t s a - 256 < S t
      shift_inside (inl (inl h)) = absurd (omega (arith, k.0))
      shift_inside (inl (inr h)) = let c = h.1 in omega (arith, k.0)
      shift_inside (inr h) = let c = h.0 in absurd (omega (arith, k.1))

      goes : Goes t s a
      goes q =
          let z : target t s a ≡ action t s a - 256 = rw (lt-ltb a 128 small) (simp (le-leb 256 (action t s a) k.0, lt-ltb (action t s a) 512 k.1)) in
          let m = laid.head.states.1 in let i = shift_inside (laid.actions s state a known) in omega (arith, k.0, k.1)

      end : (512 ≤ action t s a) ⊎ (action t s a ≡ 1) → Among (Done t s) (count t s) a
      end (inl h) = absurd (omega (arith, k.1))
      end (inr h) = absurd (omega (arith, k.0))

  pub action_end : {b : Bool} → (action t s a ≡ 0 → ⊥) → shift_of (action t s a) ≡ None → Says b (Among (Done t s) (count t s) a) → Says b (WeakAction t s a)
  action_end g e y =
      says_as y (λ r. record { shifts = λ q. absurd (q (no_shift_is (shift_none (action t s a) e))); ends = λ q. r })
      (λ w. w.ends (which (laid.actions s state a known) (shift_none (action t s a) e)))
    where
      which : IsAction t (action t s a) → (action t s a < 256) ⊎ (512 ≤ action t s a) → (512 ≤ action t s a) ⊎ (action t s a ≡ 1)
      which (inl (inl h)) k = inr (not_none (action t s a) h g)
        where
          not_none : (w : ℕ) → w ≤ 1 → (w ≡ 0 → ⊥) → w ≡ 1
          not_none w k f = omega arith
      which (inl (inr h)) (inl k) = let u = h.0 in absurd (omega arith)
      which (inl (inr h)) (inr k) = let v = h.1 in let z = laid.head.states.1 in absurd (omega arith)
      which (inr h) k = inl h.0

-- the goto on n: none, some
module _ (t : List ℕ) (s n : ℕ) where
  goto_is_lem : target t s (128 + n) ≡ goto t s n
  goto_is_lem = let e : 128 + n - 128 ≡ n = omega arith in rw (le-ltb (128 + n) 128 (omega arith), e)

  pub goto-none : goto t s n ≡ 255 → WeakGoto t s n
  goto-none e = record { goes = λ g. absurd (g (goto_is_lem ∙ e)) }

  pub goto-some : {b : Bool} → (goto t s n ≡ 255 → ⊥) → Says b (Among (AfterNonterminal t s) (count t s) n) → Says b (WeakGoto t s n)
  goto-some g y = says_as y (λ r. record { goes = λ q. r }) (λ w. w.goes (λ q. g (sym goto_is_lem ∙ q)))
