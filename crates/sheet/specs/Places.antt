-- Where an action word and a goto byte stand; what stands at the place of a state or an item; and the order of it all, for any
-- bytes: productions, actions and gotos before the items, and one state after the other.
use Rattle.std.specs.Prelude.{◌≡◌, List, ℕ, zero, suc, ◌+◌, ◌-◌, ◌*◌, ◌≤◌, ◌<◌}
use Rattle.std.proofs.Common.{ap, zero-add, suc-add, add-one, arith}
use Rattle.definitions.specs.Sheet.{byte, word, eight, T, N, P, S, actions_at, gotos_at, items_at, state_at, count, item_at, prod, dot, ahead, items}
use Rattle.sheet.specs.Sizes.{cell_within}

-- where the action word of state s on terminal a stands
abbrev pub action_at : List ℕ → ℕ → ℕ → ℕ
action_at t s a = actions_at t + 2 * (s * T t + a)

-- where the goto byte of state s on nonterminal n stands
abbrev pub goto_at : List ℕ → ℕ → ℕ → ℕ
goto_at t s n = gotos_at t + (s * N t + n)

module _ (t : List ℕ) where
  -- productions, actions and gotos stand before the items, whatever the bytes are
  pub production_before : (p : ℕ) → p < P t → 9 + 10 * p + 10 ≤ items_at t
  production_before p h = omega arith

  pub action_before : (s a : ℕ) → s < S t → a < T t → action_at t s a + 2 ≤ items_at t
  action_before s a h k = omega (arith, cell_within s a (S t) (T t) h k)

  pub goto_before : (s n : ℕ) → s < S t → n < N t → goto_at t s n + 1 ≤ items_at t
  goto_before s n h k = omega (arith, cell_within s n (S t) (N t) h k)

  -- the state after s and the items before it, by the code's s + 1
  pub state_next : (s : ℕ) → state_at t (s + 1) ≡ state_at t s + (2 + 10 * count t s)
  state_next s = rw add-one

  pub items_next : (s : ℕ) → items t (s + 1) ≡ items t s + count t s
  items_next s = rw add-one

  -- what the functions that take a place answer, where it is that of state s or of its item i
  pub count_at : (at s : ℕ) → at ≡ state_at t s → word t at ≡ count t s
  count_at at s e = ap (word t) e

  pub next_at : (at s : ℕ) → at ≡ state_at t s → at + (2 + 10 * word t at) ≡ state_at t (s + 1)
  next_at at s e = omega (arith, count_at at s e, state_next s)

  pub prod_at : (at s i : ℕ) → at ≡ item_at t s i → byte t at ≡ prod t s i
  prod_at at s i e = ap (byte t) e

  pub dot_at : (at s i : ℕ) → at ≡ item_at t s i → byte t (at + 1) ≡ dot t s i
  dot_at at s i e = ap (λ (n : ℕ). byte t (n + 1)) e

  pub ahead-at : (at s i : ℕ) → at ≡ item_at t s i → eight t (at + 2) ≡ ahead t s i
  ahead-at at s i e = ap (λ (n : ℕ). eight t (n + 2)) e

  -- the states stand in order, and so do the counts of the items before them
  rise_by : (k s : ℕ) → (state_at t s ≤ state_at t (k + s)) × (items t s ≤ items t (k + s))
  rise_by zero s = rw zero-add (omega arith, omega arith)
  rise_by (suc k) s = let h = rise_by k s in rw suc-add (omega arith, omega arith)

  pub states_rise : (s r : ℕ) → s ≤ r → state_at t s ≤ state_at t r
  states_rise s r h =
      let e : (r - s) + s ≡ r = omega arith in
      omega (arith, rise_by (r - s) s, ap (state_at t) e)

  pub items_rise : (s r : ℕ) → s ≤ r → items t s ≤ items t r
  items_rise s r h =
      let e : (r - s) + s ≡ r = omega arith in
      omega (arith, rise_by (r - s) s, ap (items t) e)

  -- all of a state's items stand before the next state
  pub state_before : (s r : ℕ) → s < r → state_at t s + (2 + 10 * count t s) ≤ state_at t r
  state_before s r h = states_rise (suc s) r h

  -- where a state stands, by the items of the states before it
  pub state_place : (s : ℕ) → state_at t s ≡ items_at t + (2 * s + 10 * items t s)
  state_place zero = omega arith
  state_place (suc s) = omega (arith, state_place s)
