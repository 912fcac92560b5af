-- The places of a sheet that is well laid out lie within it: what the accessors ask, from `Layout`.
use Rattle.std.specs.Prelude.{List, ℕ, ◌+◌, ◌*◌, ◌≤◌, ◌<◌, length}
use Rattle.std.proofs.Common.{mul-le-mul, arith}
use Rattle.definitions.specs.Sheet.{T, N, P, S, items_at, state_at, count, item_at, items, Layout}
use Rattle.sheet.specs.Places.{action_at, goto_at, production_before, action_before, goto_before, states_rise, items_rise, state_before, state_place}

module _ (t : List ℕ) (l : Layout t) where
  -- the states stand within the sheet
  pub places_within : (s : ℕ) → s ≤ S t → state_at t s ≤ length t
  places_within s h = omega (arith, l.exact, states_rise t s (S t) h)

  pub items_within : items_at t ≤ length t
  items_within = places_within 0 (omega arith)

  pub head_within : 9 ≤ length t
  head_within = omega (arith, items_within)

  pub production_within : (p : ℕ) → p < P t → 9 + 10 * p + 10 ≤ length t
  production_within p h = omega (arith, items_within, production_before t p h)

  pub action_within : (s a : ℕ) → s < S t → a < T t → action_at t s a + 2 ≤ length t
  action_within s a h k = omega (arith, items_within, action_before t s a h k)

  pub goto_within : (s n : ℕ) → s < S t → n < N t → goto_at t s n + 1 ≤ length t
  goto_within s n h k = omega (arith, items_within, goto_before t s n h k)

  -- a state with all its items
  pub state_whole : (s : ℕ) → s < S t → state_at t s + (2 + 10 * count t s) ≤ length t
  state_whole s h = omega (arith, l.exact, state_before t s (S t) h)

  pub state_within : (s : ℕ) → s < S t → state_at t s + 2 ≤ length t
  state_within s h = omega (arith, state_whole s h)

  pub item_within : (s i : ℕ) → s < S t → i < count t s → item_at t s i + 10 ≤ length t
  item_within s i h k = omega (arith, state_whole s h)

  -- the items of the first states are no more than all
  pub items_few : (s : ℕ) → s ≤ S t → items t s ≤ 2400
  items_few s h = omega (arith, l.few, items_rise t s (S t) h)

  -- no sheet is longer
  pub length_most : length t ≤ 64809
  length_most =
      omega (
        arith,
        l.exact,
        l.few,
        state_place t (S t),
        l.head,
        mul-le-mul {n₁ = S t} {m₁ = T t} {n₂ = 200} {m₂ = 64} l.head.states.1 l.head.terminals.1,
        mul-le-mul {n₁ = S t} {m₁ = N t} {n₂ = 200} {m₂ = 64} l.head.states.1 l.head.nonterminals.1,
      )
