-- The parts of `Layout`, one for each function that tests one: each is a field of it, or some fields together. And what the walk over
-- the items knows of the sheet.
use Rattle.std.specs.Prelude.{◌≡◌, List, ℕ, ◌+◌, ◌*◌, ◌^◌, ◌≤◌, ◌<◌, length}
use Rattle.definitions.specs.Sheet.{word, T, N, P, S, items_at, action, goto, state_at, items, IsSymbol, Production, IsAction, IsGoto, State}

-- the symbol at place k of a right side of n: one that exists, or 0 where the place is not used
abbrev pub Placed : List ℕ → ℕ → ℕ → ℕ → Type 0
Placed t x k n = (k < n → IsSymbol t x) × (n ≤ k → x ≡ 0)

abbrev pub Productions : List ℕ → Type 0
Productions t = (p : ℕ) → p < P t → Production t p

abbrev pub Actions : List ℕ → Type 0
Actions t = (s : ℕ) → s < S t → (a : ℕ) → a < T t → IsAction t (action t s a)

abbrev pub Gotos : List ℕ → Type 0
Gotos t = (s : ℕ) → s < S t → (n : ℕ) → n < N t → IsGoto t (goto t s n)

-- all that stands before the states is there; how many productions there are, and the largest set of terminals
pub record Known (t : List ℕ) (productions all : ℕ) : Type 0 where
  pub room : items_at t ≤ length t
  pub named : productions ≡ P t
  pub sets : all + 1 ≡ 2 ^ T t

-- the state at place `at` has items, they stand within the sheet, and with m before them they are not too many
abbrev pub Fits : List ℕ → ℕ → ℕ → Type 0
Fits t at m = ((1 ≤ word t at) × (m + word t at ≤ 2400)) × (at + (2 + 10 * word t at) ≤ length t)

-- the states with their items, to the sheet's end
pub record States (t : List ℕ) : Type 0 where
  pub states : (s : ℕ) → s < S t → State t s
  pub few : items t (S t) ≤ 2400
  pub exact : length t ≡ state_at t (S t)
