-- FIRST as the code finds it: what a production's symbols can begin with by the sets found so far, and what a turn over
-- productions makes of those sets. `Gathered` and `Turns` have the laws.
use Rattle.std.specs.Prelude.{◌≡◌, Bool, true, false, List, [], ◌∷◌, ◌⊎◌, ◌↔◌, ℕ, ◌+◌, ◌-◌, ◌^◌, ◌≤◌, ◌<◌, length, get_or}
use Rattle.terminals.specs.declared.Terminals.{Terminals}
use Rattle.definitions.specs.Sheet.{T, left, len, symbol}
use Rattle.definitions.specs.States.{Holds}
use Rattle.definitions.specs.Grammar.{Null, Begins, InFirst}

-- the set of nonterminal n, which is empty past the last
abbrev pub empty : Terminals
empty = record { bits = 0 }

abbrev pub set_at : List Terminals → ℕ → ℕ
set_at fs n = (get_or fs n empty).bits

-- ---- what the contracts say

-- the sets are FIRST of each nonterminal
abbrev pub Firsts : List ℕ → List Terminals → Type 0
Firsts t fs = (n b : ℕ) → Holds (set_at fs n) b ↔ ((b < T t) × Begins t b n)

-- r is FIRST of the symbols of production p from place d on and then what the set holds
pub record FirstOf (t : List ℕ) (p d set r : ℕ) : Type 0 where
  pub each : (a b : ℕ) → Holds set a → b < T t → InFirst t p d a b → Holds r b
  pub some : (b : ℕ) → Holds r b → (b < T t) × ((a : ℕ) × Holds set a × InFirst t p d a b)

-- x is the terminal b, or a nonterminal whose set holds it
abbrev pub Starts : List Terminals → ℕ → ℕ → Type 0
Starts fs b x = ((x < 128) × (x ≡ b)) ⊎ ((128 ≤ x) × Holds (set_at fs (x - 128)) b)

-- symbol k of production p starts with b, and those from place d up to it derive the empty string
pub record Reach (t : List ℕ) (fs : List Terminals) (b p d k : ℕ) : Type 0 where
  pub from : d ≤ k
  pub starts : Starts fs b (symbol t p k)
  pub before : (j : ℕ) → j < k → d ≤ j → Null t (symbol t p j)

abbrev pub Reaches : List ℕ → List Terminals → ℕ → ℕ → ℕ → Type 0
Reaches t fs b p d = (k : ℕ) × (k < len t p) × Reach t fs b p d k

-- all symbols from place d on derive the empty string
abbrev pub Empties : List ℕ → ℕ → ℕ → Type 0
Empties t p d = (j : ℕ) → j < len t p → d ≤ j → Null t (symbol t p j)

-- r holds what the symbols of production p from place d on start with, and the set if they are all empty
abbrev pub Gathers : List ℕ → List Terminals → ℕ → ℕ → ℕ → ℕ → Type 0
Gathers t fs p d set r = (b : ℕ) → Holds r b ↔ (Reaches t fs b p d ⊎ (Holds set b × Empties t p d))

-- how far the sets are from full: it falls as a set grows
abbrev pub missing : List Terminals → ℕ
missing [] = 0
missing (x ∷ fs) = (2 ^ 64 - x.bits) + missing fs

-- the sets hold only what is in FIRST
abbrev pub Sound : List ℕ → List Terminals → Type 0
Sound t fs = (n b : ℕ) → Holds (set_at fs n) b → (b < T t) × Begins t b n

-- what production p starts with is in the set of its left side
abbrev pub Closed : List ℕ → List Terminals → ℕ → Type 0
Closed t fs p = (b : ℕ) → Reaches t fs b p 0 → Holds (set_at fs (left t p)) b

-- what the productions from lo up to hi make of the sets, and whether that is more
pub record Turn (t : List ℕ) (lo hi : ℕ) (fs gs : List Terminals) (more : Bool) : Type 0 where
  pub long : length gs ≡ length fs
  pub sound : Sound t fs → Sound t gs
  pub no_more : missing gs ≤ missing fs
  pub falls : more ≡ true → missing gs < missing fs
  pub same : more ≡ false → gs ≡ fs
  pub closed : more ≡ false → (p : ℕ) → lo ≤ p → p < hi → Closed t fs p
