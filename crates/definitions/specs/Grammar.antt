-- Document 01, "Grammar rules" (else refusal 3), and the standard FIRST.
use Rattle.std.specs.Prelude.{◌≡◌, List, ◌⊎◌, ℕ, ◌-◌, ◌≤◌, ◌<◌}
use Rattle.definitions.specs.Sheet.{N, P, left, len, symbol}

-- nonterminal n derives some string of terminals: by a production of n whose every nonterminal does
pub data Derives (t : List ℕ) : ℕ → Type 0 where
  by : (p : ℕ) → p < P t → ((k : ℕ) → k < len t p → 128 ≤ symbol t p k → Derives t (symbol t p k - 128)) → Derives t (left t p)

pub record GrammarRules (t : List ℕ) : Type 0 where
  -- "Terminal 0 is the end mark and is in no right side." ".. nonterminal 0 .. is in no right side."
  pub inside : (p : ℕ) → p < P t → (k : ℕ) → k < len t p → (symbol t p k ≡ 0 → ⊥) × (symbol t p k ≡ 128 → ⊥)
  -- "Production 0 has left side 0, length 1 and a nonterminal, the start"
  pub top : (left t 0 ≡ 0) × (len t 0 ≡ 1)
  pub start : 128 ≤ symbol t 0 0
  -- "nonterminal 0 has no other production"
  pub only : (p : ℕ) → p < P t → left t p ≡ 0 → p ≡ 0
  -- "Every nonterminal derives some string of terminals, perhaps empty."
  pub derive : (n : ℕ) → n < N t → Derives t n

-- ---- FIRST

-- nonterminal n derives the empty string: by a production of n whose every symbol is a nonterminal that does
pub data Nullable (t : List ℕ) : ℕ → Type 0 where
  by : (p : ℕ) → p < P t → ((k : ℕ) → k < len t p → 128 ≤ symbol t p k) → ((k : ℕ) → k < len t p → Nullable t (symbol t p k - 128)) → Nullable t (left t p)

-- a symbol that derives the empty string
abbrev pub Null : List ℕ → ℕ → Type 0
Null t x = (128 ≤ x) × Nullable t (x - 128)

-- nonterminal n derives a string that begins with b: some symbol of a production of n is b, or derives such a string, and those
-- before it derive the empty string
pub data Begins (t : List ℕ) (b : ℕ) : ℕ → Type 0 where
  here : (p k : ℕ) → p < P t → k < len t p → symbol t p k ≡ b → ((j : ℕ) → j < k → Null t (symbol t p j)) → Begins t b (left t p)
  inside : (p k : ℕ) → p < P t → k < len t p → 128 ≤ symbol t p k → Begins t b (symbol t p k - 128) → ((j : ℕ) → j < k → Null t (symbol t p j)) → Begins t b (left t p)

-- symbol k of production p is b or derives a string that begins with b, and those from place d up to it derive the empty string
pub record Leads (t : List ℕ) (b p d k : ℕ) : Type 0 where
  pub from : d ≤ k
  pub it : (symbol t p k ≡ b) ⊎ ((128 ≤ symbol t p k) × Begins t b (symbol t p k - 128))
  pub before : (j : ℕ) → j < k → d ≤ j → Null t (symbol t p j)

-- b is in FIRST of the symbols of production p from place d on, and then a
abbrev pub InFirst : List ℕ → ℕ → ℕ → ℕ → ℕ → Type 0
InFirst t p d a b =
    ((k : ℕ) × (k < len t p) × Leads t b p d k) ⊎ ((a ≡ b) × ((j : ℕ) → j < len t p → d ≤ j → Null t (symbol t p j)))
