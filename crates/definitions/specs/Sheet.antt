-- Document 01, "The table sheet": what stands where in its bytes, and when it is well laid out and in range (else refusal 2).
use Rattle.std.specs.Prelude.{◌≡◌, List, ◌⊎◌, ℕ, zero, suc, ◌+◌, ◌-◌, ◌*◌, ◌^◌, ◌≤◌, ◌<◌, length, get_or}

-- "one byte each", "in two bytes, high first (so everywhere)", and eight bytes
abbrev pub byte : List ℕ → ℕ → ℕ
byte t i = get_or t i 0

abbrev pub word : List ℕ → ℕ → ℕ
word t i = byte t i * 256 + byte t (i + 1)

abbrev pub eight : List ℕ → ℕ → ℕ
eight t i = ((word t i * 2 ^ 16 + word t (i + 2)) * 2 ^ 16 + word t (i + 4)) * 2 ^ 16 + word t (i + 6)

-- "T terminals (1..64), N nonterminals (2..64), P productions (2..200), S states (2..200), one byte each"
abbrev pub T : List ℕ → ℕ
T t = byte t 5

abbrev pub N : List ℕ → ℕ
N t = byte t 6

abbrev pub P : List ℕ → ℕ
P t = byte t 7

abbrev pub S : List ℕ → ℕ
S t = byte t 8

-- "P productions of 10 bytes: left side, length 0..8, eight symbols, unused ones 0"
abbrev pub left : List ℕ → ℕ → ℕ
left t p = byte t (9 + 10 * p)

abbrev pub len : List ℕ → ℕ → ℕ
len t p = byte t (10 + 10 * p)

abbrev pub symbol : List ℕ → ℕ → ℕ → ℕ
symbol t p k = byte t (11 + 10 * p + k)

-- "S×T action words of two bytes, by state", "S×N goto bytes"
abbrev pub actions_at : List ℕ → ℕ
actions_at t = 9 + 10 * P t

abbrev pub gotos_at : List ℕ → ℕ
gotos_at t = actions_at t + 2 * (S t * T t)

abbrev pub items_at : List ℕ → ℕ
items_at t = gotos_at t + S t * N t

abbrev pub action : List ℕ → ℕ → ℕ → ℕ
action t s a = word t (actions_at t + 2 * (s * T t + a))

abbrev pub goto : List ℕ → ℕ → ℕ → ℕ
goto t s n = byte t (gotos_at t + (s * N t + n))

-- "For each state a two-byte item count, then items of 10 bytes: production, dot, set of lookahead terminals"
abbrev pub state_at : List ℕ → ℕ → ℕ
state_at t zero = items_at t
state_at t (suc s) = let at = state_at t s in at + (2 + 10 * word t at)

abbrev pub count : List ℕ → ℕ → ℕ
count t s = word t (state_at t s)

abbrev pub item_at : List ℕ → ℕ → ℕ → ℕ
item_at t s i = state_at t s + (2 + 10 * i)

abbrev pub prod : List ℕ → ℕ → ℕ → ℕ
prod t s i = byte t (item_at t s i)

abbrev pub dot : List ℕ → ℕ → ℕ → ℕ
dot t s i = byte t (item_at t s i + 1)

abbrev pub ahead : List ℕ → ℕ → ℕ → ℕ
ahead t s i = eight t (item_at t s i + 2)

-- the items of the first s states
abbrev pub items : List ℕ → ℕ → ℕ
items t zero = 0
items t (suc s) = items t s + count t s

-- ---- well laid out and in range

abbrev pub Between : ℕ → ℕ → ℕ → Type 0
Between lo x hi = (lo ≤ x) × (x ≤ hi)

-- "Bytes: `LRT`; version 1 in two bytes; .. terminals (1..64) .. nonterminals (2..64) .. productions (2..200) .. states (2..200)"
pub record Head (t : List ℕ) : Type 0 where
  pub letters : ((byte t 0 ≡ 76) × (byte t 1 ≡ 82)) × (byte t 2 ≡ 84)
  pub version : word t 3 ≡ 1
  pub terminals : Between 1 (T t) 64
  pub nonterminals : Between 2 (N t) 64
  pub productions : Between 2 (P t) 200
  pub states : Between 2 (S t) 200

-- "A symbol is a terminal's number, or 128 + a nonterminal's"; "every symbol .. named must exist"
abbrev pub IsSymbol : List ℕ → ℕ → Type 0
IsSymbol t x = (x < T t) ⊎ ((128 ≤ x) × (x < 128 + N t))

pub record Production (t : List ℕ) (p : ℕ) : Type 0 where
  pub of : left t p < N t
  pub short : len t p ≤ 8
  pub used : (k : ℕ) → k < len t p → IsSymbol t (symbol t p k)
  pub unused : (k : ℕ) → k < 8 → len t p ≤ k → symbol t p k ≡ 0

-- "0 error, 1 accept, 256+s shift to s, 512+p reduce by p", "other words are out of range"
abbrev pub IsAction : List ℕ → ℕ → Type 0
IsAction t w = ((w ≤ 1) ⊎ ((256 ≤ w) × (w < 256 + S t))) ⊎ ((512 ≤ w) × (w < 512 + P t))

-- "a state, or 255 for none"
abbrev pub IsGoto : List ℕ → ℕ → Type 0
IsGoto t g = (g < S t) ⊎ (g ≡ 255)

-- "Every .. production and lookahead named must exist, a dot is at most its production's length", "sets are not empty"
pub record Item (t : List ℕ) (s i : ℕ) : Type 0 where
  pub named : prod t s i < P t
  pub place : dot t s i ≤ len t (prod t s i)
  pub full : 1 ≤ ahead t s i
  pub known : ahead t s i < 2 ^ T t

-- "Items rise strictly by (production, dot)"
abbrev pub Rises : List ℕ → ℕ → ℕ → Type 0
Rises t s i = (prod t s i < prod t s (i + 1)) ⊎ ((prod t s i ≡ prod t s (i + 1)) × (dot t s i < dot t s (i + 1)))

-- "a two-byte item count (at least 1)"
pub record State (t : List ℕ) (s : ℕ) : Type 0 where
  pub some : 1 ≤ count t s
  pub items : (i : ℕ) → i < count t s → Item t s i
  pub rise : (i : ℕ) → i < count t s - 1 → Rises t s i

-- the whole sheet: "at most 2,400 items in all", "Nothing follows"
pub record Layout (t : List ℕ) : Type 0 where
  pub head : Head t
  pub productions : (p : ℕ) → p < P t → Production t p
  pub actions : (s : ℕ) → s < S t → (a : ℕ) → a < T t → IsAction t (action t s a)
  pub gotos : (s : ℕ) → s < S t → (n : ℕ) → n < N t → IsGoto t (goto t s n)
  pub states : (s : ℕ) → s < S t → State t s
  pub few : items t (S t) ≤ 2400
  pub exact : length t ≡ state_at t (S t)
