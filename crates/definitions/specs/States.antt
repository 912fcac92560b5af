-- Document 01, "State conditions" (else refusal 4), one definition a condition; and when a table is accepted.
use Rattle.std.specs.Prelude.{◌≡◌, cond, ◌&&◌, List, ◌⊎◌, ℕ, zero, suc, ◌+◌, ◌-◌, ◌/◌, ◌%◌, ◌^◌, ◌≤◌, ◌<◌, leb, ltb}
use Rattle.definitions.specs.Sheet.{T, N, P, S, left, len, symbol, action, goto, count, prod, dot, ahead, Layout}
use Rattle.definitions.specs.Grammar.{InFirst, GrammarRules}

-- "terminal a has worth 2^a": a is in the set x
abbrev pub Holds : ℕ → ℕ → Type 0
Holds x a = x / 2 ^ a % 2 ≡ 1

-- the item (p,d) is in s
pub record HasItem (t : List ℕ) (s p d : ℕ) : Type 0 where
  pub item : ℕ
  pub listed : item < count t s
  pub production : prod t s item ≡ p
  pub place : dot t s item ≡ d

-- "(p,d,a) in s" means that a is in the set of s's item (p,d)
pub record In (t : List ℕ) (s p d a : ℕ) : Type 0 where
  pub item : ℕ
  pub listed : item < count t s
  pub production : prod t s item ≡ p
  pub place : dot t s item ≡ d
  pub looks : Holds (ahead t s item) a

-- a symbol of the table
abbrev pub Symbol : List ℕ → ℕ → Type 0
Symbol t x = (x < T t) ⊎ ((n : ℕ) × (n < N t) × (x ≡ 128 + n))

-- the target of the transition of s on the symbol x, a shift or a goto; 255 for none
abbrev pub target : List ℕ → ℕ → ℕ → ℕ
target t s x =
    cond (ltb x 128)
    (let w = action t s x in cond (leb 256 w && ltb w 512) (w - 256) 255)
    (goto t s (x - 128))

abbrev pub Goes : List ℕ → ℕ → ℕ → Type 0
Goes t s x = target t s x ≡ 255 → ⊥

-- 1. State 0 has (0,0,end) and only items with dot 0. Items of production 0 have the set {end}; (0,0) is in no other state.
pub record Condition1 (t : List ℕ) : Type 0 where
  pub starts : In t 0 0 0 0
  pub dots : (p d : ℕ) → HasItem t 0 p d → d ≡ 0
  pub ends : (s i : ℕ) → s < S t → i < count t s → prod t s i ≡ 0 → ahead t s i ≡ 2 ^ 0
  pub once : (s : ℕ) → s < S t → HasItem t s 0 0 → s ≡ 0

-- 2. If (p,d,a) is in s with nonterminal B after the dot, then for each production q of B
--    and each terminal b in FIRST of what follows B and then a, (q,0,b) is in s.
unfoldable pub Condition2 : List ℕ → Type 0
Condition2 t =
    (s p d a : ℕ) → s < S t → a < T t → In t s p d a → d < len t p → 128 ≤ symbol t p d
    → (q b : ℕ) → q < P t → 128 + left t q ≡ symbol t p d → b < T t → InFirst t p (d + 1) a b → In t s q 0 b

-- 3. If (p,d,a) is in s with X after the dot, s has a transition on X, and its target has (p,d+1,a).
unfoldable pub Condition3 : List ℕ → Type 0
Condition3 t =
    (s p d a : ℕ) → s < S t → a < T t → In t s p d a → d < len t p
    → Goes t s (symbol t p d) × In t (target t s (symbol t p d)) p (d + 1) a

-- 4. If (p,length,a) is in s: action(s,a) is reduce p, or for p = 0 accept.
abbrev pub Reduces : ℕ → ℕ → Type 0
Reduces w zero = w ≡ 1
Reduces w (suc p) = w ≡ 512 + suc p

unfoldable pub Condition4 : List ℕ → Type 0
Condition4 t = (s p a : ℕ) → s < S t → a < T t → In t s p (len t p) a → Reduces (action t s a) p

-- 5. A transition on X stands only where an item has X after the dot; reduce p on a only where (p,length,a) is in s;
--    accept only on end where (0,1) is.
pub record Condition5 (t : List ℕ) (s : ℕ) : Type 0 where
  pub goes : (x : ℕ) → Symbol t x → Goes t s x → (i : ℕ) × (i < count t s) × ((dot t s i < len t (prod t s i)) × (symbol t (prod t s i) (dot t s i) ≡ x))
  pub reduces : (a : ℕ) → a < T t → 512 ≤ action t s a → In t s (action t s a - 512) (len t (action t s a - 512)) a
  pub accepts : (a : ℕ) → a < T t → action t s a ≡ 1 → (a ≡ 0) × HasItem t s 0 1

-- 6. If (p,d) with d > 0 is in t, every transition into t is on the symbol before the dot, from a state with (p,d−1),
--    lookahead aside.
unfoldable pub Condition6 : List ℕ → Type 0
Condition6 t =
    (s x p d : ℕ) → s < S t → Symbol t x → Goes t s x → HasItem t (target t s x) p d → 0 < d
    → (symbol t p (d - 1) ≡ x) × HasItem t s p (d - 1)

-- 7. An item (p,0) with p > 0 stands only in a state where a chain of the state's own items leads to it: the first is (0,0) or
--    has a dot above 0, and each next one is some (q,0) whose left side is after the dot of the one before.
pub data Led (t : List ℕ) (s : ℕ) : ℕ → ℕ → Type 0 where
  begin : (p d : ℕ) → HasItem t s p d → ((p ≡ 0) × (d ≡ 0)) ⊎ (0 < d) → Led t s p d
  next : (p d q : ℕ) → Led t s p d → d < len t p → symbol t p d ≡ 128 + left t q → HasItem t s q 0 → Led t s q 0

unfoldable pub Condition7 : List ℕ → Type 0
Condition7 t = (s p : ℕ) → s < S t → 0 < p → HasItem t s p 0 → Led t s p 0

pub record StateConditions (t : List ℕ) : Type 0 where
  pub one : Condition1 t
  pub two : Condition2 t
  pub three : Condition3 t
  pub four : Condition4 t
  pub five : (s : ℕ) → s < S t → Condition5 t s
  pub six : Condition6 t
  pub seven : Condition7 t

-- "A table is taken exactly when its sheet is well laid out, its grammar keeps the rules and it meets the LR(1) conditions."
pub record Accepted (t : List ℕ) : Type 0 where
  pub layout : Layout t
  pub rules : GrammarRules t
  pub states : StateConditions t

-- the three judgements that the check makes, each one way or the other
pub record Judged (t : List ℕ) : Type 0 where
  pub layout : Dec (Layout t)
  pub rules : Layout t → Dec (GrammarRules t)
  pub states : Layout t → Dec (StateConditions t)
