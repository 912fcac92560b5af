-- Document 01's grammar rules, production by production, as the code tests them: together they are `GrammarRules`.
use Rattle.std.specs.Prelude.{◌≡◌, refl, Bool, true, false, List, ℕ, ◌%◌, ◌≤◌, ◌<◌, eqb}
use Rattle.std.proofs.Common.{arith, eqb-true}
use Rattle.std.proofs.lemmas.Bool.{eqb-false}
use Rattle.definitions.specs.Sheet.{N, P, left, len, symbol}
use Rattle.definitions.specs.Grammar.{Derives, GrammarRules}

-- "Terminal 0 is the end mark and is in no right side." ".. nonterminal 0 .. is in no right side."
abbrev pub Inside : List ℕ → ℕ → Type 0
Inside t p = (k : ℕ) → k < len t p → (symbol t p k ≡ 0 → ⊥) × (symbol t p k ≡ 128 → ⊥)

-- "nonterminal 0 has no other production"
abbrev pub Only : List ℕ → ℕ → Type 0
Only t p = left t p ≡ 0 → p ≡ 0

-- "Production 0 has left side 0, length 1 and a nonterminal, the start"
pub record Top (t : List ℕ) : Type 0 where
  pub side : left t 0 ≡ 0
  pub one : len t 0 ≡ 1
  pub start : 128 ≤ symbol t 0 0

abbrev pub Each : List ℕ → Type 0
Each t = (p : ℕ) → p < P t → Inside t p × Only t p

module _ (t : List ℕ) where
  pub rules : Top t → Each t → ((n : ℕ) → n < N t → Derives t n) → GrammarRules t
  rules a b d =
      record { inside = λ p h. (b p h).0; top = (a.side, a.one); start = a.start; only = λ p h. (b p h).1; derive = d }

  pub rules_top : GrammarRules t → Top t
  rules_top g = record { side = g.top.0; one = g.top.1; start = g.start }

  pub rules_each : GrammarRules t → Each t
  rules_each g p h = (g.inside p h, g.only p h)

-- one test finds both symbols that may not stand in a right side
pub low_rule : (x s : ℕ) → x ≡ s → x < 192 → (x % 128 ≡ 0 → ⊥) → (s ≡ 0 → ⊥) × (s ≡ 128 → ⊥)
low_rule x s e h n = (λ z. n (omega arith), λ z. n (omega arith))

pub low-broken : (x s : ℕ) → x ≡ s → x < 192 → x % 128 ≡ 0 → (s ≡ 0 → ⊥) × (s ≡ 128 → ⊥) → ⊥
low-broken x s e h z r = go (eqb x 0) refl
  where
    go : (c : Bool) → eqb x 0 ≡ c → ⊥
    go true k = r.0 (let i = eqb-true x 0 k in omega arith)
    go false k = r.1 (let i = eqb-false x 0 k in omega arith)
