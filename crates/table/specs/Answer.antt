-- The number of the answer: 0 for yes, else the refusal; and that what is shown of it says which it is.
use Rattle.std.specs.Prelude.{◌≡◌, refl, List, ℕ, ◌<◌, Result, Ok, Err}
use Rattle.definitions.specs.Sheet as sheet
use Rattle.definitions.specs.Grammar.{GrammarRules}
use Rattle.theory.specs.Answers.{check}
use Rattle.theory.specs.Demands.Calls.{Checks, takes, two, three, four, check_tells}
use Rattle.table.specs.declared.Broken.{Broken}
use Rattle.table.specs.declared.Broken.TheVariants.{Layout, Grammar, States}
use Rattle.table.specs.declared.Condition.{Condition}
use Rattle.table.specs.Conditions.{condition}
use Rattle.table.specs.Codes.{BrokenAt, one-broken}
use Rattle.table.specs.Search.{Searched}

abbrev pub refusal_number : Broken → ℕ
refusal_number Layout = 2
refusal_number Grammar = 3
refusal_number (States c s) = 4

abbrev pub number : Result (Unit {0}) Broken → ℕ
number (Ok u) = 0
number (Err b) = refusal_number b

-- a table is checked one way
pub checks_same : {t : List ℕ} {m n : ℕ} → Checks t m → Checks t n → m ≡ n
checks_same (takes a) (takes b) = refl
checks_same (takes a) (two b) = absurd (b a.layout)
checks_same (takes a) (three l b) = absurd (b a.rules)
checks_same (takes a) (four l g b) = absurd (b a.states)
checks_same (two a) (takes b) = absurd (a b.layout)
checks_same (two a) (two b) = refl
checks_same (two a) (three l b) = absurd (a l)
checks_same (two a) (four l g b) = absurd (a l)
checks_same (three l a) (takes b) = absurd (a b.rules)
checks_same (three l a) (two b) = absurd (b l)
checks_same (three l a) (three m b) = refl
checks_same (three l a) (four m g b) = absurd (a g)
checks_same (four l g a) (takes b) = absurd (a b.states)
checks_same (four l g a) (two b) = absurd (b l)
checks_same (four l g a) (three m b) = absurd (b g)
checks_same (four l g a) (four m h b) = refl

-- the condition and the state that refusal 4 names: it is broken there
pub data Named (t : List ℕ) : Result (Unit {0}) Broken → Type 0 where
  taken : Named t (Ok tt)
  layout : Named t (Err Layout)
  grammar : Named t (Err Grammar)
  broken : {c : Condition} {s : ℕ} → s < sheet.S t → BrokenAt t s (condition c) → Named t (Err (States c s))

-- what is shown of an answer
pub record Answers (t : List ℕ) (r : Result (Unit {0}) Broken) : Type 0 where
  pub is : number r ≡ check t
  pub tells : Checks t (number r)
  pub names : Named t r

pub answers : {t : List ℕ} (r : Result (Unit {0}) Broken) → Checks t (number r) → Named t r → Answers t r
answers {t} r h n = record { is = checks_same h (check_tells t); tells = h; names = n }

-- ---- each of the four

module _ {t : List ℕ} where
  pub answers_2 : (sheet.Layout t → ⊥) → Answers t (Err Layout)
  answers_2 f = answers (Err Layout) (two f) layout

  pub answers_3 : sheet.Layout t → (GrammarRules t → ⊥) → Answers t (Err Grammar)
  answers_3 l f = answers (Err Grammar) (three l f) grammar

  -- by what the search answers
  pub searched : sheet.Layout t → GrammarRules t → (r : Result (Unit {0}) Broken) → Searched t r → Answers t r
  searched l g (Ok u) h = answers (Ok tt) (takes (record { layout = l; rules = g; states = h })) taken
  searched l g (Err (States c s)) h = answers (Err (States c s)) (four l g (one-broken t l s (condition c) h.0 h.1)) (broken h.0 h.1)
  searched l g (Err Layout) h = absurd h
  searched l g (Err Grammar) h = absurd h
