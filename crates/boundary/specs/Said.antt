-- What a call's number and the small rows behind it say, in document 01's values. A reader has to believe `Says`, `Tells` and `Checked`.
use Rattle.std.specs.Prelude.{◌≡◌, refl, Result, Ok, Err, List, [], ◌∷◌, ℕ, ◌<◌}
use Rattle.std.proofs.Common.{sym, ap, ◌∙◌, subst}
use Rattle.definitions.specs.Sheet.{S}
use Rattle.definitions.specs.Reading as Reading
use Rattle.definitions.specs.Answers.{Told, counts_of}
use Rattle.definitions.specs.Answers as Answers
use Rattle.theory.specs.Answers.{check}
use Rattle.answers.specs.Values as Values
use Rattle.answers.specs.Values.{value_of, number_of, place_of}
use Rattle.answers.specs.declared.Counts.{Counts}
use Rattle.answers.specs.declared.Refusal.{Refusal}
use Rattle.reading.specs.Fresh.{told}
use Rattle.table.specs.Codes.{BrokenAt}
use Rattle.table.specs.Answer.{number, Named, broken as broken-at}
use Rattle.table.specs.Conditions.{condition}
use Rattle.table.specs.declared.Condition.{Condition}
use Rattle.table.specs.declared.Broken.{Broken}
use Rattle.table.specs.declared.Broken.TheVariants.{Layout, Grammar, States}

-- the five counts as words
abbrev pub counts : Reading.Counts → List ℕ
counts k = k.lefts ∷ k.rights ∷ k.wholes ∷ k.shifts ∷ k.reductions ∷ []

-- an answer: its number, and as words its place and the five counts
pub record Says (n : ℕ) (words : List ℕ) (a : Answers.Answer) : Type 0 where
  pub number : n ≡ number_of a
  pub values : words ≡ place_of a ∷ counts (counts_of a)

pub said : (a : Result Counts Refusal) (k : Counts) {n p : ℕ} → n ≡ number_of (value_of a) → p ≡ place_of (value_of a) → Values.counts_of k ≡ counts_of (value_of a)
    → Says n (p ∷ k.lefts ∷ k.rights ∷ k.wholes ∷ k.shifts ∷ k.reductions ∷ []) (value_of a)
said a k {n} {p} d e f = record { number = d; values = ap (λ (i : ℕ). i ∷ counts (Values.counts_of k)) e ∙ ap (λ (x : Reading.Counts). place_of (value_of a) ∷ counts x) f }

-- what a call tells: the answer, and the two lent rows afterwards
pub record Tells (n : ℕ) (words tree room : List ℕ) (x : Told) : Type 0 where
  pub says : Says n words x.answer
  pub row : tree ≡ x.tree
  pub work : room ≡ x.room

pub tells : {n : ℕ} {words tree room : List ℕ} (a : Result Counts Refusal) {x : Told} → told a tree room ≡ x → Says n words (value_of a) → Tells n words tree room x
tells {n} {words} {tree} {room} a {x} e s = subst (Tells n words tree room) e (record { says = s; row = refl; work = refl })

-- which condition the two words name, and at which state: one that is broken there with 4, else zeros
pub data Names (t : List ℕ) : ℕ → List ℕ → Type 0 where
  yes : Names t 0 (0 ∷ 0 ∷ [])
  layout : Names t 2 (0 ∷ 0 ∷ [])
  grammar : Names t 3 (0 ∷ 0 ∷ [])
  broken : {c s : ℕ} → s < S t → BrokenAt t s c → Names t 4 (c ∷ s ∷ [])

-- the table check: document 01's number, and what is named
pub record Checked (t : List ℕ) (n : ℕ) (words : List ℕ) : Type 0 where
  pub is : n ≡ check t
  pub names : Names t n words

-- ---- each answer of the table check
module _ {t : List ℕ} {r : Result (Unit {0}) Broken} (n : number r ≡ check t) where
  pub checked_0 : r ≡ Ok tt → Checked t 0 (0 ∷ 0 ∷ [])
  checked_0 e = record { is = sym (ap number e) ∙ n; names = yes }

  pub checked_2 : r ≡ Err Layout → Checked t 2 (0 ∷ 0 ∷ [])
  checked_2 e = record { is = sym (ap number e) ∙ n; names = layout }

  pub checked_3 : r ≡ Err Grammar → Checked t 3 (0 ∷ 0 ∷ [])
  checked_3 e = record { is = sym (ap number e) ∙ n; names = grammar }

  pub checked_4 : {c : Condition} {s : ℕ} → r ≡ Err (States c s) → Named t r → Checked t 4 (condition c ∷ s ∷ [])
  checked_4 {c} {s} e k = record { is = sym (ap number e) ∙ n; names = by (subst (Named t) e k) }
    where
      by : Named t (Err (States c s)) → Names t 4 (condition c ∷ s ∷ [])
      by (broken-at h b) = broken h b

-- the state that is named is one of the table's
pub state_in : {t : List ℕ} {r : Result (Unit {0}) Broken} {c : Condition} {s : ℕ} → r ≡ Err (States c s) → Named t r → s < S t
state_in {t} {r} {c} {s} e k = by (subst (Named t) e k)
  where
    by : Named t (Err (States c s)) → s < S t
    by (broken-at h b) = h
