-- What a fresh reading tells where it is refused before the text is read, and where it goes on.
use Rattle.std.specs.Prelude.{◌≡◌, refl, List, ℕ, ◌≤◌, ◌<◌, length}
use Rattle.std.proofs.Common.{sym, subst, ◌∙◌, arith}
use Rattle.std.proofs.Math.Decide.{dec_le}
use Rattle.definitions.specs.Sheet.{Layout}
use Rattle.definitions.specs.Grammar.{GrammarRules}
use Rattle.definitions.specs.States.{Accepted, Judged, StateConditions}
use Rattle.definitions.specs.Answers.{Told, refusal, if, given, refuse, roomed, tabled}
use Rattle.theory.specs.Check.Judge.{judged}
use Rattle.theory.specs.Edits.EditsD.{text_in}
use Rattle.theory.specs.Answers.{read_text, afresh_in, afresh, enough, taken_on}
use Rattle.theory.specs.Demands.Calls.{Checks, takes, two, three, four, Enough, Afreshed, afresh_answers}

-- 1
abbrev pub small : List ℕ → List ℕ → Told
small tree room = record { answer = refusal 1 0; tree = tree; room = room }

pub short : (tree room : List ℕ) (x : Told) → (Enough tree room → ⊥) → roomed tree room x ≡ small tree room
short tree room x n = by (dec_le 6146 (length tree)) (dec_le 16384 (length room))
  where
    by : (d : Dec (6146 ≤ length tree)) (e : Dec (16384 ≤ length room)) → if d (if e x (small tree room)) (small tree room) ≡ small tree room
    by (yes h) (yes k) = absurd (n (record { wide = h; roomy = k }))
    by (yes h) (no k) = refl
    by (no h) e = refl

-- a judgement that is not so, or is so
pub given_no : {A : Type 0} {B : Type 0} (d : Dec A) (g : A → B) (y : B) → (A → ⊥) → given d g y ≡ y
given_no (yes a) g y n = absurd (n a)
given_no (no m) g y n = refl

given-on : {A : Type 0} {B : Type 0} (d : Dec A) (g : A → B) (y x : B) → A → ((a : A) → g a ≡ x) → given d g y ≡ x
given-on (yes a) g y x w e = e a
given-on (no m) g y x w e = absurd (m w)

-- 2, 3 and 4, whatever made the judgements
module _ (t : List ℕ) (j : Judged t) (tree room : List ℕ) (f : Accepted t → Told) where
  pub told-2 : (Layout t → ⊥) → tabled t j tree room f ≡ refuse tree room 2 0
  told-2 n = given_no j.layout _ _ n

  pub told-3 : Layout t → (GrammarRules t → ⊥) → tabled t j tree room f ≡ refuse tree room 3 0
  told-3 l n = given-on j.layout _ _ _ l (λ k. given_no (j.rules k) _ _ n)

  pub told-4 : Layout t → GrammarRules t → (StateConditions t → ⊥) → tabled t j tree room f ≡ refuse tree room 4 0
  told-4 l g n = given-on j.layout _ _ _ l (λ k. given-on (j.rules k) _ _ _ g (λ h. given_no (j.states k) _ _ n))

-- a table that is checked with 0 is accepted
pub taken : {t : List ℕ} {n : ℕ} → n ≡ 0 → Checks t n → Accepted t
taken e (takes a) = a
taken e (two l) = absurd (omega arith)
taken e (three l g) = absurd (omega arith)
taken e (four l g s) = absurd (omega arith)

-- ---- the call

module _ (t codes : List ℕ) (first : ℕ) (tree room : List ℕ) where
  pub too_short : (Enough tree room → ⊥) → afresh t codes first tree room ≡ small tree room
  unfolding afresh
  too_short n = short tree room _ n

  abbrev on : Accepted t → Told
  on a = read_text t codes first tree room (text_in t codes first)

  pub refused_by : 6146 ≤ length tree → 16384 ≤ length room → (n : ℕ) → 0 < n → Checks t n → afresh t codes first tree room ≡ refuse tree room n 0
  unfolding afresh afresh_in
  refused_by h k n p (takes a) = absurd (omega arith)
  refused_by h k n p (two l) = enough tree room _ h k ∙ told-2 t (judged t) tree room on l
  refused_by h k n p (three l g) = enough tree room _ h k ∙ told-3 t (judged t) tree room on l g
  refused_by h k n p (four l g s) = enough tree room _ h k ∙ told-4 t (judged t) tree room on l g s

  pub goes_on : 6146 ≤ length tree → 16384 ≤ length room → Accepted t → afresh t codes first tree room ≡ read_text t codes first tree room (text_in t codes first)
  unfolding afresh afresh_in
  goes_on h k a = enough tree room _ h k ∙ taken_on t (judged t) a tree room _ _ (λ b. refl)

  -- what equals the call is told as demand 2 has it
  pub tells : {x : Told} → x ≡ afresh t codes first tree room → (x ≡ afresh t codes first tree room) × Afreshed t codes first tree room x
  tells e = (e, subst (Afreshed t codes first tree room) (sym e) (afresh_answers t codes first tree room))
