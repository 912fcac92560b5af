-- Demand 1 and the table of refusals: each call, on all that can be lent, ends in exactly one of the ways below, judged in this order.
use Rattle.std.specs.Prelude.{List, ◌⊎◌, ℕ, ◌≤◌, ◌<◌, length, get_or}
use Rattle.std.proofs.Common.{inl, inr, arith}
use Rattle.std.proofs.Math.Decide.{dec_le}
use Rattle.definitions.specs.Sheet.{Layout}
use Rattle.definitions.specs.Grammar.{GrammarRules}
use Rattle.definitions.specs.States.{StateConditions, Accepted, Judged}
use Rattle.definitions.specs.Tree.{NRow, erase, yield, InOrder}
use Rattle.definitions.specs.Edits.{Edit, EditsInOrder, inserted, new_text}
use Rattle.theory.specs.Edits.FromMarks.{reading_list}
use Rattle.definitions.specs.Table.{table_of}
use Rattle.definitions.specs.Moves.{reading}
use Rattle.theory.specs.Numbers.Number.{judge, renumber}
use Rattle.definitions.specs.Answers.{refusal, Told, if, given, refuse, roomed, tabled, TextInOrder, finished}
use Rattle.theory.specs.Answers.{read_text, read_list, check, afresh, afresh_in, update, update_in}
use Rattle.theory.specs.Machine.Begun.{kinds}
use Rattle.theory.specs.Check.Judge.{judged}
use Rattle.theory.specs.Tree.InOrderD.{tree_in}
use Rattle.theory.specs.Edits.EditsD.{edits_in, text_in}
use Rattle.theory.specs.Demands.Afresh.{Fresh, reading_tells}
use Rattle.theory.specs.Demands.Update.{Updated, AsAfresh, list_tells, list_as_afresh}

-- ---- the table check: 2, 3, 4, or yes (0)
pub data Checks (t : List ℕ) : ℕ → Type 0 where
  takes : Accepted t → Checks t 0
  two : (Layout t → ⊥) → Checks t 2
  three : Layout t → (GrammarRules t → ⊥) → Checks t 3
  four : Layout t → GrammarRules t → (StateConditions t → ⊥) → Checks t 4

pub check_tells : (t : List ℕ) → Checks t (check t)
unfolding check
check_tells t = by (judged t).layout
  where
    by : (d : Dec (Layout t)) → Checks t (given d (λ l. if ((judged t).rules l) (if ((judged t).states l) 0 4) 3) 2)
    by (no n) = two n
    by (yes l) = on ((judged t).rules l)
      where
        on : (d : Dec (GrammarRules t)) → Checks t (if d (if ((judged t).states l) 0 4) 3)
        on (no n) = three l n
        on (yes g) = at ((judged t).states l)
          where
            at : (d : Dec (StateConditions t)) → Checks t (if d 0 4)
            at (no n) = four l g n
            at (yes s) = takes (record { layout = l; rules = g; states = s })

-- ---- room enough is lent
pub record Enough (tree room : List ℕ) : Type 0 where
  pub wide : 6146 ≤ length tree
  pub roomy : 16384 ≤ length room

-- refusals 1 to 4, or what comes next
pub data Judges (t tree room : List ℕ) (Next : Told → Type 0) : Told → Type 0 where
  one : (length tree < 6146) ⊎ (length room < 16384) → Judges t tree room Next (record { answer = refusal 1 0; tree = tree; room = room })
  two : Enough tree room → (Layout t → ⊥) → Judges t tree room Next (refuse tree room 2 0)
  three : Enough tree room → Layout t → (GrammarRules t → ⊥) → Judges t tree room Next (refuse tree room 3 0)
  four : Enough tree room → Layout t → GrammarRules t → (StateConditions t → ⊥) → Judges t tree room Next (refuse tree room 4 0)
  next : {x : Told} → Enough tree room → Accepted t → Next x → Judges t tree room Next x

judge_tells : (t : List ℕ) (j : Judged t) (tree room : List ℕ) (Next : Told → Type 0) (f : Accepted t → Told) → (Enough tree room → (a : Accepted t) → Next (f a))
    → Judges t tree room Next (roomed tree room (tabled t j tree room f))
judge_tells t j tree room Next f g = wide (dec_le 6146 (length tree)) (dec_le 16384 (length room))
  where
    by : Enough tree room → (d : Dec (Layout t)) → Judges t tree room Next
        (given d (λ l. given (j.rules l) (λ g. given (j.states l) (λ s. f (record { layout = l; rules = g; states = s })) (refuse tree room 4 0)) (refuse tree room 3 0)) (refuse tree room 2 0))
    by e (no n) = two e n
    by e (yes l) = on (j.rules l)
      where
        on : (d : Dec (GrammarRules t)) → Judges t tree room Next (given d (λ g. given (j.states l) (λ s. f (record { layout = l; rules = g; states = s })) (refuse tree room 4 0)) (refuse tree room 3 0))
        on (no n) = three e l n
        on (yes r) = at (j.states l)
          where
            at : (d : Dec (StateConditions t)) → Judges t tree room Next (given d (λ s. f (record { layout = l; rules = r; states = s })) (refuse tree room 4 0))
            at (no n) = four e l r n
            at (yes s) = let a : Accepted t = record { layout = l; rules = r; states = s } in next e a (g e a)

    wide : (d : Dec (6146 ≤ length tree)) (e : Dec (16384 ≤ length room)) → Judges t tree room Next
        (if d (if e (tabled t j tree room f) (record { answer = refusal 1 0; tree = tree; room = room })) (record { answer = refusal 1 0; tree = tree; room = room }))
    wide (no h) e = one (inl (omega arith))
    wide (yes h) (no k) = one (inr (omega arith))
    wide (yes h) (yes k) = by (record { wide = h; roomy = k }) j.layout

-- ---- reading afresh
pub data ReadsText (t codes : List ℕ) (first : ℕ) (tree room : List ℕ) : Told → Type 0 where
  six : (TextInOrder t codes first → ⊥) → ReadsText t codes first tree room (refuse tree room 6 0)
  reads : {x : Told} → TextInOrder t codes first → Fresh t (inserted codes) first tree room x → ReadsText t codes first tree room x

abbrev pub Afreshed : (t codes : List ℕ) (first : ℕ) (tree room : List ℕ) → Told → Type 0
Afreshed t codes first tree room = Judges t tree room (ReadsText t codes first tree room)

module _ (t codes : List ℕ) (first : ℕ) (tree room : List ℕ) where
  text_tells : Enough tree room → (a : Accepted t) (d : Dec (TextInOrder t codes first)) → ReadsText t codes first tree room (read_text t codes first tree room d)
  text_tells e a (no n) = six n
  text_tells e a (yes X) = reads X (reading_tells t a codes first X tree room)

  pub afresh_answers : Afreshed t codes first tree room (afresh t codes first tree room)
  unfolding afresh afresh_in
  afresh_answers = judge_tells t (judged t) tree room (ReadsText t codes first tree room) _ (λ e a. text_tells e a (text_in t codes first))

-- ---- updating
pub data ReadsList (t old edits codes tree room : List ℕ) : Told → Type 0 where
  five : ((r : NRow) → InOrder t old r → ⊥) → ReadsList t old edits codes tree room (refuse tree room 5 0)
  six : (r : NRow) → InOrder t old r → ((es : List Edit) → EditsInOrder t (yield (erase r)) edits codes es → ⊥) → ReadsList t old edits codes tree room (refuse tree room 6 0)
  reads : {x : Told} {r : NRow} {es : List Edit} → InOrder t old r → EditsInOrder t (yield (erase r)) edits codes es
      → Updated t r (get_or old 1 0) (new_text (yield (erase r)) es codes) tree room x → AsAfresh tree room x (afresh t (kinds (new_text (yield (erase r)) es codes)) 1 tree room)
      → ReadsList t old edits codes tree room x

abbrev pub UpdatedAll : (t old edits codes tree room : List ℕ) → Told → Type 0
UpdatedAll t old edits codes tree room = Judges t tree room (ReadsList t old edits codes tree room)

module _ (t old edits codes tree room : List ℕ) where
  row_tells : Enough tree room → (a : Accepted t) (d : Dec ((r : NRow) × InOrder t old r)) (e : (r : NRow) → Dec ((es : List Edit) × EditsInOrder t (yield (erase r)) edits codes es))
      → ReadsList t old edits codes tree room (read_list t old edits codes tree room d e)
  row_tells E a (no n) e = five (λ r h. n (r, h))
  row_tells E a (yes h) e = by (e h.0)
    where
      by : (d : Dec ((es : List Edit) × EditsInOrder t (yield (erase h.0)) edits codes es)) → ReadsList t old edits codes tree room
          (given d (λ e. finished tree room (renumber (judge h.0) h.0 (get_or old 1 0)) (reading (table_of t) 2048 (reading_list (erase h.0) e.0 codes))) (refuse tree room 6 0))
      by (no n) = six h.0 h.1 (λ es g. n (es, g))
      by (yes g) =
          reads h.1 g.1 (list_tells t a old edits codes h.0 h.1 g.0 g.1 tree room)
          (list_as_afresh t a old edits codes h.0 h.1 g.0 g.1 tree room E.wide E.roomy)

  pub update_answers : UpdatedAll t old edits codes tree room (update t old edits codes tree room)
  unfolding update update_in
  update_answers = judge_tells t (judged t) tree room (ReadsList t old edits codes tree room) _ (λ e a. row_tells e a (tree_in t old a.layout) (λ r. edits_in t (yield (erase r)) edits codes))
