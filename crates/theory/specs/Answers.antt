-- The three calls of document 01 as total functions of all that is lent: the definitions' answers over the judgements that compute.
use Rattle.std.specs.Prelude.{◌≡◌, refl, List, ℕ, ◌≤◌, length, get_or}
use Rattle.std.proofs.Common.{◌∙◌}
use Rattle.std.proofs.Math.Decide.{dec_le}
use Rattle.definitions.specs.States.{Accepted, Judged, StateConditions}
use Rattle.definitions.specs.Sheet.{Layout}
use Rattle.definitions.specs.Grammar.{GrammarRules}
use Rattle.definitions.specs.Tree.{NRow, erase, yield, InOrder}
use Rattle.definitions.specs.Edits.{Edit, EditsInOrder}
use Rattle.definitions.specs.Answers.{Told, if, given, refuse, roomed, tabled, check_by, TextInOrder, read_text_by, read_list_by}
use Rattle.theory.specs.Numbers.Number.{new!, judge, number, renumber}
use Rattle.theory.specs.Edits.FromMarks.{reading_list}
use Rattle.theory.specs.Check.Judge.{judged}
use Rattle.theory.specs.Tree.InOrderD.{tree_in}
use Rattle.theory.specs.Edits.EditsD.{edits_in, text_in}

unfoldable pub check : List ℕ → ℕ
check t = check_by t (judged t)

-- once the table is taken
abbrev pub read_text : (t codes : List ℕ) (first : ℕ) (tree room : List ℕ) → Dec (TextInOrder t codes first) → Told
read_text t codes first = read_text_by (λ f. number (λ q c. new!) f first) t codes first

abbrev pub read_list : (t old edits codes tree room : List ℕ) → Dec ((r : NRow) × InOrder t old r)
    → ((r : NRow) → Dec ((es : List Edit) × EditsInOrder t (yield (erase r)) edits codes es)) → Told
read_list t old edits codes = read_list_by (λ r es. reading_list (erase r) es codes) (λ r. renumber (judge r) r (get_or old 1 0)) t old edits codes

-- once room enough is lent; and whatever is lent
unfoldable pub afresh_in : (t codes : List ℕ) (first : ℕ) (tree room : List ℕ) → Told
afresh_in t codes first tree room = tabled t (judged t) tree room (λ a. read_text t codes first tree room (text_in t codes first))

unfoldable pub update_in : (t old edits codes tree room : List ℕ) → Told
update_in t old edits codes tree room =
    tabled t (judged t) tree room (λ a. read_list t old edits codes tree room (tree_in t old a.layout) (λ r. edits_in t (yield (erase r)) edits codes))

unfoldable pub afresh : (t codes : List ℕ) (first : ℕ) (tree room : List ℕ) → Told
afresh t codes first tree room = roomed tree room (afresh_in t codes first tree room)

unfoldable pub update : (t old edits codes tree room : List ℕ) → Told
update t old edits codes tree room = roomed tree room (update_in t old edits codes tree room)

-- ---- a judgement that is so, or is not
pub if_yes : {A B : Type 0} (d : Dec A) (x y : B) → A → if d x y ≡ x
if_yes (yes h) x y a = refl
if_yes (no h) x y a = absurd (h a)

pub if_no : {A B : Type 0} (d : Dec A) (x y : B) → (A → ⊥) → if d x y ≡ y
if_no (yes h) x y a = absurd (a h)
if_no (no h) x y a = refl

-- room enough
pub enough : (tree room : List ℕ) (told : Told) → 6146 ≤ length tree → 16384 ≤ length room → roomed tree room told ≡ told
enough tree room told h k = if_yes (dec_le 6146 (length tree)) _ _ h ∙ if_yes (dec_le 16384 (length room)) _ _ k

-- a table that is accepted is taken, whatever made the judgements
pub taken_on : (t : List ℕ) (j : Judged t) → Accepted t → (tree room : List ℕ) (f : Accepted t → Told) (x : Told) → ((a : Accepted t) → f a ≡ x) → tabled t j tree room f ≡ x
taken_on t j a tree room f x e = by j.layout
  where
    by : (d : Dec (Layout t)) → given d (λ l. given (j.rules l) (λ g. given (j.states l) (λ s. f (record { layout = l; rules = g; states = s }))
        (refuse tree room 4 0)) (refuse tree room 3 0)) (refuse tree room 2 0) ≡ x
    by (no n) = absurd (n a.layout)
    by (yes l) = on (j.rules l)
      where
        on : (d : Dec (GrammarRules t)) → given d (λ g. given (j.states l) (λ s. f (record { layout = l; rules = g; states = s })) (refuse tree room 4 0)) (refuse tree room 3 0) ≡ x
        on (no n) = absurd (n a.rules)
        on (yes g) = at (j.states l)
          where
            at : (d : Dec (StateConditions t)) → given d (λ s. f (record { layout = l; rules = g; states = s })) (refuse tree room 4 0) ≡ x
            at (no n) = absurd (n a.states)
            at (yes s) = e (record { layout = l; rules = g; states = s })
