-- What the project promises, demand by demand, in the demands' own words: over document 01's definitions and the words of Demands.
use Rattle.std.specs.Prelude.{◌≡◌, List, [], ℕ, ◌+◌, ◌≤◌, ◌<◌, length, get_or}
use Rattle.definitions.specs.States.{Accepted}
use Rattle.definitions.specs.Tree.{Tok, Row, size, toks, yield, Derivation, NRow, erase, InOrder}
use Rattle.definitions.specs.Reading.{Counts}
use Rattle.definitions.specs.Edits.{Edit, EditsInOrder, inserted, new_text}
use Rattle.definitions.specs.Numbers.{Sub, Rises, news, forget, Nothing, Kept}
use Rattle.definitions.specs.Answers.{refusal, accepted, accept, TextInOrder}
use Rattle.theory.specs.Answers.{check, afresh, update}
use Rattle.theory.specs.Machine.Begun.{kinds}
use Rattle.theory.specs.Numbers.KeptNumbers.{Whence, kept_whole, kept_whence, kept_text, kept_rises, kept_raised}
use Rattle.theory.specs.Demands.Afresh.{PlaceOf, one_derivation, afresh_tells}
use Rattle.theory.specs.Demands.Update.{AsAfresh, update_tells, as_afresh}
use Rattle.theory.specs.Demands.Calls.{Checks, check_tells, Enough, Afreshed, afresh_answers, UpdatedAll, update_answers}
use Rattle.theory.specs.Demands.Exactly.{takes_exactly, Leaves, afresh_leaves, update_leaves, Within, Written, fresh_within, within_fresh, fresh_seven, fresh_eight, eight_fresh, fresh_ten, NewTree, updated_new, new_updated, kept_empty, same_empty, no_toks}

-- ---- 1. "Every call ends and judges for itself the table, tree, edits and room it is lent."
pub judges_check : (t : List ℕ) → Checks t (check t)
judges_check = check_tells

pub judges_afresh : (t codes : List ℕ) (first : ℕ) (tree room : List ℕ) → Afreshed t codes first tree room (afresh t codes first tree room)
judges_afresh = afresh_answers

pub judges_update : (t old edits codes tree room : List ℕ) → UpdatedAll t old edits codes tree room (update t old edits codes tree room)
judges_update = update_answers

-- "Each refusal has a number and a place, leaves the tree to be written untouched and the working room in a stated condition."
pub leaves_afresh : (t codes : List ℕ) (first : ℕ) (tree room : List ℕ) → Leaves tree room (afresh t codes first tree room)
leaves_afresh = afresh_leaves

pub leaves_update : (t old edits codes tree room : List ℕ) → Leaves tree room (update t old edits codes tree room)
leaves_update = update_leaves

-- ---- 2. "A table is taken exactly when its sheet is well laid out, its grammar keeps the rules and it meets the LR(1) conditions."
pub table_taken : (t : List ℕ) → (check t ≡ 0 → Accepted t) × (Accepted t → check t ≡ 0)
table_taken t = takes_exactly (check_tells t)

module _ (t : List ℕ) (A : Accepted t) where
  -- "that tree is the answer and the grammar allows no other"
  pub no_other : {w : List Tok} {f g : Row} → Derivation t w f → Derivation t w g → f ≡ g
  no_other D E = one_derivation t A D E

  module _ (codes : List ℕ) (first : ℕ) (X : TextInOrder t codes first) (tree room : List ℕ) (E : Enough tree room) where
    -- "Then, with room enough lent, a text in order is read exactly when the grammar derives it by a tree of at most 2,048 nodes and
    -- the numbers suffice; that tree is the answer"
    pub read-only-if : {k : Counts} → (afresh t codes first tree room).answer ≡ accepted k → (f : Row) × Within t (inserted codes) first f
    read-only-if e = fresh_within (afresh_tells t A codes first X tree room E.wide E.roomy) e

    pub read-if : (f : Row) → Within t (inserted codes) first f → Written first tree f (afresh t codes first tree room)
    read-if f W = within_fresh A f (afresh_tells t A codes first X tree room E.wide E.roomy) W

    -- refusal 7: no derivation, and where; 8: every derivation is larger; 10 does not arise
    pub seven_means : {i : ℕ} → (afresh t codes first tree room).answer ≡ refusal 7 i → ((f : Row) → Derivation t (inserted codes) f → ⊥) × PlaceOf t (inserted codes) i
    seven_means e = fresh_seven (afresh_tells t A codes first X tree room E.wide E.roomy) e

    pub eight-if : (f : Row) → Derivation t (inserted codes) f → 2048 < size f → (afresh t codes first tree room).answer ≡ refusal 8 0
    eight-if f D h = eight_fresh A f (afresh_tells t A codes first X tree room E.wide E.roomy) D h

    pub eight_means : (afresh t codes first tree room).answer ≡ refusal 8 0 → (f : Row) → Derivation t (inserted codes) f → 2048 < size f
    eight_means e = fresh_eight (afresh_tells t A codes first X tree room E.wide E.roomy) e

    pub never_ten : {i : ℕ} → (afresh t codes first tree room).answer ≡ refusal 10 i → ⊥
    never_ten e = fresh_ten (afresh_tells t A codes first X tree room E.wide E.roomy) e

  -- ---- 3. "An update ends as a fresh reading of the edited text would (same tree, same syntax place, same lack of room), except that
  -- numbers may run out." "It makes no more reductions than the fresh reading."
  module _ (old edits codes : List ℕ) (r : NRow) (O : InOrder t old r) (es : List Edit) (F : EditsInOrder t (yield (erase r)) edits codes es) (tree room : List ℕ) (E : Enough tree room) where
    pub ends_as_afresh : AsAfresh tree room (update t old edits codes tree room) (afresh t (kinds (new_text (yield (erase r)) es codes)) 1 tree room)
    ends_as_afresh = as_afresh t A old edits codes r O es F tree room E.wide E.roomy

    -- the new tree, in order again
    pub new_tree : {k : Counts} → (update t old edits codes tree room).answer ≡ accepted k → NewTree t r (get_or old 1 0) (new_text (yield (erase r)) es codes) tree (update t old edits codes tree room)
    new_tree e = updated_new (update_tells t A old edits codes r O es F tree room E.wide E.roomy) e

    -- accepted where the edited text is derived within 2,048 nodes and the numbers suffice
    pub update-if : (f : Row) → Derivation t (new_text (yield (erase r)) es codes) f → size f ≤ 2048 → (s : NRow) (m : ℕ) → Kept r Nothing (get_or old 1 0) f s m → m ≤ 4294967295
        → (k : Counts) × (update t old edits codes tree room ≡ accept tree room s m k)
    update-if = new_updated A O.numbers (update_tells t A old edits codes r O es F tree room E.wide E.roomy)

    module _ (N : NewTree t r (get_or old 1 0) (new_text (yield (erase r)) es codes) tree (update t old edits codes tree room)) where
      -- "A piece that has tokens and stood whole in the old tree, down to the same tokens, keeps all its numbers,"
      pub piece_keeps : {q i j : ℕ} {d e : NRow} → Sub q i d N.new → 0 < toks (erase d) → Sub q j e r → erase e ≡ erase d → (i ≡ j) × (d ≡ e)
      piece_keeps = kept_whole O.numbers N.kept

      -- "as does the tree of an empty sheet left empty;"
      pub empty_keeps : yield (erase r) ≡ [] → new_text (yield (erase r)) es codes ≡ [] → (N.new ≡ r) × (N.next ≡ get_or old 1 0)
      empty_keeps a b = kept_empty N.kept (same_empty t A O.derives N.derivation a b) (no_toks N.derivation b)

      -- "every other node gets a number not handed out so far." A token that remains is a piece with tokens
      pub others_new : ((erase r ≡ N.row) × (toks N.row ≡ 0) → ⊥) → {q i : ℕ} {d : NRow} → Sub q i d N.new → Whence r (get_or old 1 0) q i d N.new
      others_new h = kept_whence O.numbers h N.kept

      pub tokens-keep : forget (get_or old 1 0) (erase N.new) ≡ N.row
      tokens-keep = kept_text O.numbers N.kept

      pub numbers_rise : Rises (get_or old 1 0) (news (get_or old 1 0) N.new) N.next × (get_or old 1 0 + length (news (get_or old 1 0) N.new) ≡ N.next)
      numbers_rise = (kept_rises O.numbers N.kept, kept_raised O.numbers N.kept)
