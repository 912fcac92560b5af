-- The definitions that could be read as the machine's own account, tied to document 01's words.
use Rattle.std.specs.Prelude.{◌≡◌, List, ◌∷◌, ℕ, suc, ◌+◌, ◌-◌, ◌<◌, get_or}
use Rattle.definitions.specs.States.{Accepted}
use Rattle.definitions.specs.Table.{table_of}
use Rattle.definitions.specs.Tree.{Tok, Row, size, yield, NRow, erase, InOrder}
use Rattle.definitions.specs.Reading.{node, Stack, push, held, Move, on, Counts}
use Rattle.definitions.specs.Moves.{Breaks, right_break, breaks, cost, turn, read}
use Rattle.definitions.specs.Edits.{Edit, new_text, ReadingList}
use Rattle.theory.specs.Edits.FromMarks.{reading_list}
use Rattle.definitions.specs.Numbers.{Nothing, Kept}
use Rattle.theory.specs.Numbers.Number.{judge, renumber}
use Rattle.theory.specs.Table.Bridge.{rules_of, conditions_of}
use Rattle.theory.specs.Machine.Break.{broken, one_break}
use Rattle.theory.specs.Machine.Shifts.{Tokened, ByMove, stays_tokened}
use Rattle.theory.specs.Machine.Room.{room-held}
use Rattle.theory.specs.Machine.Same.{enough}
use Rattle.theory.specs.Machine.Update.{Valid}
use Rattle.theory.specs.Numbers.KeptNumbers.{kept, kept_only}
use Rattle.theory.specs.Numbers.Rule.{Text}
use Rattle.theory.specs.Edits.Listing.{list_right, list-only}
use Rattle.theory.specs.Edits.ListValid.{tokened-list, valid_list}
use Rattle.theory.specs.Edits.EditedText.{fit_distinct, old_tokens}

module _ (t : List ℕ) where
  -- the right-break is document 01's loop, in as many breaks as are counted; the loop comes to one stack, in one number of breaks
  pub break_is_loop : {x : Tok} {u : List Tok} (c : Row) (σ : Stack) (s q : ℕ) → yield c ≡ x ∷ u → Breaks (table_of t) (suc (breaks c)) (push σ s (node q c)) (right_break (table_of t) c σ)
  break_is_loop = broken (table_of t)

  pub loop_is_one : {m n : ℕ} {σ τ υ : Stack} → Breaks (table_of t) m σ τ → Breaks (table_of t) n σ υ → (m ≡ n) × (τ ≡ υ)
  loop_is_one = one_break (table_of t)

  -- every whole shift of an update is such a one: the list has only pieces with tokens, and each turn leaves it so
  pub list_has_tokens : (old : Row) (es : List Edit) (codes : List ℕ) → Tokened (reading_list old es codes)
  list_has_tokens = tokened-list

  pub turn_leaves_tokens : (r : ℕ) (σ : Stack) (f : Row) {m : Move} {σ' : Stack} {f' : Row} → Tokened f → turn (table_of t) r σ f ≡ on m σ' f' → Tokened f' × ByMove (table_of t) σ f m σ' f'
  turn_leaves_tokens = stays_tokened (table_of t)

  -- the room is what is not held: it and the nodes held together stay 2,048
  pub room_is_rest : (r : ℕ) (σ : Stack) (f : Row) {m : Move} {σ' : Stack} {f' : Row} → turn (table_of t) r σ f ≡ on m σ' f' → (r - cost m) + held σ' ≡ r + held σ
  room_is_rest = room-held (table_of t)

  -- the moves that a reading is given are enough: with more it does the same
  pub moves_enough : Accepted t → (m r : ℕ) (k : Counts) (σ : Stack) (f : Row) → Valid (table_of t) f → (n : ℕ) → r + size f < n → read (table_of t) n r k σ f ≡ read (table_of t) (m + n) r k σ f
  moves_enough A m r k σ f v n h = enough (table_of t) (rules_of t A) (conditions_of t A) m n r k σ f v h

  module _ (row : List ℕ) (r : NRow) (O : InOrder t row r) where
    -- the reading list is the largest clean pieces and the inserted tokens, in text order; and the only such list
    pub list_is_largest : (es : List Edit) (codes : List ℕ) → ReadingList (new_text (yield (erase r)) es codes) (erase r) (reading_list (erase r) es codes)
    list_is_largest es codes = list_right (erase r) es codes (fit_distinct r O.numbers)

    pub list_is_one : {text : List Tok} {l m : Row} → ReadingList text (erase r) l → ReadingList text (erase r) m → l ≡ m
    list_is_one L M = list-only (old_tokens r O.numbers.low) L M

    pub list_is_valid : (es : List Edit) (codes : List ℕ) → Valid (table_of t) (reading_list (erase r) es codes)
    list_is_valid = valid_list (table_of t) O.derives

    -- the numbering follows the rule of kept numbers, and the rule permits exactly one answer
    pub numbers_are_kept : (f : Row) → Text r f → Kept r Nothing (get_or row 1 0) f (renumber (judge r) r (get_or row 1 0) f).0 (renumber (judge r) r (get_or row 1 0) f).1
    numbers_are_kept = kept O.numbers

    pub kept_is_one : {f : Row} {s : NRow} {m : ℕ} → Kept r Nothing (get_or row 1 0) f s m → ((renumber (judge r) r (get_or row 1 0) f).0 ≡ s) × ((renumber (judge r) r (get_or row 1 0) f).1 ≡ m)
    kept_is_one = kept_only O.numbers
