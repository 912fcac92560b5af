-- The edits of a list passed one by one, whatever they are lent as: what holds after i of them, of the walk that judges them and of the room
-- that is marked. Both are what is said of the words of the list at word 3 i.
use Rattle.std.specs.Prelude.{◌≡◌, refl, Option, List, ℕ, ◌+◌, ◌*◌, ◌≤◌, ◌<◌, length, get_or, drop}
use Rattle.std.proofs.Common.{sym, ap, ◌∙◌, arith}
use Rattle.definitions.specs.Sheet.{T}
use Rattle.definitions.specs.Tree.{NRow, yield, erase, InOrder}
use Rattle.definitions.specs.Edits.{Edit as EditOf, EditsInOrder}
use Rattle.theory.specs.Edits.FromMarks.{reading_list}
use Rattle.list.specs.Pending.{Pending, Counted}
use Rattle.edits.specs.declared.Walk.{Walk}
use Rattle.edits.specs.declared.Marks.{Marks}
use Rattle.edits.specs.Fits.{Record, Passes, Walked, Passed, passed_on}
use Rattle.edits.specs.Words.{words_of, words-length, words-record}
use Rattle.edits.specs.Marks.{NextEdit, EditPassed}
use Rattle.edits.specs.Going.{Case, many}
use Rattle.edits.specs.Begin.{Ready, AllPassed, ListMade, ready_on, ready_end}

three_more : (i : ℕ) → i * 3 + 3 ≡ (i + 1) * 3
three_more i = omega arith

module _ {E : Type 0} (f : E → EditOf) (ys : List E) where
  all_words : (i : ℕ) → i ≤ length ys → length ys ≤ i → i * 3 ≡ length (words_of f ys)
  all_words i h k = omega (arith, words-length f ys)

  -- the edit e that is read as the item x at place i is the record at word 3 i
  pub item : (i : ℕ) (x : E) → x ≡ get_or ys i x → i < length ys → {e : EditOf} → e ≡ f x → Record (words_of f ys) (i * 3) e
  item i x is h z = let R = words-record f ys x i h in record { whole = R.whole; is = R.is ∙ ap f (sym is) ∙ sym z }

  -- ---- the walk
  module _ {n left : ℕ} (i : ℕ) {w : Walk} (P : Walked (words_of f ys) n left (i * 3) w) where
    pub walk_next : {e : EditOf} → Record (words_of f ys) (i * 3) e → {r : Option Walk} → Passes n left w e r → Passed (words_of f ys) n left ((i + 1) * 3) r
    walk_next R S = rw (three_more i) at (passed_on P R S)

    pub walk-over : i ≤ length ys → length ys ≤ i → Walked (words_of f ys) n left (length (words_of f ys)) w
    walk-over h k = rw (all_words i h k) at P

  -- ---- the marks
  module _ (old put : List ℕ) where
    -- an update of what is lent
    abbrev pub Update : Type 0
    Update = (t : List ℕ) × (tree : NRow) × (es : List EditOf) × (T t ≤ 256) × InOrder t old tree × EditsInOrder t (yield (erase tree)) (words_of f ys) put es

    abbrev pub case : Update → Case old
    case u = record { t = u.0; edits = words_of f ys; put = put; tree = u.1; es = u.2; few = u.3; stands = u.4; order = u.5 }

    -- the room r, lent as b, after i edits
    abbrev pub Marked : List ℕ → List ℕ → ℕ → Marks → Type 0
    Marked b r i m = (C : Case old) → C.edits ≡ words_of f ys → Ready C b r (i * 3) m

    -- the room r, lent as b, at the end: the list of k words
    abbrev pub Lists : List ℕ → ℕ → Type 0
    Lists r k = (t : List ℕ) (tree : NRow) (es : List EditOf) → T t ≤ 256 → InOrder t old tree → EditsInOrder t (yield (erase tree)) (words_of f ys) put es
        → Pending t old put r k (reading_list (erase tree) es put)

    abbrev pub Leaves : List ℕ → List ℕ → ℕ → Type 0
    Leaves b r k = (k ≤ 2048) × Counted old r × (drop 16384 r ≡ drop 16384 b)

    module _ {b r : List ℕ} (i : ℕ) {m : Marks} (Y : Marked b r i m) where
      pub mark_asks : Update → {e : EditOf} → Record (words_of f ys) (i * 3) e → NextEdit r m e
      mark_asks u R = let y = Y (case u) refl in (words_of f ys, y.base, many (case u), i * 3, y.marking, R)

      pub mark_next : {e : EditOf} → Record (words_of f ys) (i * 3) e → {r' : List ℕ} {w : Marks} → EditPassed r m e r' w → Marked b r' (i + 1) w
      mark_next R p C is =
          let y = Y C is in
          rw (three_more i) at (ready_on y (p C.edits y.base (many C) (i * 3) y.marking (rw is R)))

      module _ (h : i ≤ length ys) (k : length ys ≤ i) where
        over : (C : Case old) → C.edits ≡ words_of f ys → Ready C b r (length C.edits) m
        over C is = ready_end (Y C is) (rw is (all_words i h k))

        pub list_asks : Update → AllPassed old put r m
        list_asks u = (case u, b, refl, over (case u) refl)

        pub list_lists : {r' : List ℕ} {n : ℕ} → ListMade old put r m r' n → Lists r' n
        list_lists e t tree es few s o = let C = case (t, tree, es, few, s, o) in (e C b refl (over C refl)).pending

        pub list_leaves : Update → {r' : List ℕ} {n : ℕ} → ListMade old put r m r' n → Leaves b r' n
        list_leaves u e = let L = e (case u) b refl (over (case u) refl) in (L.few, L.counted, L.rest)

        pub list_long : Update → {r' : List ℕ} {n : ℕ} → ListMade old put r m r' n → length r' ≡ length b
        list_long u e = (e (case u) b refl (over (case u) refl)).long
