-- The reading list made in one pass back over the old records. What holds at record pos: the list has what the marks give of the pieces
-- behind it, and the first pos records are a row of pieces that is still to be passed.
use Rattle.std.specs.Prelude.{◌≡◌, List, [], ◌∷◌, ℕ, suc, ◌+◌, ◌≤◌, ◌<◌, length, get_or}
use Rattle.std.proofs.Common.{sym, ap, ◌∙◌, arith, get_or-take, get_or-drop}
use Rattle.definitions.specs.Sheet.{T}
use Rattle.definitions.specs.Tree.{Tok, Row, ∅, tok, nod, ◌⧺◌, row, size, yield, toks, NRow, ε, ntok, nnod, erase, Kinds, InOrder}
use Rattle.definitions.specs.Table.{table_of}
use Rattle.definitions.specs.Edits.{Edit, Places, Mark, marks, EditsInOrder}
use Rattle.theory.specs.Edits.FromMarks.{pieces, reading_list}
use Rattle.theory.specs.Edits.Edited.{yield-list}
use Rattle.theory.specs.Machine.Rows.{toks-length, yield-row, size-append}
use Rattle.theory.specs.Machine.Update.{valid_append}
use Rattle.theory.specs.Tree.Build.{join}
use Rattle.tree.specs.Rows.{Stands}
use Rattle.list.specs.Pieces.{Forest, erase-join}
use Rattle.list.specs.Pending.{list_at, tokens_at, Pending, Counted}
use Rattle.list.specs.Opening.{Elsewhere}
use Rattle.edits.specs.Before.{removals}
use Rattle.edits.specs.Length.{length-text}
use Rattle.edits.specs.Marks.{puts_at, gone_at, Holds, Orderly}

-- ---- rows side by side
stands_join : (rows : List ℕ) (a b : ℕ) (f g : NRow) → b ≡ a + size (erase f) → Stands rows a f → Stands rows b g → Stands rows a (join f g)
stands_join rows a b ε g e s t = let z : b ≡ a = omega arith in rw z at t
stands_join rows a b (ntok k i f) g e s t = (s.0, stands_join rows (suc a) b f g (omega arith) s.1 t)
stands_join rows a b (nnod q i c f) g e s t = (s.0, stands_join rows (suc (a + size (erase c))) b f g (omega arith) s.1 t)

kinds-join : (n : ℕ) (f g : NRow) → Kinds n f → Kinds n g → Kinds n (join f g)
kinds-join n ε g k l = l
kinds-join n (ntok x i f) g k l = (k.0, k.1, kinds-join n f g k.2 l)
kinds-join n (nnod q i c f) g k l = (k.0, kinds-join n f g k.1 l)

pub forest_join : {t old : List ℕ} {a b : ℕ} (f g : NRow) → b ≡ a + size (erase f) → Forest t old a f → Forest t old b g → Forest t old a (join f g)
forest_join {t} {old} {a} {b} f g e F G =
    let n : size (erase (join f g)) ≡ size (erase f) + size (erase g) = ap size (erase-join f g) ∙ size-append (erase f) (erase g) in
    record {
      stands = stands_join old a b f g e F.stands G.stands;
      kinds = kinds-join (T t) f g F.kinds G.kinds;
      valid = rw (erase-join f g) (valid_append (table_of t) (erase f) (erase g) F.valid G.valid);
      within = omega (arith, G.within);
    }

pub toks-size : (f : Row) → toks f ≤ size f
toks-size ∅ = omega arith
toks-size (tok x f) = omega (arith, toks-size f)
toks-size (nod q c f) = omega (arith, toks-size c, toks-size f)

pub toks-row : (w : List Tok) → toks (row w) ≡ length w
toks-row w = toks-length (row w) ∙ ap length (yield-row w)

-- removals stay within the old text
removals_within : (from n : ℕ) (es : List Edit) → Places from n es → from ≤ n → from + removals es ≤ n
removals_within from n [] p h = omega arith
removals_within from n (e ∷ es) p h = let a = p.0 in let b = p.1 in omega (arith, removals_within (e.place + e.removed) n es p.2 b)

-- ---- an update of the old row: the tree that stands in it, and edits in order
pub record Case (old : List ℕ) : Type 0 where
  pub t : List ℕ
  pub edits : List ℕ
  pub put : List ℕ
  pub tree : NRow
  pub es : List Edit
  pub few : T t ≤ 256
  pub stands : InOrder t old tree
  pub order : EditsInOrder t (yield (erase tree)) edits put es

module _ {old : List ℕ} (C : Case old) where
  -- how many old tokens there are; their marks; the reading list
  abbrev pub many : ℕ
  many = length (yield (erase C.tree))

  abbrev pub all_marks : List Mark
  all_marks = marks 0 many C.es C.put

  abbrev pub list : Row
  list = reading_list (erase C.tree) C.es C.put

  pub few_tokens : many ≤ 2048
  few_tokens = let n = C.stands.nodes.1 in omega (arith, toks-length (erase C.tree), toks-size (erase C.tree))

  pub few_put : length C.put ≤ 2048
  few_put =
      let E = C.order in
      let u = E.used in
      let f = E.few in
      omega (arith, length-text (yield (erase C.tree)) C.es C.put E.places (omega arith), removals_within 0 many C.es E.places (omega arith))

  pub few_list : toks list ≤ 2048
  few_list = let f = C.order.few in omega (arith, toks-length list, ap length (yield-list (erase C.tree) C.es C.put))

  pub case_orderly : Orderly C.edits many C.es
  case_orderly = let E = C.order in let u = E.used in record { records = E.records; places = E.places; few = omega (arith, few_put) }

-- ---- at record pos, with m words on the list
pub record Going {old : List ℕ} (C : Case old) (r : List ℕ) (pos m : ℕ) : Type 0 where
  pub left : NRow
  pub done : Row
  pub forest : Forest C.t old 0 left
  pub at : size (erase left) ≡ pos
  pub within : toks (erase left) ≤ many C
  pub is : pieces (erase left) (all_marks C) ⧺ done ≡ list C
  pub pending : Pending C.t old C.put r m done
  pub counted : Counted old r
  pub marked : Holds C.es (many C) r

-- what is written on the list leaves the counts and the marks
module _ {r r' : List ℕ} (E : Elsewhere r r') where
  pub high_word : (j : ℕ) → get_or r' (tokens_at + j) 0 ≡ get_or r (tokens_at + j) 0
  high_word j = sym (get_or-drop tokens_at r' j 0) ∙ ap (λ (l : List ℕ). get_or l j 0) E.above ∙ get_or-drop tokens_at r j 0

  pub counts_stand : (old : List ℕ) → Counted old r → Counted old r'
  counts_stand old c j h = high_word j ∙ c j h

  low_word : (x : ℕ) → x < list_at → get_or r' x 0 ≡ get_or r x 0
  low_word x h = sym (get_or-take list_at r' x 0 h) ∙ ap (λ (l : List ℕ). get_or l x 0) E.below ∙ get_or-take list_at r x 0 h

  pub marks_stand : {es : List Edit} (n : ℕ) → n ≤ 2048 → Holds es n r → Holds es n r'
  marks_stand n l H =
      record {
        puts = λ j h. low_word (puts_at + j) (omega arith) ∙ H.puts j h;
        gones = λ j h. low_word (gone_at + j) (omega arith) ∙ H.gones j h;
      }

-- ---- the end of the pass: all records are passed
pub going_end : {old : List ℕ} (C : Case old) {r : List ℕ} {m : ℕ} → Going C r 0 m → Pending C.t old C.put r m (list C)
going_end {old} C {r} {m} S = by S.left S.at S.is
  where
    by : (f : NRow) → size (erase f) ≡ 0 → pieces (erase f) (all_marks C) ⧺ S.done ≡ list C → Pending C.t old C.put r m (list C)
    by ε a e = rw e at S.pending
    by (ntok k i f) a e = absurd (omega arith)
    by (nnod q i c f) a e = absurd (omega arith)
