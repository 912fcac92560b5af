-- What an update tells by the end of its reading: the accepted stack is one tree, whose records the room holds; its numbers, or the refusal.
use Rattle.std.specs.Prelude.{◌≡◌, refl, Result, Ok, Err, true, false, List, [], ◌++◌, ℕ, ◌≤◌, length, get_or, take, drop, replicate}
use Rattle.std.proofs.Common.{sym, ap, ◌∙◌, subst, arith, length-append, length-drop}
use Rattle.std.proofs.lemmas.List.{take-append-le}
use Rattle.definitions.specs.Sheet.{T}
use Rattle.definitions.specs.States.{Accepted}
use Rattle.definitions.specs.Table.{table_of}
use Rattle.definitions.specs.Tree.{Row, ∅, nod, yield, NRow, erase, InOrder}
use Rattle.definitions.specs.Reading.{node, Stack, bot, push, held, End, taken, refused}
use Rattle.definitions.specs.Reading as Reading
use Rattle.definitions.specs.Moves.{Done, reading}
use Rattle.definitions.specs.Edits.{Edit, EditsInOrder, new_text}
use Rattle.definitions.specs.Answers.{cleared, numbered, ending, finished}
use Rattle.theory.specs.Machine.Rows.{toks-length}
use Rattle.theory.specs.Numbers.Number.{judge, renumber}
use Rattle.theory.specs.Edits.FromMarks.{reading_list}
use Rattle.theory.specs.Edits.Edited.{yield-list}
use Rattle.theory.specs.Records.FlatStack.{flat_s}
use Rattle.theory.specs.Demands.Afresh.{Reads, accepts}
use Rattle.theory.specs.Demands.Update.{known, list_reads}
use Rattle.answers.specs.Values.{counts_of}
use Rattle.answers.specs.declared.Counts as Code
use Rattle.answers.specs.declared.Refusal.{Refusal}
use Rattle.answers.specs.declared.Refusal.TheVariants.{NoNumber}
use Rattle.machine.specs.Room.{enc}
use Rattle.reading.specs.Turns.{end_of}
use Rattle.reading.specs.Fresh.{told, refuses_with}
use Rattle.tree.specs.Shaped as Rows
use Rattle.list.specs.Pending.{list_at, Pending, pending_toks, Counted}
use Rattle.list.specs.Lent.{pending_first, counted_first, rest_back}
use Rattle.numbers.specs.Given.{Given}
use Rattle.numbers.specs.Renumber.{Answers, told_yes, told_no}
use Rattle.updating.specs.Turns.{Listed, Above, stack_stands}
use Rattle.updating.specs.Running.{Accepts, Ends}

-- what the call has judged of all that is lent
pub record Judged (t old edits put : List ℕ) (r : NRow) (es : List Edit) : Type 0 where
  pub table : Accepted t
  pub tree : InOrder t old r
  pub changes : EditsInOrder t (yield (erase r)) edits put es

module _ {t old edits put : List ℕ} {r : NRow} {es : List Edit} (J : Judged t old edits put r es) where
  pub few : T t ≤ 256
  few = omega (arith, J.table.layout.head.terminals.1)

  pub held-row : Rows.Holds old
  held-row = Rows.shape_holds t old (r, Rows.order_shape t old r J.tree)

  abbrev pub list : Row
  list = reading_list (erase r) es put

  abbrev pub done : Done
  done = reading (table_of t) 2048 list

  abbrev pub numbers : Row → NRow × ℕ
  numbers = renumber (judge r) r (get_or old 1 0)

  pub listed : {room : List ℕ} {m : ℕ} → Pending t old put room m list → Counted old room → Listed t old put room m list
  listed P C =
      record {
        few = few;
        codes = J.changes.known;
        pending = P;
        counted = C;
        small = omega (arith, toks-length list, ap length (yield-list (erase r) es put), J.changes.few);
      }

  -- an accepted stack is one tree
  pub record Alone (σ : Stack) : Type 0 where
    pub state : ℕ
    pub prod : ℕ
    pub kids : Row
    pub is : σ ≡ push bot state (node prod kids)
    pub text : yield (nod prod kids ∅) ≡ new_text (yield (erase r)) es put

  pub alone : {σ : Stack} → done.end ≡ taken σ → Alone σ
  alone {σ} e = by (taken σ) (subst (Reads t (new_text (yield (erase r)) es put)) e (list_reads t J.table old edits put r J.tree es J.changes [] [])) refl
    where
      by : (x : End) → Reads t (new_text (yield (erase r)) es put) x → x ≡ taken σ → Alone σ
      by (taken τ) (accepts {s = s} {q = q} {c = c} z D l) y = let k : σ ≡ push bot s (node q c) = cc in record { state = s; prod = q; kids = c; is = k; text = D.text }
      by (refused n i) x y = let z : ◌≡◌ {A = ℕ} 0 1 = cc in absurd (omega arith)

  -- ---- each answer
  module _ (tree lent : List ℕ) where
    ends_as : (d : Done) {e : End} {k : Reading.Counts} → d.end ≡ e → d.counts ≡ k → finished tree lent numbers d ≡ ending tree lent numbers k e
    ends_as d p q = rw (p, q) refl

    pub refuses : (e : Refusal) → done.end ≡ end_of e → told (Err e) tree (cleared lent) ≡ finished tree lent numbers done
    refuses e q = rw (refuses_with e) (sym (ends_as done q refl))

    module _ {room : List ℕ} {n : ℕ} {k : Reading.Counts} (R : Accepts room done n k) where
      abbrev S : Alone R.stack
      S = alone R.is

      abbrev pub tree-read : Row
      tree-read = nod S.prod S.kids ∅

      pub given : Given old room n r tree-read
      given =
          record {
            table = t;
            few = few;
            in_order = J.tree;
            known = rw S.text (known t J.table old edits put r J.tree es J.changes tree lent);
            small = R.small;
            many = R.holds.many ∙ ap held S.is ∙ omega arith;
            records = R.holds.records ∙ ap (λ (σ : Stack). enc (flat_s σ)) S.is;
          }

      judged : finished tree lent numbers done ≡ numbered tree lent (numbers tree-read) k
      judged = ends_as done R.is R.counts ∙ ap (λ (σ : Stack). ending tree lent numbers k (taken σ)) S.is

      pub tells : (c : Code.Counts) {tree' : List ℕ} → counts_of c ≡ k → Answers tree tree' (numbers tree-read) true → told (Ok c) tree' (cleared lent) ≡ finished tree lent numbers done
      tells c z A = rw (z) (sym (judged ∙ told_yes lent k A))

      pub too_many : {tree' : List ℕ} → Answers tree tree' (numbers tree-read) false → told (Err NoNumber) tree' (cleared lent) ≡ finished tree lent numbers done
      too_many A = sym (judged ∙ told_no lent k A)

-- the edits were judged, and their list stands in the room
abbrev pub Ready : (t old put room : List ℕ) → ℕ → Type 0
Ready t old put room m = (edits : List ℕ) × (r : NRow) × (es : List Edit) × (J : Judged t old edits put r es) × Listed t old put room m (list J)

-- ---- the room's first words lent alone
pub listed_first : {t old put r w : List ℕ} {m : ℕ} {f : Row} → w ≡ take 16384 r → Rows.Holds old → Listed t old put r m f → Listed t old put w m f
listed_first {old = old} {r = r} e h L =
    record {
      few = L.few;
      codes = L.codes;
      pending = pending_first r e (omega (arith, pending_toks L.pending, L.small)) L.pending;
      counted = counted_first r e old h.0.1 L.counted;
      small = L.small;
    }

pub ready_first : {t old put r w : List ℕ} {m : ℕ} → w ≡ take 16384 r → Ready t old put r m → Ready t old put w m
ready_first e x = (x.0, x.1, x.2, x.3, listed_first e (held-row x.3) x.4)

-- what a reading leaves in them, it leaves in the room
module _ (w r : List ℕ) (long : length w ≡ 16384) where
  pub ends_back : (d : Done) (a : Result (ℕ × Code.Counts) Refusal) → Ends w d a → Ends (w ++ drop 16384 r) d a
  ends_back d (Ok a) A =
      record {
        stack = A.stack;
        is = A.is;
        counts = A.counts;
        small = A.small;
        holds = stack_stands A.small (take-append-le list_at w (drop 16384 r) (omega (arith, long))) A.holds;
      }
  ends_back d (Err e) E = E

  pub above_back : 16384 ≤ length r → Above r (w ++ drop 16384 r)
  above_back h = record { rest = rest_back w r long; long = length-append w (drop 16384 r) ∙ omega (arith, length-drop 16384 r) }

-- ---- the room handed back: what stood in its first words does not show once they are wiped
pub cleared_above : (xs ys : List ℕ) → drop 16384 xs ≡ drop 16384 ys → cleared xs ≡ cleared ys
unfolding cleared
cleared_above xs ys e = ap (replicate 16384 0 ++◌) e
