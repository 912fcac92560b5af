-- Before the pass back: the counts of tokens and the marks are written, and the codes put in at the very end are on the list. After it:
-- what the working room holds.
use Rattle.std.specs.Prelude.{◌≡◌, refl, List, ℕ, suc, ◌+◌, ◌≤◌, ◌<◌, length, get_or, drop}
use Rattle.std.proofs.Common.{sym, ap, ◌∙◌, arith, length-drop, get_or-drop, ext_get_or}
use Rattle.std.proofs.Math.Seq.{slice}
use Rattle.definitions.specs.Tree.{∅, ◌⧺◌, row, erase}
use Rattle.definitions.specs.Edits.{inserted, put_at}
use Rattle.theory.specs.Edits.FromMarks.{pieces}
use Rattle.theory.specs.Machine.Rows.{toks-length, append-∅}
use Rattle.tree.specs.Rows.{holds_stands}
use Rattle.tree.specs.Shaped.{Holds}
use Rattle.tree.specs.Tokens.{Counts}
use Rattle.list.specs.Pieces.{all_old, tokens_forest}
use Rattle.list.specs.Pending.{tokens_at, Pending, none, Counted, pending_toks}
use Rattle.list.specs.Opening.{Elsewhere}
use Rattle.edits.specs.Before.{put_before, put_all, put-at, put_within}
use Rattle.edits.specs.Fits.{edit_at, Record}
use Rattle.edits.specs.Marks.{puts_at, mark2, Marked, Marking, Clear, next_record, clear_end, marks_begin, marks_end}
use Rattle.edits.specs.declared.Marks.{Marks}
use Rattle.edits.specs.Pushing.{Pushes}
use Rattle.edits.specs.Going.{Case, many, all_marks, list, few_tokens, few_put, few_list, case_orderly, Going, high_word, counts_stand, marks_stand}
use Rattle.edits.specs.Stepping.{Room}

-- the old row holds its records
pub case-holds : {old : List ℕ} → Case old → Holds old
case-holds {old} C =
    let h = holds_stands old C.tree C.stands.holds in
    let a = h.0.0 in
    let b = h.0.1 in
    let n = C.stands.nodes in
    (omega arith, omega arith)

-- the room r₁ has the counts: `all` is how many old tokens there are
module _ {old r r₁ : List ℕ} {all : ℕ} (K : Counts old r r₁ tokens_at (get_or old 0 0)) (is : all ≡ get_or r₁ (tokens_at + get_or old 0 0) 0) where
  all_many : (C : Case old) → all ≡ many C
  all_many C =
      let h = holds_stands old C.tree C.stands.holds in
      is ∙ K.counted (get_or old 0 0) (omega arith) ∙ tokens_forest (get_or old 0 0) C.tree C.few (all_old C.stands) (omega (arith, h.0.0))
      ∙ omega (arith, toks-length (erase C.tree))

  -- the room r₂ has the marks too
  module _ {r₂ : List ℕ} (few : get_or old 0 0 ≤ 2048) (small : all ≤ 2048) where
    module _ (C : Case old) (M : Marked all r₁ r₂ C.es) where
      end_is : get_or r₂ (puts_at + all) 0 ≡ put_before all C.es
      end_is = M.holds.puts all (omega arith)

      begin_room : Room 0 (get_or r₂ (puts_at + all) 0) (length C.put)
      begin_room =
          let u = C.order.used in
          record { up = omega (arith, end_is, put_within all C.es); high = few_put C; fits = omega (arith, few_put C) }

      -- the room r₃ has the last codes on the list
      begin : {r₃ : List ℕ} {m : ℕ} → Pushes r₂ r₃ 0 (get_or r₂ (puts_at + all) 0) (length C.put) m → Going C r₃ (get_or old 0 0) m
      begin {r₃} {m} P =
          let h = holds_stands old C.tree C.stands.holds in
          let n = all_many C in
          let u = C.order.used in
          let e : put_before (suc all) C.es ≡ length C.put = put_all (suc all) 0 (many C) C.es C.order.places (omega arith) ∙ u in
          let w : put_at all C.es C.put ≡ inserted (slice (get_or r₂ (puts_at + all) 0) (length C.put) C.put) =
          put-at all 0 (many C) C.es C.put C.order.places ∙ rw (e, end_is) refl in
          let d = inserted (slice (get_or r₂ (puts_at + all) 0) (length C.put) C.put) in
          let c₂ : Counted old r₂ = λ j k. M.apart.after (tokens_at + j) (omega arith) ∙ K.counted j k in
          record {
            left = C.tree;
            done = row d ⧺ ∅;
            forest = all_old C.stands;
            at = sym h.0.0;
            within = omega (arith, toks-length (erase C.tree));
            is = ap (pieces (erase C.tree) (all_marks C) ⧺◌) (append-∅ (row d) ∙ ap row (sym w ∙ ap (λ (i : ℕ). put_at i C.es C.put) n));
            pending = P.holds C.t old C.put ∅ (omega arith) none;
            counted = counts_stand P.elsewhere _ c₂;
            marked = marks_stand P.elsewhere (many C) (few_tokens C) (rw n at M.holds);
          }

      -- the room r₄ has all of it
      kept : {r₃ r₄ : List ℕ} → length r₄ ≡ length r → Elsewhere r₂ r₃ → Elsewhere r₃ r₄ → Counted old r₄ × (drop 16384 r₄ ≡ drop 16384 r)
      kept {r₃} {r₄} long E F = (
        λ j k. high_word F j ∙ high_word E j ∙ M.apart.after (tokens_at + j) (omega arith) ∙ K.counted j k,
        ext_get_or 0 (drop 16384 r₄) (drop 16384 r) (omega (arith, length-drop 16384 r₄, length-drop 16384 r))
            (λ i h.
            let z : 16384 + i ≡ tokens_at + (6143 + i) = omega arith in
            get_or-drop 16384 r₄ i 0 ∙ ap (λ (x : ℕ). get_or r₄ x 0) z ∙ high_word F (6143 + i) ∙ high_word E (6143 + i) ∙ ap (λ (x : ℕ). get_or r₂ x 0) (sym z)
            ∙ M.apart.after (16384 + i) (omega arith) ∙ K.after (16384 + i) (omega arith) ∙ sym (get_or-drop 16384 r i 0)),
      )

-- the list fits its words
list_few : {old : List ℕ} (C : Case old) {r : List ℕ} {m : ℕ} → Pending C.t old C.put r m (list C) → m ≤ 2048
list_few C p = omega (arith, pending_toks p, few_list C)

-- ---- from the counts to the list
-- the room r', lent as r, has the counts of the old row's tokens and the marks of the edits before word k
pub record Ready {old : List ℕ} (C : Case old) (r r' : List ℕ) (k : ℕ) (m : Marks) : Type 0 where
  pub base : List ℕ
  pub counts : Counts old r base tokens_at (get_or old 0 0)
  pub long : length base ≡ length r
  pub marking : Marking C.edits (many C) base r' k m

-- the room r', lent as r, has the reading list of k words, the counts behind it, and is otherwise as lent
pub record Listed {old : List ℕ} (C : Case old) (r r' : List ℕ) (k : ℕ) : Type 0 where
  pub pending : Pending C.t old C.put r' k (list C)
  pub few : k ≤ 2048
  pub counted : Counted old r'
  pub rest : drop 16384 r' ≡ drop 16384 r
  pub long : length r' ≡ length r

-- the edits of some update with the codes `put` are all passed; once the list is made, it is the one of that update
abbrev pub AllPassed : List ℕ → List ℕ → List ℕ → Marks → Type 0
AllPassed old put r m = (C : Case old) × (b : List ℕ) × (C.put ≡ put) × Ready C b r (length C.edits) m

abbrev pub ListMade : List ℕ → List ℕ → List ℕ → Marks → List ℕ → ℕ → Type 0
ListMade old put r m r' k = (C : Case old) (b : List ℕ) → C.put ≡ put → Ready C b r (length C.edits) m → Listed C b r' k

pub ready : {old : List ℕ} (C : Case old) {r base : List ℕ} → Counts old r base tokens_at (get_or old 0 0) → length base ≡ length r → 4098 ≤ length base
    → Ready C r (mark2 base 0 0 0) 0 (record { at = 0; puts = 0; out = 0; until = 0 })
ready C {r} {base} K l h =
    record { base = base; counts = K; long = l; marking = marks_begin C.edits (many C) base C.es (case_orderly C) (few_tokens C) h }

module _ {old : List ℕ} {C : Case old} {r r' : List ℕ} {k : ℕ} {m : Marks} (Y : Ready C r r' k m) where
  pub ready-record : k < length C.edits → Record C.edits k (edit_at C.edits k)
  ready-record h = next_record Y.marking h

  pub ready_on : {r'' : List ℕ} {j : ℕ} {w : Marks} → Marking C.edits (many C) Y.base r'' j w → Ready C r r'' j w
  ready_on M = record { base = Y.base; counts = Y.counts; long = Y.long; marking = M }

  pub ready_end : k ≡ length C.edits → Ready C r r' (length C.edits) m
  ready_end e = rw e at Y

-- all edits are passed: `all` is how many old tokens there are
module _ {old : List ℕ} {C : Case old} {r r' : List ℕ} {m : Marks} (Y : Ready C r r' (length C.edits) m) {all : ℕ} (is : all ≡ get_or r' (tokens_at + get_or old 0 0) 0) where
  all_base : all ≡ get_or Y.base (tokens_at + get_or old 0 0) 0
  all_base = let M = Y.marking in let s = M.short in let n = M.small in is ∙ M.apart.after (tokens_at + get_or old 0 0) (omega arith)

  pub all_few : all ≤ 2048
  all_few = omega (arith, all_many Y.counts all_base C, few_tokens C)

  pub all_clear : Clear C.edits (length C.edits) (many C) m.at all
  all_clear = rw (all_many Y.counts all_base C) (clear_end Y.marking refl)

  -- their marks are written in r₂
  module _ {r₂ : List ℕ} {w : Marks} (M : Marking C.edits (many C) Y.base r₂ (length C.edits) w) (at : w.at ≡ all) where
    marked : Marked all Y.base r₂ C.es
    marked = rw (all_many Y.counts all_base C) (marks_end M (at ∙ all_many Y.counts all_base C) C.es (case_orderly C))

    pub list-room : Room 0 (get_or r₂ (puts_at + all) 0) (length C.put)
    list-room = begin_room Y.counts all_base (case-holds C).0.1 all_few C marked

    pub list_begins : {r₃ : List ℕ} {k : ℕ} → Pushes r₂ r₃ 0 (get_or r₂ (puts_at + all) 0) (length C.put) k → Going C r₃ (get_or old 0 0) k
    list_begins P = begin Y.counts all_base (case-holds C).0.1 all_few C marked P

    pub listed : {r₃ r₄ : List ℕ} {k : ℕ} → length r₄ ≡ length r₂ → Elsewhere r₂ r₃ → Elsewhere r₃ r₄ → Pending C.t old C.put r₄ k (list C) → Listed C r r₄ k
    listed l E F P =
        let x = kept Y.counts all_base (case-holds C).0.1 all_few C marked (l ∙ M.long ∙ Y.long) E F in
        record { pending = P; few = list_few C P; counted = x.0; rest = x.1; long = l ∙ M.long ∙ Y.long }
