-- Demand 3: what an update tells of a tree in order and edits in order, on an accepted table, with room enough lent; beside a fresh
-- reading of the edited text.
use Rattle.std.specs.Prelude.{◌≡◌, refl, List, ℕ, ◌+◌, ◌*◌, ◌≤◌, ◌<◌, length, get_or, drop}
use Rattle.std.proofs.Common.{sym, ap, ◌∙◌, subst, arith}
use Rattle.std.proofs.Math.Decide.{dec_le}
use Rattle.definitions.specs.Sheet.{T}
use Rattle.definitions.specs.States.{Accepted}
use Rattle.definitions.specs.Table.{table_of}
use Rattle.definitions.specs.Tree.{Tok, mk, Row, ∅, tok, nod, row, size, yield, Derivation, NRow, erase, InOrder}
use Rattle.definitions.specs.Reading.{bot, End, taken, refused, Counts}
use Rattle.definitions.specs.Moves.{reading, Done}
use Rattle.definitions.specs.Edits.{Edit, EditsInOrder, inserted, new_text}
use Rattle.theory.specs.Edits.FromMarks.{reading_list}
use Rattle.definitions.specs.Numbers.{forget, Nothing, Kept}
use Rattle.theory.specs.Numbers.Number.{judge, number, renumber}
use Rattle.definitions.specs.Answers.{Told, if, given, refuse, accept, ending, finished, TextInOrder}
use Rattle.theory.specs.Table.Bridge.{rules_of, conditions_of}
use Rattle.theory.specs.Machine.Rows.{yield-row}
use Rattle.theory.specs.Machine.Steps.{run}
use Rattle.theory.specs.Machine.Same.{same_reading}
use Rattle.theory.specs.Machine.Update.{valid_row}
use Rattle.theory.specs.Machine.NoMore.{at_most, exactly}
use Rattle.theory.specs.Machine.Bare.{bare_text, bare, bare_stack, bare_end, run-bare, inners-bare, der_bare, yield-bare, size-bare}
use Rattle.theory.specs.Machine.Begun.{kinds}
use Rattle.theory.specs.Numbers.KeptNumbers.{kept, kept_fit, kept_derives, kept_text, kept_size, anew, afresh_next, afresh-text}
use Rattle.theory.specs.Numbers.Identities.{Blank, blank_inserted}
use Rattle.theory.specs.Edits.Edited.{yield-list}
use Rattle.theory.specs.Edits.EditsD.{edits_in, one_edits}
use Rattle.theory.specs.Edits.ListValid.{valid_list}
use Rattle.theory.specs.Edits.EditedText.{inserted-codes, length-codes, Known, known_text, known_kinds, known_real, text_new}
use Rattle.theory.specs.Tree.InOrderD.{tree_in, one-tree}
use Rattle.theory.specs.Check.Judge.{judged}
use Rattle.theory.specs.Answers.{update, update_in, afresh, enough, taken_on, if_yes}
use Rattle.theory.specs.Demands.Rows.{in_row}
use Rattle.theory.specs.Demands.Afresh.{Reads, accepts, errs, full, run_reads, PlaceOf, told as fresh-told, done}

-- ---- shapes: rows alike in kinds and shape
bare-forget : (n : ℕ) (f : Row) → bare (forget n f) ≡ bare f
bare-forget n ∅ = refl
bare-forget n (tok (mk k i) f) = ap (tok (mk k 0)) (bare-forget n f)
bare-forget n (nod q c f) = let a = bare-forget n c in let b = bare-forget n f in cc

bare-bare : (f : Row) → bare (bare f) ≡ bare f
bare-bare ∅ = refl
bare-bare (tok (mk k i) f) = ap (tok (mk k 0)) (bare-bare f)
bare-bare (nod q c f) = let a = bare-bare c in let b = bare-bare f in cc

derivation_bare : (t : List ℕ) {w : List Tok} {f : Row} → Derivation t w f → Derivation t (bare_text w) (bare f)
derivation_bare t {f = f} D = record { tree = der_bare (table_of t) D.tree; text = yield-bare f ∙ ap bare_text D.text }

not_nine : (n : ℕ) → n < 9 → n ≡ 9 → ⊥
not_nine n h e = omega arith

-- ---- a judgement over something that is one only
given-at : {X B : Type 0} {P : X → Type 0} (d : Dec ((x : X) × P x)) (body : X → B) (b : B) (x : X) → P x → ((y : X) → P y → y ≡ x) → given d (λ r. body r.0) b ≡ body x
given-at (yes h) body b x p u = ap body (u h.0 h.1)
given-at (no h) body b x p u = absurd (h (x, p))

-- ---- what an update tells
pub data Updated (t : List ℕ) (old : NRow) (n : ℕ) (w : List Tok) (tree room : List ℕ) : Told → Type 0 where
  updated : {f : Row} {r : NRow} {m : ℕ} {k : Counts} → Derivation t w f → size f ≤ 2048 → Kept old Nothing n f r m → m ≤ 4294967295
      → InOrder t (accept tree room r m k).tree r → Updated t old n w tree room (accept tree room r m k)
  seven : {i : ℕ} → PlaceOf t w i → ((f : Row) → Derivation t w f → ⊥) → Updated t old n w tree room (refuse tree room 7 i)
  eight : ((f : Row) → Derivation t w f → 2048 < size f) → Updated t old n w tree room (refuse tree room 8 0)
  nine : {f : Row} {r : NRow} {m : ℕ} → Derivation t w f → size f ≤ 2048 → Kept old Nothing n f r m → 4294967295 < m → Updated t old n w tree room (refuse tree room 9 0)

-- "An update ends as a fresh reading of the edited text would (same tree, same syntax place, same lack of room), except that numbers
-- may run out." "It makes no more reductions than the fresh reading." The update, and the fresh reading
pub data AsAfresh (tree room : List ℕ) : Told → Told → Type 0 where
  same_refusal : {n i : ℕ} → (n ≡ 9 → ⊥) → AsAfresh tree room (refuse tree room n i) (refuse tree room n i)
  same_tree : (r s : NRow) {m o : ℕ} {k l : Counts} → bare (erase r) ≡ bare (erase s) → k.reductions ≤ l.reductions → AsAfresh tree room (accept tree room r m k) (accept tree room s o l)
  no_numbers : (s : NRow) {o : ℕ} {l : Counts} → AsAfresh tree room (refuse tree room 9 0) (accept tree room s o l)

module _ (t : List ℕ) (A : Accepted t) (old edits codes : List ℕ) (r : NRow) (O : InOrder t old r) (es : List Edit) (E : EditsInOrder t (yield (erase r)) edits codes es)
    (tree room : List ℕ) where
  abbrev pub text : List Tok
  text = new_text (yield (erase r)) es codes

  abbrev pub list : Done
  list = reading (table_of t) 2048 (reading_list (erase r) es codes)

  abbrev pub numbers : Row → NRow × ℕ
  numbers = renumber (judge r) r (get_or old 1 0)

  pub known : Known (T t) text
  known = known_text (T t) (yield (erase r)) es codes E.known (known_kinds (T t) r O.kinds)

  pub list_ends : list.end ≡ run (table_of t) 2048 bot text
  list_ends =
      same_reading (table_of t) (rules_of t A) (conditions_of t A) 2048 (reading_list (erase r) es codes) (valid_list (table_of t) O.derives es codes)
      ∙ ap (run (table_of t) 2048 bot) (yield-list (erase r) es codes)

  -- what the reading of the list comes to
  pub list_reads : Reads t text list.end
  list_reads = rw list_ends (run_reads t A text (known_real (T t) text known))

  -- the tree f was read
  kept_by : {f : Row} → Derivation t text f → Kept r Nothing (get_or old 1 0) f (numbers f).0 (numbers f).1
  kept_by {f} D = kept O.numbers f (text_new r f es codes D.text)

  ended : (e : End) → Reads t text e → Updated t r (get_or old 1 0) text tree room (finished tree room numbers (record { end = e; counts = list.counts }))
  ended (taken σ) (accepts {s = s} {q = q} {c = c} z D l) =
      subst (λ x. Updated t r (get_or old 1 0) text tree room (finished tree room numbers (record { end = taken x; counts = list.counts }))) (sym z) (by (dec_le (numbers f).1 4294967295))
    where
      f : Row
      f = nod q c ∅

      K : Kept r Nothing (get_or old 1 0) f (numbers f).0 (numbers f).1
      K = kept_by D

      order : InOrder t (accept tree room (numbers f).0 (numbers f).1 list.counts).tree (numbers f).0
      order =
          in_row t A (numbers f).0 (numbers f).1 (drop (2 + 3 * size (erase (numbers f).0)) tree) (omega (arith, kept_size O.numbers K))
          (kept_derives O.numbers D.tree K) (kept_fit O.numbers (text_new r f es codes D.text) K)

      by : (d : Dec ((numbers f).1 ≤ 4294967295)) → Updated t r (get_or old 1 0) text tree room (if d (accept tree room (numbers f).0 (numbers f).1 list.counts) (refuse tree room 9 0))
      by (yes h) = updated D l K h order
      by (no h) = nine D l K (omega arith)
  ended (refused n i) (errs p g) = seven p g
  ended (refused n i) (full g) = eight g

  pub list_tells : Updated t r (get_or old 1 0) text tree room (finished tree room numbers list)
  list_tells = ended list.end list_reads

  -- the edited text is in order for a fresh reading
  pub fresh_text : TextInOrder t (kinds text) 1
  fresh_text = record { known = known; few = omega (arith, length-codes text, E.few); number = omega arith }

  module _ (wide : 6146 ≤ length tree) (roomy : 16384 ≤ length room) where
    pub told : update t old edits codes tree room ≡ finished tree room numbers list
    unfolding update update_in
    told =
        enough tree room (update_in t old edits codes tree room) wide roomy
        ∙ taken_on t (judged t) A tree room _ _ (λ a.
        given-at (tree_in t old a.layout)
        (λ x. given (edits_in t (yield (erase x)) edits codes) (λ e. finished tree room (renumber (judge x) x (get_or old 1 0)) (reading (table_of t) 2048 (reading_list (erase x) e.0 codes))) (refuse tree room 6 0))
        (refuse tree room 5 0) r O (λ y p. one-tree t old a.layout y r p O)
        ∙ given-at (edits_in t (yield (erase r)) edits codes) (λ e. finished tree room numbers (reading (table_of t) 2048 (reading_list (erase r) e codes))) (refuse tree room 6 0) es E
        (λ y p. one_edits t (yield (erase r)) edits codes p E))

    pub update_tells : Updated t r (get_or old 1 0) text tree room (update t old edits codes tree room)
    update_tells = rw told list_tells

    -- ---- beside a fresh reading of the edited text
    pub list_as_afresh : AsAfresh tree room (finished tree room numbers list) (afresh t (kinds text) 1 tree room)
    list_as_afresh =
        rw (fresh-told t A (kinds text) 1 fresh_text tree room wide roomy, fresh_ends)
        (by list.end refl list_reads)
      where
        fresh : Done
        fresh = done t A (kinds text) 1 fresh_text tree room

        fresh_ends : (done t A (kinds text) 1 fresh_text tree room).end ≡ bare_end list.end
        fresh_ends =
            same_reading (table_of t) (rules_of t A) (conditions_of t A) 2048 (row (inserted (kinds text))) (valid_row (table_of t) (inserted (kinds text)))
            ∙ ap (run (table_of t) 2048 bot) (yield-row (inserted (kinds text)) ∙ inserted-codes text)
            ∙ run-bare (table_of t) 2048 bot text ∙ ap bare_end (sym list_ends)

        by : (e : End) → list.end ≡ e → Reads t text e → AsAfresh tree room (ending tree room numbers list.counts e) (ending tree room (λ f. number anew f 1) fresh.counts (bare_end e))
        by (refused n i) z (errs p g) = same_refusal (not_nine 7 (omega arith))
        by (refused n i) z (full g) = same_refusal (not_nine 8 (omega arith))
        by (taken σ) z (accepts {s = s} {q = q} {c = c} y D l) =
            subst (λ x. AsAfresh tree room (ending tree room numbers list.counts (taken x)) (ending tree room (λ f. number anew f 1) fresh.counts (taken (bare_stack x)))) (sym y)
            (subst (AsAfresh tree room (if (dec_le (numbers f).1 4294967295) (accept tree room (numbers f).0 (numbers f).1 list.counts) (refuse tree room 9 0))) (sym fits) (on (dec_le (numbers f).1 4294967295)))
          where
            f : Row
            f = nod q c ∅

            B : Derivation t (bare_text text) (bare f)
            B = derivation_bare t D

            blank : Blank (yield (bare f))
            blank = rw (B.text ∙ sym (inserted-codes text)) (blank_inserted (kinds text))

            next : (number anew (bare f) 1).1 ≡ 1 + size (bare f)
            next = afresh_next (bare f) blank 1 (omega arith)

            fits : if (dec_le (number anew (bare f) 1).1 4294967295) (accept tree room (number anew (bare f) 1).0 (number anew (bare f) 1).1 fresh.counts) (refuse tree room 9 0)
                ≡ accept tree room (number anew (bare f) 1).0 (number anew (bare f) 1).1 fresh.counts
            fits = if_yes (dec_le (number anew (bare f) 1).1 4294967295) _ _ (omega (arith, next, size-bare f))

            same : bare (erase (numbers f).0) ≡ bare (erase (number anew (bare f) 1).0)
            same =
                sym (bare-forget (get_or old 1 0) (erase (numbers f).0)) ∙ ap bare (kept_text O.numbers (kept_by D))
                ∙ sym (bare-bare f) ∙ ap bare (sym (afresh-text (bare f) blank 1 (omega arith))) ∙ bare-forget 1 (erase (number anew (bare f) 1).0)

            fewer : list.counts.reductions ≤ fresh.counts.reductions
            fewer =
                omega (
                  arith,
                  at_most (table_of t) 2048 (reading_list (erase r) es codes) σ z,
                  exactly (table_of t) 2048 (inserted (kinds text)) (bare_stack σ) (fresh_ends ∙ ap bare_end z),
                  inners-bare σ,
                )

            on : (d : Dec ((numbers f).1 ≤ 4294967295))
                → AsAfresh tree room (if d (accept tree room (numbers f).0 (numbers f).1 list.counts) (refuse tree room 9 0)) (accept tree room (number anew (bare f) 1).0 (number anew (bare f) 1).1 fresh.counts)
            on (yes h) = same_tree (numbers f).0 (number anew (bare f) 1).0 same fewer
            on (no h) = no_numbers (number anew (bare f) 1).0

    pub as_afresh : AsAfresh tree room (update t old edits codes tree room) (afresh t (kinds text) 1 tree room)
    as_afresh = rw told list_as_afresh
