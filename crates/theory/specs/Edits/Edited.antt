-- The edited text by marks, and the reading list's tokens: they are the edited text.
use Rattle.std.specs.Prelude.{◌≡◌, refl, Bool, true, false, List, [], ◌∷◌, ◌++◌, ℕ, length}
use Rattle.std.proofs.Common.{sym, ap, ◌∙◌, append_assoc}
use Rattle.definitions.specs.Tree.{Tok, Row, ∅, tok, nod, ◌⧺◌, yield, row}
use Rattle.definitions.specs.Moves.{pick}
use Rattle.definitions.specs.Edits.{Mark, mark, edited, marks, put_at, new_text, Edit}
use Rattle.theory.specs.Edits.FromMarks.{skip, lead, tight, clean, whole?, pieces, reading_list}
use Rattle.theory.specs.Machine.Rows.{yield-append, yield-row}

edited-nil : (u : List Tok) → edited u [] ≡ u
edited-nil [] = refl
edited-nil (x ∷ u) = refl

pub edited-append : (u v : List Tok) (ms : List Mark) → edited (u ++ v) ms ≡ edited u ms ++ edited v (skip u ms)
edited-append [] v ms = refl
edited-append (x ∷ u) v [] = ap ((x ∷ u) ++◌) (sym (edited-nil v))
edited-append (x ∷ u) v (mark i true ∷ ms) = rw (edited-append u v ms) (sym (append_assoc i (x ∷ edited u ms) (edited v (skip u ms))))
edited-append (x ∷ u) v (mark i false ∷ ms) = rw (edited-append u v ms) (sym (append_assoc i (edited u ms) (edited v (skip u ms))))

tight_is : (u : List Tok) (ms : List Mark) → tight u ms ≡ true → edited u ms ≡ u
tight_is [] ms e = refl
tight_is (x ∷ u) [] e = refl
tight_is (x ∷ u) (mark [] true ∷ ms) e = ap (x ∷◌) (tight_is u ms e)
tight_is (x ∷ u) (mark [] false ∷ ms) e = cc
tight_is (x ∷ u) (mark (y ∷ i) b ∷ ms) e = cc

pub clean_is : (x : Tok) (u : List Tok) (ms : List Mark) → clean (x ∷ u) ms ≡ true → edited (x ∷ u) ms ≡ lead ms ++ (x ∷ u)
clean_is x u [] e = refl
clean_is x u (mark i true ∷ ms) e = ap (λ l. i ++ (x ∷ l)) (tight_is u ms e)
clean_is x u (mark i false ∷ ms) e = cc

yield_with : (i : List Tok) (f : Row) → yield (row i ⧺ f) ≡ i ++ yield f
yield_with [] f = refl
yield_with (x ∷ i) f = ap (x ∷◌) (yield_with i f)

pub yield-pieces : (f : Row) (ms : List Mark) → yield (pieces f ms) ≡ edited (yield f) ms
yield-pieces ∅ ms = refl
yield-pieces (tok x f) [] = ap (x ∷◌) (yield-pieces f [] ∙ edited-nil (yield f))
yield-pieces (tok x f) (mark i true ∷ ms) = yield_with i (tok x (pieces f ms)) ∙ ap (λ l. i ++ (x ∷ l)) (yield-pieces f ms)
yield-pieces (tok x f) (mark i false ∷ ms) = yield_with i (pieces f ms) ∙ ap (i ++◌) (yield-pieces f ms)
yield-pieces (nod q c f) ms = rw (edited-append (yield c) (yield f) ms) (by (yield-pieces c ms) (λ ms. yield-pieces f ms) (yield c) refl)
  where
    by : yield (pieces c ms) ≡ edited (yield c) ms → ((ms : List Mark) → yield (pieces f ms) ≡ edited (yield f) ms) → (u : List Tok) → yield c ≡ u
        → yield (pick u (pieces f ms) (whole? (clean u ms) (row (lead ms) ⧺ nod q c (pieces f (skip u ms))) (pieces c ms ⧺ pieces f (skip u ms)))) ≡ edited u ms ++ edited (yield f) (skip u ms)
    by kc kf [] z = kf ms
    by kc kf (x ∷ u) z = on (clean (x ∷ u) ms) refl
      where
        on : (b : Bool) → clean (x ∷ u) ms ≡ b
            → yield (whole? b (row (lead ms) ⧺ nod q c (pieces f (skip (x ∷ u) ms))) (pieces c ms ⧺ pieces f (skip (x ∷ u) ms))) ≡ edited (x ∷ u) ms ++ edited (yield f) (skip (x ∷ u) ms)
        on true e =
            yield_with (lead ms) (nod q c (pieces f (skip (x ∷ u) ms)))
            ∙ rw (clean_is x u ms e, z, kf (skip (x ∷ u) ms)) (sym (append_assoc (lead ms) (x ∷ u) (edited (yield f) (skip (x ∷ u) ms))))
        on false e = yield-append (pieces c ms) (pieces f (skip (x ∷ u) ms)) ∙ rw (kf (skip (x ∷ u) ms), kc, z) refl

-- the list reads the edited text
pub yield-list : (old : Row) (es : List Edit) (codes : List ℕ) → yield (reading_list old es codes) ≡ new_text (yield old) es codes
yield-list old es codes =
    yield-append (pieces old (marks 0 (length (yield old)) es codes)) (row (put_at (length (yield old)) es codes)) ∙ rw (yield-pieces, yield-row) refl
