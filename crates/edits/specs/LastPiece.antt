-- The last piece of a row, by its marks: what the reading list has of it, behind what it has of the pieces before.
use Rattle.std.specs.Prelude.{◌≡◌, refl, Bool, true, false, List, [], ◌∷◌, ◌++◌, ℕ, ◌<◌, length}
use Rattle.std.proofs.Common.{sym, ap, ◌∙◌, append-nil, arith}
use Rattle.definitions.specs.Tree.{Tok, Row, ∅, tok, nod, ◌⧺◌, row, yield, toks}
use Rattle.definitions.specs.Reading.{Tree, leaf, node, cons}
use Rattle.definitions.specs.Moves.{pick}
use Rattle.definitions.specs.Edits.{Mark, mark}
use Rattle.theory.specs.Machine.Rows.{append-∅, toks-length, row_assoc}
use Rattle.theory.specs.Edits.FromMarks.{skip, lead, clean, whole?, pieces}

skip-nil : (u : List Tok) → skip u [] ≡ []
skip-nil [] = refl
skip-nil (x ∷ u) = refl

skip-append : (u v : List Tok) (ms : List Mark) → skip (u ++ v) ms ≡ skip v (skip u ms)
skip-append [] v ms = refl
skip-append (x ∷ u) v [] = sym (skip-nil v)
skip-append (x ∷ u) v (m ∷ ms) = skip-append u v ms

-- the pieces of f and then those of g
pub pieces-append : (f g : Row) (ms : List Mark) → pieces (f ⧺ g) ms ≡ pieces f ms ⧺ pieces g (skip (yield f) ms)
pieces-append ∅ g ms = refl
pieces-append (tok x f) g [] = ap (tok x) (pieces-append f g [] ∙ ap (λ (l : List Mark). pieces f [] ⧺ pieces g l) (skip-nil (yield f)))
pieces-append (tok x f) g (mark i true ∷ ms) =
    ap (λ (h : Row). row i ⧺ tok x h) (pieces-append f g ms) ∙ sym (row_assoc (row i) (tok x (pieces f ms)) (pieces g (skip (yield f) ms)))
pieces-append (tok x f) g (mark i false ∷ ms) = ap (row i ⧺◌) (pieces-append f g ms) ∙ sym (row_assoc (row i) (pieces f ms) (pieces g (skip (yield f) ms)))
pieces-append (nod q c f) g ms = rw (skip-append (yield c) (yield f) ms) (by (yield c) (clean (yield c) ms) (λ l. pieces-append f g l))
  where
    by : (u : List Tok) (b : Bool) → ((l : List Mark) → pieces (f ⧺ g) l ≡ pieces f l ⧺ pieces g (skip (yield f) l))
        → pick u (pieces (f ⧺ g) ms) (whole? b (row (lead ms) ⧺ nod q c (pieces (f ⧺ g) (skip u ms))) (pieces c ms ⧺ pieces (f ⧺ g) (skip u ms)))
        ≡ pick u (pieces f ms) (whole? b (row (lead ms) ⧺ nod q c (pieces f (skip u ms))) (pieces c ms ⧺ pieces f (skip u ms))) ⧺ pieces g (skip (yield f) (skip u ms))
    by [] b e = e ms
    by (x ∷ u) true e =
        let l = skip (x ∷ u) ms in
        ap (λ (h : Row). row (lead ms) ⧺ nod q c h) (e l) ∙ sym (row_assoc (row (lead ms)) (nod q c (pieces f l)) (pieces g (skip (yield f) l)))
    by (x ∷ u) false e =
        let l = skip (x ∷ u) ms in
        ap (pieces c ms ⧺◌) (e l) ∙ sym (row_assoc (pieces c ms) (pieces f l) (pieces g (skip (yield f) l)))

-- ---- one piece
module _ (ms : List Mark) where
  -- it has no tokens: nothing
  pub piece-none : (x : Tree) → toks (cons x ∅) ≡ 0 → pieces (cons x ∅) ms ≡ ∅
  piece-none (leaf y) h = absurd (omega arith)
  piece-none (node q c) h = by (yield c) (toks-length c)
    where
      by : (u : List Tok) → toks c ≡ length u → pick u ∅ (whole? (clean u ms) (row (lead ms) ⧺ nod q c ∅) (pieces c ms ⧺ ∅)) ≡ ∅
      by [] e = refl
      by (x ∷ u) e = absurd (omega arith)

  -- it is clean: what is put in before it, and the piece
  pub piece-clean : (x : Tree) → 0 < toks (cons x ∅) → clean (yield (cons x ∅)) ms ≡ true → pieces (cons x ∅) ms ≡ row (lead ms) ⧺ cons x ∅
  piece-clean (leaf y) h e = by ms e
    where
      by : (l : List Mark) → clean (y ∷ []) l ≡ true → pieces (tok y ∅) l ≡ row (lead l) ⧺ tok y ∅
      by [] e = refl
      by (mark i true ∷ l) e = refl
      by (mark i false ∷ l) e = let z : ◌≡◌ {A = ℕ} 0 1 = cc in absurd (omega arith)
  piece-clean (node q c) h e = by (yield c) (toks-length c) (rw append-nil at e)
    where
      by : (u : List Tok) → toks c ≡ length u → clean u ms ≡ true → pick u ∅ (whole? (clean u ms) (row (lead ms) ⧺ nod q c ∅) (pieces c ms ⧺ ∅)) ≡ row (lead ms) ⧺ nod q c ∅
      by [] n k = absurd (omega arith)
      by (x ∷ u) n k = rw k refl

  -- a token that is not: what is put in before it
  pub token_gone : (y : Tok) → clean (y ∷ []) ms ≡ false → pieces (tok y ∅) ms ≡ row (lead ms)
  token_gone y e = by ms e
    where
      by : (l : List Mark) → clean (y ∷ []) l ≡ false → pieces (tok y ∅) l ≡ row (lead l)
      by [] e = let z : ◌≡◌ {A = ℕ} 0 1 = cc in absurd (omega arith)
      by (mark i true ∷ l) e = let z : ◌≡◌ {A = ℕ} 0 1 = cc in absurd (omega arith)
      by (mark i false ∷ l) e = append-∅ (row i)

  -- a node that is not: what its children give
  pub node_broken : (q : ℕ) (c : Row) → 0 < toks c → clean (yield (cons (node q c) ∅)) ms ≡ false → pieces (nod q c ∅) ms ≡ pieces c ms
  node_broken q c h e = by (yield c) (toks-length c) (rw append-nil at e)
    where
      by : (u : List Tok) → toks c ≡ length u → clean u ms ≡ false → pick u ∅ (whole? (clean u ms) (row (lead ms) ⧺ nod q c ∅) (pieces c ms ⧺ ∅)) ≡ pieces c ms
      by [] n k = absurd (omega arith)
      by (x ∷ u) n k = rw k (append-∅ (pieces c ms))
