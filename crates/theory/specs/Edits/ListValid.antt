-- The reading list of an old tree: each of its pieces is one of the grammar and has tokens; its text has no end mark, is of known
-- terminals, and has each old token at most once.
use Rattle.std.specs.Prelude.{◌≡◌, refl, Bool, true, false, List, [], ◌∷◌, ℕ, length}
use Rattle.std.proofs.Common.{ap, arith}
use Rattle.definitions.specs.Table.{Sym, Table}
use Rattle.definitions.specs.Tree.{Tok, Row, ∅, tok, nod, ◌⧺◌, yield, row, Der, d∅, dtok, dnod}
use Rattle.definitions.specs.Moves.{pick}
use Rattle.definitions.specs.Edits.{Edit, Mark, mark, marks, put_at}
use Rattle.theory.specs.Edits.FromMarks.{lead, skip, clean, whole?, pieces, reading_list}
use Rattle.theory.specs.Machine.Rows.{toks-length}
use Rattle.theory.specs.Machine.Update.{Valid, valid_row, valid_append}
use Rattle.theory.specs.Machine.Shifts.{Tokened, tokened-row, tokened-append}

module _ (G : Table) where
  valid_pieces : {f : Row} {γ : List Sym} → Der G f γ → (ms : List Mark) → Valid G (pieces f ms)
  valid_pieces d∅ ms = tt
  valid_pieces (dtok D) [] = valid_pieces D []
  valid_pieces (dtok {x = x} {f = f} D) (mark i true ∷ ms) = valid_append G (row i) (tok x (pieces f ms)) (valid_row G i) (valid_pieces D ms)
  valid_pieces (dtok {f = f} D) (mark i false ∷ ms) = valid_append G (row i) (pieces f ms) (valid_row G i) (valid_pieces D ms)
  valid_pieces (dnod {q = q} {c = c} {f = f} P Dc D) ms = by (yield c) (clean (yield c) ms) (valid_pieces Dc ms) (λ ms. valid_pieces D ms)
    where
      by : (u : List Tok) (b : Bool) → Valid G (pieces c ms) → ((ms : List Mark) → Valid G (pieces f ms))
          → Valid G (pick u (pieces f ms) (whole? b (row (lead ms) ⧺ nod q c (pieces f (skip (yield c) ms))) (pieces c ms ⧺ pieces f (skip (yield c) ms))))
      by [] b vc vf = vf ms
      by (x ∷ u) true vc vf = valid_append G (row (lead ms)) (nod q c (pieces f (skip (yield c) ms))) (valid_row G (lead ms)) (P, Dc, vf (skip (yield c) ms))
      by (x ∷ u) false vc vf = valid_append G (pieces c ms) (pieces f (skip (yield c) ms)) vc (vf (skip (yield c) ms))

  pub valid_list : {old : Row} {γ : List Sym} → Der G old γ → (es : List Edit) (codes : List ℕ) → Valid G (reading_list old es codes)
  valid_list {old} D es codes =
      let n = length (yield old) in
      valid_append G (pieces old (marks 0 n es codes)) (row (put_at n es codes)) (valid_pieces D (marks 0 n es codes)) (valid_row G (put_at n es codes))

tokened-pieces : (f : Row) (ms : List Mark) → Tokened (pieces f ms)
tokened-pieces ∅ ms = tt
tokened-pieces (tok x f) [] = tokened-pieces f []
tokened-pieces (tok x f) (mark i true ∷ ms) = tokened-append (row i) (tok x (pieces f ms)) (tokened-row i) (tokened-pieces f ms)
tokened-pieces (tok x f) (mark i false ∷ ms) = tokened-append (row i) (pieces f ms) (tokened-row i) (tokened-pieces f ms)
tokened-pieces (nod q c f) ms = by (yield c) refl (clean (yield c) ms) (tokened-pieces c ms) (λ ms. tokened-pieces f ms)
  where
    by : (u : List Tok) → yield c ≡ u → (b : Bool) → Tokened (pieces c ms) → ((ms : List Mark) → Tokened (pieces f ms))
        → Tokened (pick u (pieces f ms) (whole? b (row (lead ms) ⧺ nod q c (pieces f (skip (yield c) ms))) (pieces c ms ⧺ pieces f (skip (yield c) ms))))
    by [] z b vc vf = vf ms
    by (x ∷ u) z true vc vf =
        tokened-append (row (lead ms)) (nod q c (pieces f (skip (yield c) ms))) (tokened-row (lead ms)) (omega (arith, toks-length c, ap length z), vf (skip (yield c) ms))
    by (x ∷ u) z false vc vf = tokened-append (pieces c ms) (pieces f (skip (yield c) ms)) vc (vf (skip (yield c) ms))

pub tokened-list : (old : Row) (es : List Edit) (codes : List ℕ) → Tokened (reading_list old es codes)
tokened-list old es codes =
    let n = length (yield old) in
    tokened-append (pieces old (marks 0 n es codes)) (row (put_at n es codes)) (tokened-pieces old (marks 0 n es codes)) (tokened-row (put_at n es codes))
