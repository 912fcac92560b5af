-- The reading list made from the marks of the old tokens, in one walk over the old tree.
use Rattle.std.specs.Prelude.{Bool, true, false, List, [], ◌∷◌, ℕ, length}
use Rattle.definitions.specs.Tree.{Tok, Row, ∅, tok, nod, ◌⧺◌, row, yield}
use Rattle.definitions.specs.Moves.{pick}
use Rattle.definitions.specs.Edits.{Edit, Mark, mark, marks, put_at}

-- the marks behind those of u; what is put in before the next old token
abbrev pub skip : List Tok → List Mark → List Mark
skip [] ms = ms
skip (x ∷ u) [] = []
skip (x ∷ u) (m ∷ ms) = skip u ms

abbrev pub lead : List Mark → List Tok
lead [] = []
lead (mark i b ∷ ms) = i

-- the tokens remain, and nothing is put in before any of them; before any but the first
abbrev pub tight : List Tok → List Mark → Bool
tight [] ms = true
tight (x ∷ u) [] = true
tight (x ∷ u) (mark [] true ∷ ms) = tight u ms
tight (x ∷ u) (mark [] false ∷ ms) = false
tight (x ∷ u) (mark (y ∷ i) b ∷ ms) = false

abbrev pub clean : List Tok → List Mark → Bool
clean [] ms = true
clean (x ∷ u) [] = true
clean (x ∷ u) (mark i true ∷ ms) = tight u ms
clean (x ∷ u) (mark i false ∷ ms) = false

abbrev pub whole? : Bool → Row → Row → Row
whole? true a b = a
whole? false a b = b

abbrev pub pieces : Row → List Mark → Row
pieces ∅ ms = ∅
pieces (tok x f) [] = tok x (pieces f [])
pieces (tok x f) (mark i true ∷ ms) = row i ⧺ tok x (pieces f ms)
pieces (tok x f) (mark i false ∷ ms) = row i ⧺ pieces f ms
pieces (nod q c f) ms = pick (yield c) (pieces f ms) (whole? (clean (yield c) ms) (row (lead ms) ⧺ nod q c (pieces f (skip (yield c) ms))) (pieces c ms ⧺ pieces f (skip (yield c) ms)))

abbrev pub reading_list : Row → List Edit → List ℕ → Row
reading_list old es codes = pieces old (marks 0 (length (yield old)) es codes) ⧺ row (put_at (length (yield old)) es codes)
