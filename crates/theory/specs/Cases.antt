-- Cases that are read wrongly with ease, on the house table, as one list under one theorem: what an empty sheet keeps, a new whole
-- tree that was an inner piece, insertions at a piece's border, and edits of nothing.
use Rattle.std.specs.Prelude.{◌≡◌, List, [], ◌∷◌, map, ℕ, ◌≤◌, length}
use Rattle.std.proofs.Math.Path.{refl}
use Rattle.std.proofs.Math.Decide.{dec_le, dec_lt, ℕ_discrete}
use Rattle.definitions.specs.House.{house}
use Rattle.definitions.specs.States.{Accepted}
use Rattle.definitions.specs.Table.{table_of}
use Rattle.definitions.specs.Tree.{eqn}
use Rattle.definitions.specs.Moves.{read}
use Rattle.definitions.specs.Examples.{edit, Example, gives, refuses, ◌⊳◌, five, row-m, row_mm}
use Rattle.theory.specs.Numbers.Number.{number, renumber}
use Rattle.theory.specs.Tree.Build.{build}
use Rattle.theory.specs.Tree.InOrderD.{tree_in}
use Rattle.theory.specs.Edits.EditsD.{edits_in}
use Rattle.theory.specs.Starred.{answer, expected, inside, each}

-- `m`, removed. Nothing, m put in. Nothing, no edits. `m m`, second removed. `m`, m put in at 0. `[ m ]`, an edit of nothing at 1.
-- `m`, next number too small for its nodes, and edits that break off. `m`, a place beyond the text.
unfoldable pub cases : List Example
cases =
    (edit row-m (0 ∷ 1 ∷ 0 ∷ []) [] ⊳ gives (1 ∷ 6 ∷ 257 ∷ 5 ∷ 1 ∷ []) (five 0 0 0 0 1))
    ∷ (edit (1 ∷ 2 ∷ 257 ∷ 1 ∷ 1 ∷ []) (0 ∷ 0 ∷ 1 ∷ []) (1 ∷ []) ⊳
    gives (4 ∷ 6 ∷ 257 ∷ 2 ∷ 1 ∷ 1 ∷ 3 ∷ 1 ∷ 259 ∷ 4 ∷ 2 ∷ 258 ∷ 5 ∷ 4 ∷ []) (five 0 0 0 1 3))
    ∷ (edit (1 ∷ 2 ∷ 257 ∷ 1 ∷ 1 ∷ []) [] [] ⊳ gives (1 ∷ 2 ∷ 257 ∷ 1 ∷ 1 ∷ []) (five 0 0 0 0 1))
    ∷ (edit row_mm (1 ∷ 1 ∷ 0 ∷ []) [] ⊳ gives (4 ∷ 8 ∷ 257 ∷ 1 ∷ 1 ∷ 1 ∷ 2 ∷ 1 ∷ 259 ∷ 3 ∷ 2 ∷ 258 ∷ 4 ∷ 4 ∷ []) (five 1 1 1 0 3))
    ∷ (edit row-m (0 ∷ 0 ∷ 1 ∷ []) (1 ∷ []) ⊳
    gives (7 ∷ 10 ∷ 257 ∷ 5 ∷ 1 ∷ 1 ∷ 6 ∷ 1 ∷ 259 ∷ 7 ∷ 2 ∷ 258 ∷ 8 ∷ 4 ∷ 1 ∷ 2 ∷ 1 ∷ 259 ∷ 3 ∷ 2 ∷ 258 ∷ 9 ∷ 7 ∷ []) (five 1 1 1 1 5))
    ∷ (edit (9 ∷ 10 ∷ 257 ∷ 1 ∷ 1 ∷ 2 ∷ 2 ∷ 1 ∷ 257 ∷ 3 ∷ 1 ∷ 1 ∷ 4 ∷ 1 ∷ 259 ∷ 5 ∷ 2 ∷ 258 ∷ 6 ∷ 4 ∷ 3 ∷ 7 ∷ 1 ∷ 260 ∷ 8 ∷ 7 ∷ 258 ∷ 9 ∷ 9 ∷ []) (1 ∷ 0 ∷ 0 ∷ []) [] ⊳
    gives (9 ∷ 10 ∷ 257 ∷ 1 ∷ 1 ∷ 2 ∷ 2 ∷ 1 ∷ 257 ∷ 3 ∷ 1 ∷ 1 ∷ 4 ∷ 1 ∷ 259 ∷ 5 ∷ 2 ∷ 258 ∷ 6 ∷ 4 ∷ 3 ∷ 7 ∷ 1 ∷ 260 ∷ 8 ∷ 7 ∷ 258 ∷ 9 ∷ 9 ∷ []) (five 1 1 1 0 3))
    ∷ (edit (4 ∷ 4 ∷ 257 ∷ 1 ∷ 1 ∷ 1 ∷ 2 ∷ 1 ∷ 259 ∷ 3 ∷ 2 ∷ 258 ∷ 4 ∷ 4 ∷ []) (0 ∷ []) [] ⊳ refuses 5 0)
    ∷ (edit row-m (4294967295 ∷ 2 ∷ 0 ∷ []) [] ⊳ refuses 6 0)
    ∷ []

module _ (tree room : List ℕ) where
  computed : (a : Accepted house) → map (λ e. inside tree room a e.asked) cases ≡ map (λ e. expected tree room e.told) cases
  unfolding cases house tree_in build edits_in table_of eqn ℕ_discrete dec_le dec_lt read number renumber
  computed a = refl

  pub cases_right : 6146 ≤ length tree → 16384 ≤ length room → map (λ e. answer tree room e.asked) cases ≡ map (λ e. expected tree room e.told) cases
  cases_right wide roomy = each tree room wide roomy cases computed
