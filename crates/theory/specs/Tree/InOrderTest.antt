-- Rows of the house grammar read back, and rows that are not in order, one for each thing that the document asks.
use Rattle.std.specs.Prelude.{◌≡◌, List, [], ◌∷◌, ◌++◌, ℕ}
use Rattle.std.proofs.Math.Path.{refl}
use Rattle.std.proofs.Math.Decide.{ℕ_discrete, dec_le, dec_lt}
use Rattle.definitions.specs.House.{house}
use Rattle.definitions.specs.Sheet.{Layout}
use Rattle.definitions.specs.Table.{table_of}
use Rattle.definitions.specs.Tree.{NRow, words, InOrder, eqn}
use Rattle.theory.specs.Tree.Build.{build}
use Rattle.theory.specs.Tree.InOrderD.{tree_in}

-- the words of the tree, or nothing
abbrev said : {row : List ℕ} → Dec ((r : NRow) × InOrder house row r) → List ℕ
said (yes p) = words p.0
said (no h) = []

module _ (y : Layout house) where
  abbrev read : List ℕ → List ℕ
  read row = said {row = row} (tree_in house row y)

  -- one token
  four : read (4 ∷ 5 ∷ 257 ∷ 1 ∷ 1 ∷ 1 ∷ 2 ∷ 1 ∷ 259 ∷ 3 ∷ 2 ∷ 258 ∷ 4 ∷ 4 ∷ []) ≡ 257 ∷ 1 ∷ 1 ∷ 1 ∷ 2 ∷ 1 ∷ 259 ∷ 3 ∷ 2 ∷ 258 ∷ 4 ∷ 4 ∷ []
  unfolding tree_in build house table_of eqn ℕ_discrete dec_le dec_lt
  four = refl

  -- more words are ignored; twelve nodes
  abbrev twelve : List ℕ
  twelve =
      257 ∷ 7 ∷ 1 ∷ 1 ∷ 2 ∷ 1 ∷ 259 ∷ 3 ∷ 2 ∷ 258 ∷ 4 ∷ 4 ∷ 2 ∷ 5 ∷ 1 ∷ 257 ∷ 6 ∷ 1 ∷ 1 ∷ 1 ∷ 1 ∷ 259 ∷ 8 ∷ 2 ∷ 258 ∷ 9 ∷ 4 ∷
      3 ∷ 10 ∷ 1 ∷ 260 ∷ 11 ∷ 7 ∷ 258 ∷ 12 ∷ 12 ∷ []

  more : read (12 ∷ 40 ∷ twelve ++ 5 ∷ 6 ∷ []) ≡ twelve
  unfolding tree_in build house table_of eqn ℕ_discrete dec_le dec_lt
  more = refl

  -- the next number is too low
  next : read (12 ∷ 12 ∷ twelve) ≡ []
  unfolding tree_in build house table_of eqn ℕ_discrete dec_le dec_lt
  next = refl

  -- words that are missing, a count that is too low, and none at all
  short : read (4 ∷ 5 ∷ 257 ∷ 1 ∷ 1 ∷ 1 ∷ 2 ∷ 1 ∷ 259 ∷ 3 ∷ 2 ∷ 258 ∷ 4 ∷ []) ≡ []
  unfolding tree_in build house table_of eqn ℕ_discrete dec_le dec_lt
  short = refl

  under : read (3 ∷ 5 ∷ 257 ∷ 1 ∷ 1 ∷ 1 ∷ 2 ∷ 1 ∷ 259 ∷ 3 ∷ 2 ∷ 258 ∷ 4 ∷ 4 ∷ []) ≡ []
  unfolding tree_in build house table_of eqn ℕ_discrete dec_le dec_lt
  under = refl

  empty : (read (0 ∷ 5 ∷ []) ≡ []) × (read [] ≡ [])
  unfolding tree_in build house table_of eqn ℕ_discrete dec_le dec_lt
  empty = (refl, refl)

  -- a size, a number that stands twice, a number 0
  sizes : read (4 ∷ 5 ∷ 257 ∷ 1 ∷ 1 ∷ 1 ∷ 2 ∷ 1 ∷ 259 ∷ 3 ∷ 1 ∷ 258 ∷ 4 ∷ 4 ∷ []) ≡ []
  unfolding tree_in build house table_of eqn ℕ_discrete dec_le dec_lt
  sizes = refl

  twice : read (4 ∷ 5 ∷ 257 ∷ 1 ∷ 1 ∷ 1 ∷ 4 ∷ 1 ∷ 259 ∷ 3 ∷ 2 ∷ 258 ∷ 4 ∷ 4 ∷ []) ≡ []
  unfolding tree_in build house table_of eqn ℕ_discrete dec_le dec_lt
  twice = refl

  null : read (4 ∷ 5 ∷ 257 ∷ 0 ∷ 1 ∷ 1 ∷ 2 ∷ 1 ∷ 259 ∷ 3 ∷ 2 ∷ 258 ∷ 4 ∷ 4 ∷ []) ≡ []
  unfolding tree_in build house table_of eqn ℕ_discrete dec_le dec_lt
  null = refl

  -- a symbol that is not the right side's; production 0, and one that is not there; a root that is not the start symbol
  symbol : read (4 ∷ 5 ∷ 257 ∷ 1 ∷ 1 ∷ 2 ∷ 2 ∷ 1 ∷ 259 ∷ 3 ∷ 2 ∷ 258 ∷ 4 ∷ 4 ∷ []) ≡ []
  unfolding tree_in build house table_of eqn ℕ_discrete dec_le dec_lt
  symbol = refl

  production : (read (2 ∷ 5 ∷ 257 ∷ 1 ∷ 1 ∷ 256 ∷ 2 ∷ 2 ∷ []) ≡ []) × (read (1 ∷ 5 ∷ 300 ∷ 1 ∷ 1 ∷ []) ≡ [])
  unfolding tree_in build house table_of eqn ℕ_discrete dec_le dec_lt
  production = (refl, refl)

  root : read (2 ∷ 5 ∷ 1 ∷ 2 ∷ 1 ∷ 259 ∷ 3 ∷ 2 ∷ []) ≡ []
  unfolding tree_in build house table_of eqn ℕ_discrete dec_le dec_lt
  root = refl

  least : read (1 ∷ 2 ∷ 257 ∷ 1 ∷ 1 ∷ []) ≡ 257 ∷ 1 ∷ 1 ∷ []
  unfolding tree_in build house table_of eqn ℕ_discrete dec_le dec_lt
  least = refl
