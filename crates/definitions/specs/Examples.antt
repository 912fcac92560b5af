-- Document 01's starred examples: each question on the house table, and what is told. First number 1.
use Rattle.std.specs.Prelude.{List, [], ◌∷◌, ℕ}
use Rattle.definitions.specs.Reading.{Counts}

-- a text read afresh; or an old tree, edits and inserted codes
pub data Question : Type 0 where
  read : List ℕ → Question
  edit : List ℕ → List ℕ → List ℕ → Question

-- the words written and the five counts; or a refusal's number and place
pub data Reply : Type 0 where
  gives : List ℕ → Counts → Reply
  refuses : ℕ → ℕ → Reply

pub record Example : Type 0 where
  pub asked : Question
  pub told : Reply

infix 10 ◌⊳◌
abbrev pub ◌⊳◌ : Question → Reply → Example
a ⊳ b = record { asked = a; told = b }

-- left-breaks, right-breaks, whole shifts, token shifts, reductions
abbrev pub five : ℕ → ℕ → ℕ → ℕ → ℕ → Counts
five a b c d e = record { lefts = a; rights = b; wholes = c; shifts = d; reductions = e }

abbrev pub row-m : List ℕ
row-m = 4 ∷ 5 ∷ 257 ∷ 1 ∷ 1 ∷ 1 ∷ 2 ∷ 1 ∷ 259 ∷ 3 ∷ 2 ∷ 258 ∷ 4 ∷ 4 ∷ []

abbrev pub row_mm : List ℕ
row_mm = 7 ∷ 8 ∷ 257 ∷ 1 ∷ 1 ∷ 1 ∷ 2 ∷ 1 ∷ 259 ∷ 3 ∷ 2 ∷ 258 ∷ 4 ∷ 4 ∷ 1 ∷ 5 ∷ 1 ∷ 259 ∷ 6 ∷ 2 ∷ 258 ∷ 7 ∷ 7 ∷ []

abbrev pub row_brackets : List ℕ
row_brackets = 6 ∷ 7 ∷ 257 ∷ 1 ∷ 1 ∷ 2 ∷ 2 ∷ 1 ∷ 257 ∷ 3 ∷ 1 ∷ 3 ∷ 4 ∷ 1 ∷ 260 ∷ 5 ∷ 4 ∷ 258 ∷ 6 ∷ 6 ∷ []

-- Nothing. `m`. `m m`. `[ ]`. `]`. `[ m`.
-- `m`, no edits. `m`, an m put in at 1. `m m`, first removed. `m`, replaced by m. `[ ]`, an m put in at 1.
unfoldable pub starred : List Example
starred =
    (read [] ⊳ gives (1 ∷ 2 ∷ 257 ∷ 1 ∷ 1 ∷ []) (five 0 0 0 0 1))
    ∷ (read (1 ∷ []) ⊳ gives row-m (five 0 0 0 1 3))
    ∷ (read (1 ∷ 1 ∷ []) ⊳ gives row_mm (five 0 0 0 2 5))
    ∷ (read (2 ∷ 3 ∷ []) ⊳ gives row_brackets (five 0 0 0 2 4))
    ∷ (read (3 ∷ []) ⊳ refuses 7 0)
    ∷ (read (2 ∷ 1 ∷ []) ⊳ refuses 7 2)
    ∷ (edit row-m [] [] ⊳ gives row-m (five 1 1 1 0 3))
    ∷ (edit row-m (1 ∷ 0 ∷ 1 ∷ []) (1 ∷ []) ⊳ gives row_mm (five 1 1 1 1 5))
    ∷ (edit row_mm (0 ∷ 1 ∷ 0 ∷ []) [] ⊳
    gives (4 ∷ 10 ∷ 257 ∷ 8 ∷ 1 ∷ 1 ∷ 5 ∷ 1 ∷ 259 ∷ 6 ∷ 2 ∷ 258 ∷ 9 ∷ 4 ∷ []) (five 0 1 1 0 3))
    ∷ (edit row-m (0 ∷ 1 ∷ 1 ∷ []) (1 ∷ []) ⊳
    gives (4 ∷ 9 ∷ 257 ∷ 5 ∷ 1 ∷ 1 ∷ 6 ∷ 1 ∷ 259 ∷ 7 ∷ 2 ∷ 258 ∷ 8 ∷ 4 ∷ []) (five 0 0 0 1 3))
    ∷ (edit row_brackets (1 ∷ 0 ∷ 1 ∷ []) (1 ∷ []) ⊳
    gives (9 ∷ 14 ∷ 257 ∷ 7 ∷ 1 ∷ 2 ∷ 2 ∷ 1 ∷ 257 ∷ 8 ∷ 1 ∷ 1 ∷ 9 ∷ 1 ∷ 259 ∷ 10 ∷ 2 ∷ 258 ∷ 11 ∷ 4 ∷ 3 ∷ 4 ∷ 1 ∷ 260 ∷ 12 ∷ 7 ∷ 258 ∷ 13 ∷ 9 ∷ []) (five 0 0 0 3 6))
    ∷ []
