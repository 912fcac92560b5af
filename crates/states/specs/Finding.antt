-- What a search for (p,d) among the items of a state answers.
use Rattle.std.specs.Prelude.{List, ℕ, ◌<◌, Option, Some, None}
use Rattle.definitions.specs.Sheet.{count}
use Rattle.definitions.specs.States.{HasItem}
use Rattle.states.specs.Places.{IsItem}

-- the item where (p,d) stands, or that it is not in s
abbrev pub Finds : List ℕ → ℕ → ℕ → ℕ → Option ℕ → Type 0
Finds t s p d (Some i) = (i < count t s) × IsItem t s i p d
Finds t s p d None = HasItem t s p d → ⊥
