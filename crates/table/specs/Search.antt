-- What the search over the states answers: that nothing is broken, or which condition is, and at which state.
use Rattle.std.specs.Prelude.{List, ℕ, ◌<◌, Result, Ok, Err}
use Rattle.definitions.specs.Sheet.{S}
use Rattle.definitions.specs.States.{StateConditions}
use Rattle.table.specs.declared.Broken.{Broken}
use Rattle.table.specs.declared.Broken.TheVariants.{Layout, Grammar, States}
use Rattle.table.specs.Conditions.{condition}
use Rattle.table.specs.Codes.{BrokenAt}

abbrev pub Searched : List ℕ → Result (Unit {0}) Broken → Type 0
Searched t (Ok u) = StateConditions t
Searched t (Err (States c s)) = (s < S t) × BrokenAt t s (condition c)
Searched t (Err Layout) = ⊥
Searched t (Err Grammar) = ⊥
