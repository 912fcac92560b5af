-- The sheet of a state, and of all its states.
use Rattle.std.specs.Prelude.{List, ℕ}
use Rattle.states.specs.declared.items.State.{State}
use Rattle.states.specs.declared.items.States.{States}

abbrev pub sheet_of : States → List ℕ
sheet_of a = a.firsts.now.grammar.now.sheet.now

abbrev pub sheet : State → List ℕ
sheet a = sheet_of a.states.now
