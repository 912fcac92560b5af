-- `updating::shifting::copy` meets its contract: record after record. Assumes nothing.
use mathlib.Core.Path.{◌≡◌}
use mathlib.Core.List.{List}
use lib.ListN.{length, drop}
use Rattle.definitions.specs.Table.{table_of}
use Rattle.theory.specs.Records.Flat.{Word}
use Rattle.machine.specs.Room.{states_end}
use Rattle.updating.specs.Copy.{Rooted, Front, Copied}
use Rattle.updating.proofs.shifting.copy.Given as goal

abbrev pub invariant-loop-j : goal.invariant-loop-j
invariant-loop-j l =
    (drop states_end l.room ≡ drop states_end l.initial.room)
    × ((ws : List Word) → Front (table_of l.t) l.nodes ws → Rooted ws → Copied (table_of l.t) l.initial.room l.room l.n ws l.j)
    × (length l.room ≡ 16384)
