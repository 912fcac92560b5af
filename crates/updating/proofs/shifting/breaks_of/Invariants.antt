-- `updating::shifting::breaks_of` meets its contract: each turn is one break. Assumes nothing.
use mathlib.Core.Path.{◌≡◌}
use mathlib.Core.List.{List}
use Prim.Native.Nat.{ℕ, ◌+◌, ◌≤◌, ◌<◌}
use lib.ListN.{length}
use Rattle.definitions.specs.Table.{table_of}
use Rattle.definitions.specs.Tree.{Row, toks}
use Rattle.definitions.specs.Moves.{standing}
use Rattle.theory.specs.Records.Flat.{flat}
use Rattle.updating.specs.Records.{Reads}
use Rattle.updating.specs.Break.{Breaking}
use Rattle.updating.proofs.shifting.breaks_of.Given as goal

abbrev pub invariant-loop-pos : goal.invariant-loop-pos
invariant-loop-pos l =
    (l.pos ≤ length l.nodes) × (l.pos + l.k ≤ 2048) × (l.m ≤ l.pos) × ((t : List ℕ) (f : Row) → Reads (table_of t) l.nodes (flat f) → l.m ≡ standing f → 0 < toks f → Breaking f l.m l.k l.pos)

abbrev pub decreases-loop-pos : goal.decreases-loop-pos
decreases-loop-pos l = l.pos
