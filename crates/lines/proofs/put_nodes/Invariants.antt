-- The lines of the nodes before i are put, 33 bytes for each at most. The measure is the nodes left.
use Rattle.std.proofs.Common.{◌+◌, ◌*◌, ◌-◌, ◌≤◌}
use Rattle.lines.specs.Program.{node_lines}
use Rattle.lines.specs.Put.{Put}
use Rattle.lines.proofs.put_nodes.Given as goal

abbrev pub invariant-loop-i : goal.invariant-loop-i
invariant-loop-i l = record { within : l.i ≤ l.n; few : l.next ≤ l.at + 33 * l.i; put : Put l.fn.out l.at (node_lines l.tree l.i) l.out l.next }

abbrev pub decreases-loop-i : goal.decreases-loop-i
decreases-loop-i l = l.n - l.i
