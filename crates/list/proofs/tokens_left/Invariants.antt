-- The words not yet weighed are the list's first ones, and what is weighed has the tokens of the others.
use Rattle.std.proofs.Common.{List, ℕ, ◌≤◌, length}
use Rattle.std.specs.Slice.Iter.{iter_rest}
use Rattle.std.specs.Iterator.Adapters.{rev_source}
use Rattle.definitions.specs.Tree.{Row}
use Rattle.list.specs.Weigh.{Counting, Weighing, Begins}
use Rattle.list.proofs.tokens_left.Given as goal

abbrev pub invariant-loop-entry : goal.invariant-loop-entry
invariant-loop-entry l =
    let left = iter_rest (rev_source l.entry-iterator) in
    Begins l.room left × (length left ≤ l.m)
    × ((t put : List ℕ) (f : Row) → Counting t l.old put l.room l.m f → Weighing t l.old put l.room (length left) l.total f)
