-- `updating::read_words` meets its contract: in each turn the reading from there on comes to what the whole comes to. Assumes nothing.
use Prim.Native.Nat.{◌+◌, ◌-◌}
use Rattle.definitions.specs.Tree.{Row}
use Rattle.updating.specs.Turns.{Listed}
use Rattle.answers.specs.Values.{counts_of}
use Rattle.updating.specs.Running.{list_size, Running}
use Rattle.updating.proofs.read_words.Given as goal

abbrev pub invariant-loop-n : goal.invariant-loop-n
invariant-loop-n l =
    (f : Row) → Listed l.t l.old l.put l.initial.room l.m f → Running l.t l.old l.put l.initial.room l.room f l.n l.words l.next (counts_of l.counts)

abbrev pub decreases-loop-n : goal.decreases-loop-n
decreases-loop-n l = (2048 - l.n) + list_size l.old l.room l.words
