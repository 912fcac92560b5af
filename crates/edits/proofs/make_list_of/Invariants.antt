-- After i edits the room is marked as by the words of the list at word 3 i.
use Rattle.std.proofs.Common.{◌≤◌, length, take}
use Rattle.edits.specs.Passing.{Marked}
use Rattle.edits.proofs.make_list_of.Given as goal

abbrev pub invariant-loop-e : goal.invariant-loop-e
invariant-loop-e g l =
    (l.e-index ≤ length l.edits)
    × Marked g.E.AsEdit.stands_for l.edits l.old l.put (take 16384 l.fn.room) l.room l.e-index l.m
