-- After i edits the walk is that of the words of the list at word 3 i.
use Rattle.std.proofs.Common.{◌*◌, ◌≤◌, length}
use Rattle.edits.specs.Fits.{Walked}
use Rattle.edits.specs.Words.{words_of}
use Rattle.edits.proofs.walk_all.Given as goal

abbrev pub invariant-loop-e : goal.invariant-loop-e
invariant-loop-e g l = (l.e-index ≤ length l.edits) × Walked (words_of g.E.AsEdit.stands_for l.edits) l.n l.left (l.e-index * 3) l.w
