-- The loop's invariant is `Marking` at place i, for every row of which it held before.
use Rattle.std.proofs.Common.{◌≡◌, List, ℕ, length}
use Rattle.edits.specs.Marks.{Marking, Clear}
use Rattle.edits.proofs.Marks.mark_to.Given as goal

abbrev pub invariant-loop-i : goal.invariant-loop-i
invariant-loop-i l =
    (length l.room ≡ length l.initial.room)
    × ((row r : List ℕ) (n k : ℕ) → Marking row n r l.initial.room k l.self → Clear row k n l.self.at l.to
    → Marking row n r l.room k (record { at = l.i; puts = l.self.puts; out = l.out; until = l.self.until }))
