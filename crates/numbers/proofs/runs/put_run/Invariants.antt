-- `runs::put_run` meets its contract. The loop's invariant: the records stand, and the words of the run are written up to j. Assumes nothing.
use mathlib.Core.Path.{◌≡◌}
use mathlib.Core.List.{List}
use Prim.Native.Nat.{ℕ, ◌≤◌, ◌<◌}
use lib.ListN.{length}
use Rattle.numbers.specs.Records.{front, OldRow, Met}
use Rattle.numbers.specs.Spots.{Judging}
use Rattle.numbers.specs.Runs.{Filling}
use Rattle.numbers.proofs.runs.put_run.Given as goal

abbrev pub invariant-loop-j : goal.invariant-loop-j
invariant-loop-j l =
    (length l.room ≡ length l.initial.room) × (front l.room ≡ front l.initial.room)
    × ((old lent : List ℕ) (m : ℕ) → OldRow old m → 2 ≤ l.r.shift → Judging old lent m l.initial.room l.r.at → Filling old (front lent) m l.r.shift l.r.start l.r.at l.r.last
    → ((i : ℕ) → l.r.at ≤ i → i < l.e → Met old (front lent) m l.r.shift i) → Judging old lent m l.room l.j × Filling old (front lent) m l.r.shift l.r.start l.j l.last)
