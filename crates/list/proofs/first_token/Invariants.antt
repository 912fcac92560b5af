-- `list::first_token` meets its contract: what the records still to come begin with is what the run begins with.
use Rattle.std.proofs.Common.{◌≡◌}
use Rattle.std.specs.Slice.Iter.{chunks_rest, chunks_size}
use Rattle.list.specs.Runs.{first_of}
use Rattle.list.proofs.first_token.Given as goal

abbrev pub invariant-loop-record : goal.invariant-loop-record
invariant-loop-record l =
    (goal.iterator-loop-record).can_next l.record-iterator × (goal.iterator-loop-record).is_finite l.record-iterator
    × (chunks_size l.record-iterator ≡ 3) × (first_of (chunks_rest l.record-iterator) ≡ first_of l.run)
