-- `runs::spots` meets its contract. The loop's invariant is `Walking`: the words before the next record are told. Assumes nothing.
use Rattle.numbers.specs.Runs.{Started}
use Rattle.numbers.proofs.runs.spots.Goals as goal
use Rattle.numbers.proofs.runs.spots.Goals.{After-pass-s}

-- behind the record that is passed
started : (c : After-pass-s) → let a = c.args in Started a.old.now.row.now a.room.now a.old.now.nodes a.n c.pass-s.new.room c.pass-s.result
started c = c.pass-s.ensures.started c.args.room.now c.args.n c.requires.shape c.loop-r-test.true c.loop-r.invariant

pub fill-r-requires : goal.fill-r-requires
fill-r-requires c = record { started = (c.args.room.now, c.requires.shape, started (goal.at.fill-r-requires c).After-pass-s) }

pub loop-r-preserved : goal.loop-r-preserved
loop-r-preserved c = c.fill-r.ensures.walking c.args.room.now c.requires.shape (started (goal.at.loop-r-preserved c).After-pass-s)
