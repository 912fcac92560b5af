-- Edit after edit is passed.
use Rattle.std.proofs.Common.{None, Some, ◌*◌, arith}
use Rattle.edits.specs.Fits.{Record}
use Rattle.edits.specs.Words.{edit, words_of}
use Rattle.edits.specs.Passing.{item, walk_next, walk-over}
use Rattle.edits.proofs.walk_all.Given.{Over}
use Rattle.edits.proofs.walk_all.Goals as goal
use Rattle.edits.proofs.walk_all.Goals.{After-into}

-- the edit at hand
here : (g : Over) (c : After-into g) → Record (words_of g.E.AsEdit.stands_for c.args.edits.now) (c.loop-e.e-index * 3) (edit c.into.result)
here g c =
    item g.E.AsEdit.stands_for c.args.edits.now c.loop-e.e-index c.e-item.result c.e-item.is c.loop-e-test.true
    (g.met.E.AsEdit.converted c.e-item.result c.into.result c.into.ensures)

pub returns-in_err-w : goal.returns-in_err-w
returns-in_err-w g c =
    rw c.from_residual.ensures
    (walk_next g.E.AsEdit.stands_for c.args.edits.now c.loop-e.e-index c.loop-e.invariant.1 (here g (goal.at.returns-in_err-w g c).After-into) {r = None} c.in_err-w.ensures)

pub loop-e-preserved : goal.loop-e-preserved
loop-e-preserved g c = (
  omega (arith, c.loop-e-test.true),
  walk_next g.E.AsEdit.stands_for c.args.edits.now c.loop-e.e-index c.loop-e.invariant.1 (here g (goal.at.loop-e-preserved g c).After-into) {r = Some c.in_ok-w.w} c.in_ok-w.ensures,
)

pub returns : goal.returns
returns g c = walk-over g.E.AsEdit.stands_for c.args.edits.now c.loop-e.e-index c.loop-e.invariant.1 c.loop-e.invariant.0 c.loop-e-test.false
