-- `boundary::blenkysnow_read_afresh` meets its contract: what `blenkysnow::read_afresh` tells, said by `tell`. Assumes nothing.
use Rattle.boundary.specs.Said.{tells}
use Rattle.boundary.proofs.blenkysnow_read_afresh.Goals as goal

pub returns : goal.returns
returns c = tells c.read_afresh.result c.read_afresh.ensures.room_after c.tell.ensures
