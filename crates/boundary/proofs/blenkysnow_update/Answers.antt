-- `boundary::blenkysnow_update` meets its contract: what `blenkysnow::update` tells, said by `tell`. Assumes nothing.
use Rattle.boundary.specs.Said.{tells}
use Rattle.boundary.proofs.blenkysnow_update.Goals as goal

pub returns : goal.returns
returns c = tells c.update.result c.update.ensures.room_after c.tell.ensures
