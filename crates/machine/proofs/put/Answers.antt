-- `machine::put` meets its contract. Assumes nothing.
use Rattle.machine.specs.Laws.{put_rest}
use Rattle.machine.proofs.put.Goals as goal

pub returns-clause-room_unchanged : goal.returns-clause-room_unchanged
returns-clause-room_unchanged c = let a = c.args in put_rest a.room.now a.n a.s a.kind a.number a.size c.requires
