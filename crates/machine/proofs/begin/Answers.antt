-- `machine::begin` meets its contract. Assumes nothing.
use native.Mathlib.Omega.{arith}
use lib.Seq.{drop-set-lt}
use Rattle.machine.specs.Room.{states_at, states_end}
use Rattle.machine.specs.Laws.{empty}
use Rattle.machine.proofs.begin.Goals as goal

pub returns : goal.returns
returns c = let r = c.args.room.now in record {
  holds = empty r (omega arith);
  room_unchanged = drop-set-lt states_end r states_at 0 (omega arith);
}
