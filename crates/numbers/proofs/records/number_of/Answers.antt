-- `records::number_of` meets its contract: the word is the room's. Assumes nothing.
use mathlib.Core.Path.{sym}
use Prim.Native.Nat.{◌+◌, ◌*◌}
use native.Mathlib.Omega.{arith}
use Rattle.numbers.specs.Records.{front_at}
use Rattle.numbers.proofs.records.number_of.Goals as goal

pub returns : goal.returns
returns c = sym (front_at c.args.room.now (3 * c.args.j + 1) (omega arith))
