-- `records::kind_of` meets its contract: the word is the room's. Assumes nothing.
use mathlib.Core.Path.{sym}
use Prim.Native.Nat.{◌*◌}
use native.Mathlib.Omega.{arith}
use Rattle.std.proofs.Common.{rules}
use Rattle.numbers.specs.Records.{front_at}
use Rattle.numbers.proofs.records.kind_of.Goals as goal

pub returns : goal.returns
returns c = let a = c.args in (sym (front_at a.room.now (3 * a.j) (omega arith)), search rules)
