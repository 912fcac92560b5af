-- The first 16,384 words of a room, lent on as an array: what they hold, and the room once they are handed back.
use Rattle.std.specs.Prelude.{List, ℕ, take}
use Rattle.std.proofs.Common.{arith, take-take}
use Rattle.definitions.specs.Tree.{Row, NRow}
use Rattle.machine.specs.Room.{states_at}
pub use Rattle.machine.specs.Lent.{rest_back}
use Rattle.numbers.specs.Records.{front}
use Rattle.numbers.specs.Given.{Given}
use Rattle.numbers.specs.Renumber.{given-front}

-- the new tree's records stand in them
pub given_lent : {old room : List ℕ} {n : ℕ} {r : NRow} {f : Row} → Given old room n r f → Given old (take 16384 room) n r f
unfolding front
given_lent {room = room} = given-front (take-take states_at 16384 room (omega arith))
