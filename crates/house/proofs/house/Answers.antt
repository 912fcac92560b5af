-- The constant is the definitions' table, whose acceptance is proved.
use Rattle.std.specs.Prelude.{refl}
use Rattle.definitions.specs.House.{house}
use Rattle.theory.specs.Check.HouseAccepted.{house_accepted}
use Rattle.house.proofs.house.Goals as goal

pub returns : goal.returns
unfolding house
returns c = record { is = refl; taken = house_accepted }
