-- `states::items::State::nonterminal_after` meets its contract, by whether there is one. Assumes nothing.
use Rattle.states.specs.Gathering.{exactly_none}
use Rattle.states.proofs.items.State.nonterminal_after.Goals as goal

pub returns-in-None : goal.returns-in-None
returns-in-None c = exactly_none c.in-None.ensures
