-- `boundary::tell` meets its contract, by what the three functions of the crate answers ensure. Assumes nothing.
use Rattle.boundary.specs.Said.{said}
use Rattle.boundary.proofs.tell.Goals as goal

pub returns : goal.returns
returns c = said c.args.a c.counts_of-k.result c.number.ensures c.place.ensures c.counts_of-k.ensures
