-- By the law of a join.
use Rattle.terminals.specs.Members.{join_is}
use Rattle.terminals.proofs.Terminals.join.Goals as goal

pub returns : goal.returns
returns c = join_is _ _
