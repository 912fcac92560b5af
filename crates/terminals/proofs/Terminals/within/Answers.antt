-- The join with the other set adds nothing to it.
use Rattle.theory.specs.Check.Says.{says_as, says_eq}
use Rattle.terminals.specs.Members.{within_is}
use Rattle.terminals.proofs.Terminals.within.Goals as goal

pub returns : goal.returns
returns c = says_as (says_eq _ _) (within_is _ _).1 (within_is _ _).0
