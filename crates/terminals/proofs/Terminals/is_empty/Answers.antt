-- The empty set is 0.
use Rattle.theory.specs.Check.Says.{says_as, says_eq}
use Rattle.terminals.specs.Members.{empty_is}
use Rattle.terminals.proofs.Terminals.is_empty.Goals as goal

pub returns : goal.returns
returns c = says_as (says_eq _ _) (empty_is _).1 (empty_is _).0
