-- `least::nullable` meets its contract: the least set is that of the nonterminals that derive the empty string. Assumes nothing.
use Rattle.grammar.specs.Least.{least_nullable, nullable_least}
use Rattle.grammar.proofs.least.nullable.Goals as goal

pub returns : goal.returns
returns c n = (λ h. least_nullable _ n ((c.least.ensures n).0 h), λ h. (c.least.ensures n).1 (nullable_least _ n h))
