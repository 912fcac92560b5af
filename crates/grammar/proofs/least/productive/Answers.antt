-- `least::productive` meets its contract: the least set is that of the nonterminals that derive some string. Assumes nothing.
use Rattle.grammar.specs.Least.{least_derives, derives_least}
use Rattle.grammar.proofs.least.productive.Goals as goal

pub returns : goal.returns
returns c n = (λ h. least_derives _ n ((c.least.ensures n).0 h), λ h. (c.least.ensures n).1 (derives_least _ n h))
