-- `productions::Grammar::new` meets its contract: the productions are filled in one by one. Assumes nothing.
use Rattle.sheet.specs.Within.{production_within}
use Rattle.std.proofs.Common.{rules}
use Rattle.grammar.proofs.productions.Grammar.new.Goals as goal

pub production_of-requires-clause-within : goal.production_of-requires-clause-within
production_of-requires-clause-within c = production_within _ c.requires _ (search rules)
