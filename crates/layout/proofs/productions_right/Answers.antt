-- The test of every production is that of each.
use Rattle.std.proofs.Common.{rules, refl}
use Rattle.layout.proofs.Laws.{says_each}
use Rattle.layout.proofs.productions_right.Goals as goal

pub returns : goal.returns
returns c = says_each _ refl c.productions_of.ensures.0 c.all.ensures.ran (λ k b q e. search rules)
