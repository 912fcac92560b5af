-- `rules::each_kept` meets its contract: every production is tested, one after the other. Assumes nothing.
use Rattle.std.proofs.Common.{rules, refl, arith}
use Rattle.std.proofs.lemmas.Iterator.{cases_from_all, YieldsList-from_range}
use Rattle.theory.specs.Check.Says.{says_as}
use Rattle.sheet.specs.Tests.{says_range}
use Rattle.grammar.specs.Rules.{Inside, Only}
use Rattle.grammar.proofs.rules.each_kept.Goals as goal

pub returns : goal.returns
returns c =
    let t = c.args.grammar.now.sheet.now in
    let n = c.count.result in
    says_as
    (says_range (λ p. Inside t p × Only t p) n _ (cases_from_all _ _ _ (λ p. Inside t p × Only t p) (λ p. Inside t p × Only t p → ⊥) c.all.ensures.ran
    (YieldsList-from_range 0 n n refl (omega arith)) (λ x q k. search rules) (λ x q k. search rules)))
    (λ f p h. f p (omega arith)) (λ f p h. f p (omega arith))
