-- The test of every symbol is that of each.
use Rattle.std.proofs.Common.{rules, refl, arith, ◌∙◌}
use Rattle.layout.proofs.Laws.{says_each, says_production}
use Rattle.layout.proofs.production_right.Goals as goal

pub returns-then-n-le8 : goal.returns-then-n-le8
returns-then-n-le8 c =
    let a = c.args in
    let o = c.if-n-le8.true in
    says_production a.t.now a.p c.from-n.result (omega arith) (c.from-n.ensures ∙ c.len.ensures) o.1 (says_each 8 refl refl c.all.ensures.ran (λ k b q e. search rules))
