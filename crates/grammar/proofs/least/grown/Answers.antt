-- `least::grown` meets its contract: one production is looked at. Assumes nothing.
use Rattle.std.proofs.Common.{subst, ℕ}
use Rattle.terminals.specs.Members.{One}
use Rattle.grammar.specs.Least.{round_join}
use Rattle.grammar.proofs.least.grown.Goals as goal

pub returns-then-ready : goal.returns-then-ready
returns-then-ready c =
    round_join _ _ _ _ c.one.result.bits _ c.requires (c.ready.ensures.to c.if-ready.true)
    (subst (λ (n : ℕ). One n c.one.result.bits) c.left-n.ensures.0 c.one.ensures) c.join.ensures
