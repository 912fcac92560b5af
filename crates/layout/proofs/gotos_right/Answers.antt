-- The bytes are tested in one run, by state and nonterminal.
use Rattle.std.proofs.Common.{arith, ◌+◌}
use Rattle.definitions.specs.Sheet.{byte, N, S, gotos_at, IsGoto}
use Rattle.theory.specs.Check.Says.{says_as}
use Rattle.layout.proofs.Laws.{by_rows}
use Rattle.layout.proofs.gotos_right.Goals as goal

pub returns : goal.returns
returns c =
    let t = c.args.t.now in
    by_rows (λ k. IsGoto t (byte t (gotos_at t + k))) (S t) (N t)
    (says_as c.loop-k.invariant (λ h k l. h k (omega arith)) (λ h k l. h k (omega arith)))
