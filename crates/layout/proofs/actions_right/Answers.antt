-- The words are tested in one run, by state and terminal.
use Rattle.std.proofs.Common.{arith, ◌+◌, ◌*◌}
use Rattle.definitions.specs.Sheet.{word, T, S, actions_at, IsAction}
use Rattle.theory.specs.Check.Says.{says_as}
use Rattle.layout.proofs.Laws.{by_rows}
use Rattle.layout.proofs.actions_right.Goals as goal

pub returns : goal.returns
returns c =
    let t = c.args.t.now in
    by_rows (λ k. IsAction t (word t (actions_at t + 2 * k))) (S t) (T t)
    (says_as c.loop-k.invariant (λ h k l. h k (omega arith)) (λ h k l. h k (omega arith)))
