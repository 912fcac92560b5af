-- `table::state_kept` meets its contract: the conditions that are judged once, one after the other. Assumes nothing.
use Rattle.states.specs.View.{sheet}
use Rattle.theory.specs.Check.Says.{refused}
use Rattle.table.specs.Codes.{first, second, seventh, state_then}
use Rattle.table.proofs.state_kept.Goals as goal

pub returns-then-not-first_right : goal.returns-then-not-first_right
returns-then-not-first_right c = first (refused c.first_right.ensures c.if-not-first_right.true)

pub returns-then-not-chains_right : goal.returns-then-not-chains_right
returns-then-not-chains_right c = seventh (refused c.chains_right.ensures c.if-not-chains_right.true)

pub returns-then-not-closed : goal.returns-then-not-closed
returns-then-not-closed c = second (refused c.closed.ensures c.if-not-closed.true)

pub returns : goal.returns
returns c =
    let a = c.args.state.now in
    state_then (sheet a) a.lies.laid c.requires (c.first_right.ensures.to c.if-not-first_right.false)
    (c.chains_right.ensures.to c.if-not-chains_right.false) (c.closed.ensures.to c.if-not-closed.false) _ c.moves_kept.ensures
