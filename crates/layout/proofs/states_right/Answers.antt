-- The walk has come to state s, and all was right.
use Rattle.std.proofs.Common.{arith}
use Rattle.definitions.specs.Sheet.{State}
use Rattle.layout.specs.Parts.{Fits}
use Rattle.layout.proofs.Laws.{part_refused, walked_none, walked_more, walked_on, walked_all}
use Rattle.layout.proofs.states_right.Goals as goal
use Rattle.layout.proofs.states_right.Goals.{Else-not-state_right}

-- the state that the walk has come to fits and is right
found : (c : Else-not-state_right) → let t = c.args.t.now in
    Fits t c.loop-s.at c.loop-s.passed × State t c.loop-s.s
found c = (c.state_right.ensures c.loop-s.s c.loop-s.invariant.place).to c.if-not-state_right.false

pub loop-s-init : goal.loop-s-init
loop-s-init c = walked_none c.args.t.now c.items_at-at.result c.items_at-at.ensures.0 c.requires.1

pub returns-then-not-state_right : goal.returns-then-not-state_right
returns-then-not-state_right c =
    let t = c.args.t.now in
    let w = c.loop-s in
    rw c.if-not-state_right.true at (part_refused (c.state_right.ensures w.s w.invariant.place) c.if-not-state_right.true (walked_on t w.s w.at w.passed w.invariant (omega arith)))

pub overflow_add-passed : goal.overflow_add-passed
overflow_add-passed c = let x = (found (goal.at.overflow_add-passed c).Else-not-state_right).0 in omega arith

pub next_state-at-requires : goal.next_state-at-requires
next_state-at-requires c = let x = (found (goal.at.next_state-at-requires c).Else-not-state_right).0 in omega arith

pub loop-s-preserved : goal.loop-s-preserved
loop-s-preserved c =
    let t = c.args.t.now in
    let w = c.loop-s in
    let x = found (goal.at.loop-s-preserved c).Else-not-state_right in
    walked_more t w.s w.at w.passed _ _ w.invariant x.0 x.1 c.next_state-at.ensures (omega arith)

pub returns : goal.returns
returns c =
    let t = c.args.t.now in
    walked_all t c.loop-s.s c.loop-s.at c.loop-s.passed (omega arith) c.loop-s.invariant
