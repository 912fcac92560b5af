-- `states::items::State::find` meets its contract: items rise, so the half that is left out has no item (p,d). Assumes nothing.
use native.Mathlib.Omega.{arith}
use Rattle.states.proofs.Loops.{halves_up, halves_down, none_left, same_item}
use Rattle.states.proofs.items.State.find.Goals as goal

pub returns-then-key-want : goal.returns-then-key-want
returns-then-key-want c =
    let l = c.args.self.now.lies in
    let e = l.many in
    (omega arith, same_item l _ _ c.requires.1 _ (omega arith) (omega arith))

pub loop-lo-preserved-then-key-want-2 : goal.loop-lo-preserved-then-key-want-2
loop-lo-preserved-then-key-want-2 c = halves_up c.args.self.now.lies c.loop-lo.invariant _ (omega arith) (omega arith) (omega arith)

pub loop-lo-preserved : goal.loop-lo-preserved
loop-lo-preserved c = halves_down c.args.self.now.lies c.loop-lo.invariant _ (omega arith) (omega arith) (omega arith)

pub returns : goal.returns
returns c =
    none_left c.args.self.now.lies _ _ c.requires.1 c.loop-lo.invariant c.loop-lo-test.false
