-- `machine::wipe` meets its contract: the block filled is as long as the words cleared. Assumes nothing.
use Rattle.std.proofs.Common.{ap, ◌∙◌, ℕ, ◌++◌, replicate, drop, length-take-le}
use Rattle.definitions.specs.Answers.{cleared}
use Rattle.machine.proofs.wipe.Goals as goal

pub returns : goal.returns
unfolding cleared
returns c =
    let r = c.args.room.now in
    ap (◌++ drop 16384 r) (c.fill.ensures.after (λ y e. e) ∙ ap (λ (n : ℕ). replicate n 0) (length-take-le 16384 r c.requires))
