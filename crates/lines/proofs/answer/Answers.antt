-- What is put at the start is what the input's lines are, by whether the input is whole.
use Rattle.std.proofs.Common.{sym, ◌∙◌}
use Rattle.theory.specs.Check.Says.{refused}
use Rattle.lines.specs.Input.{whole_printed, other-printed}
use Rattle.lines.proofs.answer.Goals as goal

pub returns-then-whole-clause-out_after : goal.returns-then-whole-clause-out_after
returns-then-whole-clause-out_after c =
    c.read_whole.ensures.holds ∙ sym (whole_printed c.args.input.now c.args.tree.now c.args.room.now (c.whole.ensures.to c.if-whole.true))

pub returns-clause-out_after : goal.returns-clause-out_after
returns-clause-out_after c =
    c.put_refusal.ensures.holds ∙ sym (other-printed c.args.input.now c.args.tree.now c.args.room.now (refused c.whole.ensures c.if-whole.false))
