-- `machine::take` meets its contract: one law for each way out. Assumes nothing.
use Rattle.std.proofs.Common.{ap, inl, inr, ◌-◌}
use Rattle.definitions.specs.Table.{table_of}
use Rattle.machine.specs.Lookups.{act_is}
use Rattle.machine.specs.Steps.{no_action, accepts, full_shift, end_shift, takes}
use Rattle.machine.proofs.take.Goals as goal

pub returns-in-Error-clause-takes : goal.returns-in-Error-clause-takes
returns-in-Error-clause-takes c t σ f h N q k =
    elim c.in-Error.is [
      | inl e ↦ no_action (table_of t) c.args.n σ N q (ap act_is e) (2048 - c.args.n)
      | inr w ↦ absurd (k w.0 (ap act_is w.1))
    ]

pub returns-in-Accept-clause-takes : goal.returns-in-Accept-clause-takes
returns-in-Accept-clause-takes c t σ f h N q k = (accepts (table_of t) c.args.n σ N q (ap act_is c.in-Accept.is) (2048 - c.args.n), h)

pub returns-in-Shift-clause-takes : goal.returns-in-Shift-clause-takes
returns-in-Shift-clause-takes c t σ f h N q k = full_shift (table_of t) c.args.n σ N q (ap act_is c.in-Shift.is) c.if-n-ge-NODES.true

pub returns-in-Shift-2-clause-takes : goal.returns-in-Shift-2-clause-takes
returns-in-Shift-2-clause-takes c t σ f h N q k = end_shift (table_of t) c.args.n σ N q (ap act_is c.in-Shift-2.is) c.if-n-ge-NODES.false c.if-kind-eq0.true

pub returns-in-Shift-3-clause-takes : goal.returns-in-Shift-3-clause-takes
returns-in-Shift-3-clause-takes c t σ f h N q k =
    let l = c.if-n-ge-NODES.false in
    (takes (table_of t) c.args.n σ N q (ap act_is c.in-Shift-3.is) l c.if-kind-eq0.false (c.shift.ensures.holds σ h), l)
