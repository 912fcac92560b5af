-- `blenkysnow::begin` meets its contract: by the lengths, by the table check's answer, then by the old tree. Assumes nothing.
use Rattle.std.proofs.Common.{rules, ◌≡◌, refl, Err, length}
use Rattle.table.specs.Answer.{refusal_number}
use Rattle.table.specs.Refusals.{refusal as refused_as}
use Rattle.blenkysnow.specs.Afresh.{taken}
use Rattle.blenkysnow.specs.Stages.{Long, by_table, by-tree, table_refused, table_many}
use Rattle.blenkysnow.proofs.begin.Goals as goal
use Rattle.blenkysnow.proofs.begin.Goals.{Else-not-enough}

-- room enough is lent
lent : (c : Else-not-enough) → let a = c.args in Long a.wide (length a.room.now)
lent c = c.enough.ensures.to c.if-not-enough.false

pub returns-in_err-check_table : goal.returns-in_err-check_table
returns-in_err-check_table c =
    let b = c.in_err-check_table.field-0.0 in
    let e : c.from_residual.result ≡ Err (refused_as b) = search rules in
    by_table (lent (goal.at.returns-in_err-check_table c).Else-not-enough) (refused_as b) (refusal_number b) (table_many b) c.in_err-check_table.ensures.checks (table_refused b) e refl

pub old_tokens-requires : goal.old_tokens-requires
old_tokens-requires c = (taken refl c.in_ok-check_table.ensures.checks, (lent (goal.at.old_tokens-requires c).Else-not-enough).1)

pub returns : goal.returns
returns c =
    let o = c.old_tokens.ensures in
    by-tree (lent (goal.at.returns c).Else-not-enough) (taken refl c.in_ok-check_table.ensures.checks) o.old_tokens o.room_unchanged
