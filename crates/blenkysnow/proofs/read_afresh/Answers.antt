-- `blenkysnow::read_afresh` meets its contract: by the room that is lent, by the table check's answer, then by the reading. Assumes nothing.
use Rattle.std.proofs.Common.{ap, sym, ◌∙◌, refl, Result, Err, length}
use Rattle.definitions.specs.Answers as Answers
use Rattle.theory.specs.Check.Says.{refused}
use Rattle.answers.specs.declared.Counts.{Counts}
use Rattle.answers.specs.declared.Refusal.{Refusal}
use Rattle.reading.specs.Fresh.{told}
use Rattle.table.specs.Answer.{refusal_number}
use Rattle.table.specs.Refusals.{refusal as refused_as}
use Rattle.blenkysnow.specs.Afresh.{taken, too_short, refused_by, goes_on, tells}
use Rattle.blenkysnow.specs.Stages.{Long, table_refused, table_many}
use Rattle.blenkysnow.proofs.read_afresh.Goals as goal
use Rattle.blenkysnow.proofs.read_afresh.Goals.{Else-not-enough}

-- room enough is lent
lent : (c : Else-not-enough) → let a = c.args in Long (length a.tree.now) (length a.room.now)
lent c = c.enough.ensures.to c.if-not-enough.false

pub returns-then-not-enough : goal.returns-then-not-enough
returns-then-not-enough c =
    let a = c.args in
    let q = tells a.table.now a.codes.now a.first a.tree.now a.room.now (sym (too_short _ _ _ _ _ (λ e. refused c.enough.ensures c.if-not-enough.true (e.wide, e.roomy)))) in
    record { room_after = q.0; afreshed = q.1 }

pub read_taken-requires : goal.read_taken-requires
read_taken-requires c =
    let e = lent (goal.at.read_taken-requires c).Else-not-enough in
    (taken refl c.in-Ok.ensures.checks, e.0, e.1)

pub returns-in-Ok : goal.returns-in-Ok
returns-in-Ok c =
    let e = lent (goal.at.returns-in-Ok c).Else-not-enough in
    let a = c.args in
    let q = tells a.table.now a.codes.now a.first a.tree.now a.room.now (c.read_taken.ensures ∙ sym (goes_on _ _ _ _ _ e.0 e.1 (taken refl c.in-Ok.ensures.checks))) in
    record { room_after = q.0; afreshed = q.1 }

pub returns-in-Err : goal.returns-in-Err
returns-in-Err c =
    let e = lent (goal.at.returns-in-Err c).Else-not-enough in
    let a = c.args in
    let b = c.in-Err.broken in
    let r = c.refuse in
    let q = tells a.table.now a.codes.now a.first a.tree.now a.room.now (ap (λ (x : Result Counts Refusal). told x a.tree.now r.new.room) r.ensures.0
    ∙ ap (λ (x : Refusal). told (Err x) a.tree.now r.new.room) c.into.ensures
    ∙ ap (told (Err (refused_as b)) a.tree.now) r.ensures.1
    ∙ ap (λ (x : Answers.Answer). record { answer = x; tree = a.tree.now; room = Answers.cleared a.room.now }) (table_refused b)
    ∙ sym (refused_by a.table.now a.codes.now a.first a.tree.now a.room.now e.0 e.1 (refusal_number b) (table_many b) c.in-Err.ensures.checks)) in
    record { room_after = q.0; afreshed = q.1 }
