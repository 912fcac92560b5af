-- `reading::run` meets its contract: in each turn the reading from there on comes to what the whole comes to. Assumes nothing.
use Rattle.std.proofs.Common.{rules, arith, ◌≡◌, sym, ap, ◌∙◌, subst, ◌-◌, Ok}
use Rattle.definitions.specs.Table.{table_of}
use Rattle.definitions.specs.Moves.{Done, turn}
use Rattle.machine.specs.declared.Move.{Move}
use Rattle.machine.specs.declared.Move.TheVariants.{Shifted, Reduced}
use Rattle.reading.specs.Text.{unread}
use Rattle.reading.specs.Turns.{Going, begins, turned, goes, ends, shift-goes, reduce-goes}
use Rattle.reading.proofs.run.Goals as goal
use Rattle.reading.proofs.run.Goals.{Joined-plain-2, in-Ok-Shifted, in-Ok-Reduced}

-- a turn that goes on
on : (c : Joined-plain-2) → let a = c.args in let l = c.loop-i in let s = l.invariant.stack in
    Going a.codes.now c.plain.new.room l.n l.i (turn (table_of a.t.now) (2048 - l.n) s (unread a.codes.now l.i)) c.match-plain-2.i
on c =
    let a = c.args in
    let l = c.loop-i in
    let R = l.invariant in
    let G = Going a.codes.now c.plain.new.room l.n l.i (turn (table_of a.t.now) (2048 - l.n) R.stack (unread a.codes.now l.i)) in
    elim c.match-plain-2.branch [
      | in-Ok-Shifted w ↦
          let e : c.plain.result ≡ Ok Shifted = search rules in
          let d = turned a.t.now a.codes.now R _ c.requires.1 c.code_at.ensures c.plain.ensures.did e in
          subst G (sym w.i-is) (shift-goes a.codes.now l.n R.stack l.i R.tokens R.low d.1 d.0)
      | in-Ok-Reduced w ↦
          let e : c.plain.result ≡ Ok Reduced = search rules in
          let d = turned a.t.now a.codes.now R _ c.requires.1 c.code_at.ensures c.plain.ensures.did e in
          subst G (sym w.i-is) (reduce-goes a.codes.now l.n R.stack l.i R.tokens R.low d.1 (table_of a.t.now) R.within d.0)
    ]

pub loop-i-init : goal.loop-i-init
loop-i-init c = begins _ _ _ c.begin.ensures.holds

pub returns-in-Ok-Taken-clause-ends : goal.returns-in-Ok-Taken-clause-ends
returns-in-Ok-Taken-clause-ends c =
    let a = c.args in
    let R = c.loop-i.invariant in
    let d = turned a.t.now a.codes.now R _ c.requires.1 c.code_at.ensures c.plain.ensures.did (c.in-Ok-Taken.is ∙ ap (λ (m : Move). Ok m) c.in-Ok-Taken.field-0-is) in
    let e = ends a.t.now a.codes.now R d.0 in
    record { stack = R.stack; is = ap (λ (d : Done). d.end) e; counts = ap (λ (d : Done). d.counts) e; small = R.small; low = R.low; holds = d.1 }

pub returns-in-Err-clause-ends : goal.returns-in-Err-clause-ends
returns-in-Err-clause-ends c =
    let a = c.args in
    let R = c.loop-i.invariant in
    let d = turned a.t.now a.codes.now R _ c.requires.1 c.code_at.ensures c.plain.ensures.did c.in-Err.is in
    ap (λ (d : Done). d.end) (ends a.t.now a.codes.now R d) ∙ rw R.tokens (sym c.refusal.ensures)

pub loop-i-smaller : goal.loop-i-smaller
loop-i-smaller c = let g = on c in omega (arith, g.room)

pub loop-i-preserved : goal.loop-i-preserved
loop-i-preserved c = let p = c.plain in goes _ _ c.loop-i.invariant p.ensures.room_unchanged (on c)
