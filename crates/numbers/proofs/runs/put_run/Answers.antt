-- `runs::put_run` meets its contract. The loop's invariant: the records stand, and the words of the run are written up to j. Assumes nothing.
use mathlib.Core.Path.{◌≡◌, ◌∙◌}
use Prim.Native.Nat.{◌+◌, ◌<◌}
use native.Mathlib.Omega.{arith}
use lib.ListN.{length-set}
use lib.Seq.{take-set-le}
use Rattle.machine.specs.Room.{states_at}
use Rattle.numbers.specs.Records.{front, Shape}
use Rattle.numbers.specs.Spots.{judge-more}
use Rattle.numbers.specs.Runs.{fill_more}
use Rattle.numbers.proofs.runs.put_run.Goals as goal
use Rattle.numbers.proofs.runs.put_run.Goals.{In-loop-j}

small : (c : In-loop-j) → c.loop-j.j < 2048
small c =
    let p = c.requires in omega (arith, p.1.1.few, p.1.2, c.loop-j-test.true)

pub first_of-requires : goal.first_of-requires
first_of-requires c =
    let p = c.requires in
    (p.1.0, rw c.loop-j.invariant.1 p.1.1, omega (arith, c.loop-j-test.true, p.1.2))

pub loop-j-preserved : goal.loop-j-preserved
unfolding front
loop-j-preserved c =
    let l = c.loop-j in
    let I = l.invariant in
    let s = small (goal.at.loop-j-preserved c).In-loop-j in
    let p = c.requires in
    let h : l.j < p.1.0 = omega (arith, c.loop-j-test.true, p.1.2) in (
      length-set l.room (states_at + l.j) c.word_of-v.result ∙ I.0,
      take-set-le states_at l.room (states_at + l.j) c.word_of-v.result (omega arith) ∙ I.1,
      λ old lent m O g J F M.
          let G = I.2 old lent m O g J F M in
          let z = G.0.records in
          let S : Shape (front lent) p.1.0 = rw J.records at p.1.1 in
          let t = fill_more S O h g G.1 (M l.j l.auto.j c.loop-j-test.true) (rw z at c.last_of-last.ensures) (rw z at c.first_of.ensures) c.word_of-v.ensures in
          (judge-more G.0 (omega (arith, s, c.told-room, I.0)) s t.0, t.1),
    )

pub returns : goal.returns
returns c old lent m O g J F M =
    let l = c.loop-j in
    let z : l.j ≡ c.args.e = omega (arith, c.loop-j-test.false, c.requires.0) in
    rw (← z) (l.invariant.2 old lent m O g J F M)
