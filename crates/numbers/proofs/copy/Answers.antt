-- `numbers::copy` meets its contract. The loop's invariant is `Copies`: the records before i have their numbers. Assumes nothing.
use mathlib.Core.Path.{◌≡◌}
use Prim.Native.Nat.{ℕ, ◌+◌, ◌-◌, ◌*◌, ◌≤◌, ◌<◌}
use native.Mathlib.Omega.{arith}
use lib.ListN.{length}
use Rattle.numbers.specs.Copies.{copy_more}
use Rattle.numbers.proofs.copy.Goals as goal
use Rattle.numbers.proofs.copy.Goals.{In-loop-i}

small : (c : In-loop-i) → c.loop-i.i < 2048
small c = omega (arith, c.loop-i-test.true, c.requires.1)

long : (c : In-loop-i) → 16384 ≤ length c.loop-i.room
long c = omega (arith, c.loop-i.invariant.frame.long, c.told-room)

-- the old record that the shift leads to
reach : (c : In-loop-i) → (k : ℕ) × (k + 2050 ≡ c.loop-i.i + c.args.w) × (2 + 3 * k + 3 ≤ length c.args.old.now)
reach c = c.requires.2.each c.loop-i.i c.loop-i.auto.i c.loop-i-test.true

pub overflow_sub-i : goal.overflow_sub-i
overflow_sub-i c = omega (arith, (reach (goal.at.overflow_sub-i c).In-loop-i).1)

pub number_at-requires : goal.number_at-requires
number_at-requires c = omega (arith, (reach (goal.at.number_at-requires c).In-loop-i).1, (reach (goal.at.number_at-requires c).In-loop-i).2)

pub loop-i-preserved : goal.loop-i-preserved
loop-i-preserved c =
    let l = c.loop-i in
    rw c.number_at.ensures (copy_more l.invariant (long (goal.at.loop-i-preserved c).In-loop-i) (small (goal.at.loop-i-preserved c).In-loop-i) l.auto.i (l.i + c.args.w - 2050) (omega (arith, (reach (goal.at.loop-i-preserved c).In-loop-i).1)))
