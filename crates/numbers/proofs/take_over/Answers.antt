-- `numbers::take_over` meets its contract. The loop's invariant: `Frame` of the room's words, and `Backing` of what the records from e on keep. Assumes nothing.
use mathlib.Core.Path.{◌≡◌}
use Prim.Native.Nat.{◌-◌, ◌<◌}
use native.Mathlib.Omega.{arith}
use Rattle.numbers.specs.Copies.{frame_same, step_less, step_frame, reaches}
use Rattle.numbers.specs.Back.{begin, stepped}
use Rattle.numbers.proofs.take_over.Goals as goal
use Rattle.numbers.proofs.take_over.Goals.{After-back-e}

less : (c : After-back-e) → c.back-e.result < c.loop-e.e
less c =
    let l = c.loop-e in
    let h = c.loop-e-test.true in
    step_less c.back-e.ensures (omega (arith, l.invariant.1.sizes (l.e - 1), c.requires.shape.some (l.e - 1) (omega (arith, l.invariant.0))))

pub loop-e-init : goal.loop-e-init
loop-e-init c =
    let a = c.args in (omega arith, frame_same a.room.now a.n, λ r f G z. begin a.n r f a.room.now G.many)

pub back-e-requires : goal.back-e-requires
back-e-requires c =
    let l = c.loop-e in
    let F = l.invariant.1 in
    let h = c.loop-e-test.true in
    let f = c.requires.shape.few in record {
      e_nonzero = (h, omega (arith, l.invariant.0));
      e_bound = omega (arith, F.sizes (l.e - 1), c.requires.shape.back (l.e - 1) (omega (arith, l.invariant.0)));
      reaches = λ k. reaches c.requires.shape c.args.old.now.known F h l.invariant.0 (c.requires.spots.told (l.e - 1) (omega (arith, l.invariant.0))) k;
    }

pub loop-e-preserved : goal.loop-e-preserved
loop-e-preserved c =
    let l = c.loop-e in
    let F = l.invariant.1 in
    let h = c.loop-e-test.true in
    (omega (arith, less (goal.at.loop-e-preserved c).After-back-e, l.invariant.0), step_frame F c.back-e.ensures, λ r f G z. stepped G (rw z at c.requires.spots) F h (l.invariant.2 r f G z) c.back-e.ensures)

pub returns : goal.returns
returns c =
    let l = c.loop-e in let z : l.e ≡ 0 = omega (arith, c.loop-e-test.false) in record {
      frame = rw z at l.invariant.1;
      backing = λ r f G y. rw z at (l.invariant.2 r f G y);
    }
