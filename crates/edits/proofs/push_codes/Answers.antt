-- `edits::push_codes` meets its contract. The loop's invariant: the codes from j on are on the list. Assumes nothing.
use native.Mathlib.Omega.{arith}
use Rattle.edits.specs.Pushing.{pushes_code}
use Rattle.edits.proofs.push_codes.Goals as goal

pub loop-j-preserved : goal.loop-j-preserved
loop-j-preserved c =
    let i = c.loop-j.invariant in
    let h = c.loop-j-test.true in
    let n = i.2.many in
    let u = c.requires.fits in
    let j = i.1 in
    let z = c.push.ensures in
    (omega arith, omega arith, rw z (pushes_code i.2 (omega arith) j (omega arith) (omega (arith, c.told-room))))
