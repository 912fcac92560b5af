-- Place after place is marked.
use Rattle.std.proofs.Common.{◌≡◌, refl, sym, ◌≤◌, ◌∙◌, Bool, true, false, cond, arith}
use mir.Val.{bool_byte}
use Rattle.edits.specs.Marks.{inside, marks_few, marks_place}
use Rattle.edits.proofs.Marks.mark_to.Goals as goal
use Rattle.edits.proofs.Marks.mark_to.Goals.{At-loop-i, After-from-out}

-- the marks that are written fit their words
few : (l : At-loop-i) → (l.args.self.puts ≤ 2048) × (l.loop-i.out ≤ l.loop-i.i) × (l.loop-i.i ≤ l.requires.2) × (l.requires.2 ≤ 2048)
few l = let p = l.requires in marks_few (l.loop-i.invariant.1 p.0 p.1 p.2 p.3 p.4 p.5)

byte : (b : Bool) → (bool_byte b ≡ cond b 1 0) × (bool_byte b ≤ 1)
byte true = (refl, omega arith)
byte false = (refl, omega arith)

one : (c : After-from-out) → (c.from-out.result ≡ inside c.loop-i.i c.args.self.until) × (c.from-out.result ≤ 1)
one c = rw c.from-out.ensures (byte _)

pub overflow_add-out : goal.overflow_add-out
overflow_add-out c =
    let f = few (goal.at.overflow_add-out c).At-loop-i in
    let g = (one c).1 in
    omega (arith, f.1, f.2, f.3)

pub mark-requires : goal.mark-requires
mark-requires c =
    let h = c.loop-i-test.true in
    let f = few (goal.at.mark-requires c).At-loop-i in
    let g = (one (goal.at.mark-requires c).After-from-out).1 in
    let e = c.loop-i.invariant.0 in
    let C = c.requires.5.high in
    (omega (arith, f.3), f.0, omega (arith, f.1, f.2, f.3))

pub loop-i-preserved : goal.loop-i-preserved
loop-i-preserved c =
    let h = c.loop-i-test.true in
    let e = c.loop-i.invariant.0 in
    let g = c.told-room in
    let z = c.mark.ensures in (
      c.mark.array_long ∙ sym g,
      λ row r n k M C.
          let M' = c.loop-i.invariant.1 row r n k M C in
          let t = C.high in
          rw z (marks_place M' (C.free c.loop-i.i h) (omega arith) (omega arith) c.from-out.result (one (goal.at.loop-i-preserved c).After-from-out).0),
    )
