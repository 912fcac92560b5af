-- The places before the edit's are marked, then it is passed.
use Rattle.std.proofs.Common.{arith}
use Rattle.edits.specs.Marks.{clear_next, marks_few, marks-edit}
use Rattle.edits.proofs.Marks.mark_edit.Goals as goal

pub mark_to-w-requires : goal.mark_to-w-requires
mark_to-w-requires c =
    let p = c.requires in
    (p.0, p.1, p.2, p.3, p.4, clear_next p.4 p.5)

pub overflow_add-result : goal.overflow_add-result
overflow_add-result c =
    let p = c.requires in
    let f = (marks_few (c.mark_to-w.ensures.0 p.0 p.1 p.2 p.3 p.4 (clear_next p.4 p.5))).0 in
    omega arith

pub returns : goal.returns
returns c = λ row r n k M R.
    let M' = c.mark_to-w.ensures.0 row r n k M (clear_next M R) in
    let e = c.mark_to-w.ensures.1 in
    rw e at (marks-edit M' R e)
