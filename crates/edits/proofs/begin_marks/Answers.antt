-- Counts, and the marks of place 0.
use Rattle.std.proofs.Common.{◌≡◌, arith, rules}
use Rattle.edits.specs.declared.Marks.{Marks}
use Rattle.edits.specs.Begin.{ready}
use Rattle.edits.proofs.begin_marks.Goals as goal

pub returns : goal.returns
returns c =
    let k = c.count_tokens.auto.room in
    let l = c.told-room in
    let none : Marks = record { at = 0; puts = 0; out = 0; until = 0 } in
    let d : c.default.result ≡ none = search rules in
    λ C. rw (c.mark.ensures, d) (ready C (rw c.count_at-n.ensures.0 at c.count_tokens.ensures) k (omega arith))
