-- The records, if nothing is left over.
use Rattle.std.proofs.Common.{sym, length, eq-eqb, eqb-true, ◌∙◌}
use Rattle.std.proofs.lemmas.Bool.{false≢true}
use Rattle.edits.specs.Judged.{says_none}
use Rattle.edits.specs.Words.{whole-words, part-words}
use Rattle.edits.proofs.edits_right.Goals as goal

pub returns-then-is_empty : goal.returns-then-is_empty
returns-then-is_empty c =
    let s = c.as_chunks.ensures in
    let w = whole-words c.args.edits.now c.as_chunks.result.1.now s.back_len (eqb-true (length c.as_chunks.result.1.now) 0 (sym c.if-is_empty.ensures)) s.front in
    λ old l. rw w at (c.in_order.ensures old l)

pub returns-else-is_empty : goal.returns-else-is_empty
returns-else-is_empty c = λ old l.
    rw c.if-is_empty.false (says_none c.args.t.now old c.args.edits.now c.args.put.now
    (part-words c.args.edits.now c.as_chunks.result.1.now c.as_chunks.ensures.back_len (λ h. false≢true (c.if-is_empty.ensures ∙ eq-eqb (length c.as_chunks.result.1.now) 0 h))))
