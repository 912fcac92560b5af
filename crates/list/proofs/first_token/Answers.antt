-- Record after record is passed over until one is a token.
use Rattle.std.proofs.Common.{◌≡◌, ◌++◌, sym, ap, ◌∙◌, length, get_or, min, cond, ltb, lt-ltb, le-ltb, arith}
use Rattle.std.specs.Slice.Iter.{chunks_rest}
use Rattle.list.specs.Runs.{first_of, first_record}
use Rattle.list.proofs.first_token.Goals as goal
use Rattle.list.proofs.first_token.Goals.{In-Some}

-- what the record at hand says of the run's first token
here : (c : In-Some) → cond (ltb (get_or c.in-Some.record.now 0 0) 256) (get_or c.in-Some.record.now 0 0) (first_of (chunks_rest c.next.new.self)) ≡ first_of c.args.run.now
here c =
    let s = c.in-Some.ensures.steps in
    let i = c.loop-record.invariant in
    let x = c.in-Some.record.now in
    let l = chunks_rest c.next.new.self in
    let n : length x ≡ min 3 (length (x ++ l)) = s.1.1 ∙ ap (λ k. min k (length (chunks_rest c.loop-record.record-iterator))) i.2 ∙ ap (λ w. min 3 (length w)) s.1.0 in
    sym (first_record x l n (rw s.1.0 at s.1.2)) ∙ ap first_of (sym s.1.0) ∙ i.3

pub returns-then-record-lt256 : goal.returns-then-record-lt256
returns-then-record-lt256 c =
    let h = here (goal.at.returns-then-record-lt256 c).In-Some in
    rw (lt-ltb (get_or c.in-Some.record.now 0 0) 256 c.if-record-lt256.true) at h

pub loop-record-preserved : goal.loop-record-preserved
loop-record-preserved c =
    let s = c.in-Some.ensures.steps in
    let i = c.loop-record.invariant in
    let h = here (goal.at.loop-record-preserved c).In-Some in
    (omega (arith, s.0, i.2), tt, s.0 ∙ i.2, rw (le-ltb (get_or c.in-Some.record.now 0 0) 256 c.if-record-lt256.false) at h)
