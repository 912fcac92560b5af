-- By the judgement of the edits.
use Rattle.std.proofs.Common.{refl}
use Rattle.std.proofs.lemmas.Result.{IfOk-at_ok, err_from_is_err_and}
use Rattle.edits.specs.Made.{Tokens, tokens-number, refused}
use Rattle.edits.specs.Listing.{asks, makes_list, says_six}
use Rattle.edits.proofs.list_words.Goals as goal
use Rattle.edits.proofs.list_words.Goals.{In_ok-n}

-- the old tree's tokens were counted
counted : (c : In_ok-n) → Tokens c.args.t.now c.args.old.now c.args.room.now c.in_ok-n.n
counted c = IfOk-at_ok _ c.in_ok-n.was c.requires

pub returns-in_err-n : goal.returns-in_err-n
returns-in_err-n c =
    let p = err_from_is_err_and c.from_residual.result c.from_residual.ensures.1 in
    rw (p.1, p.2) (refused c.in_err-n.field-0.0 c.in_err-n.was refl refl)

pub edits_right-requires : goal.edits_right-requires
edits_right-requires c = let k = counted c in (k.layout, tokens-number k)

pub returns-then-not-edits_right : goal.returns-then-not-edits_right
returns-then-not-edits_right c = says_six (counted (goal.at.returns-then-not-edits_right c).In_ok-n) c.edits_right.ensures c.if-not-edits_right.true c.in_ok-n.was

pub make_list-requires : goal.make_list-requires
make_list-requires c =
    let k = counted (goal.at.make_list-requires c).In_ok-n in
    record { in_bounds = k.roomy; by_index = asks k c.edits_right.ensures c.if-not-edits_right.false }

pub returns : goal.returns
returns c =
    let l = c.make_list.ensures in
    makes_list (counted (goal.at.returns c).In_ok-n) c.edits_right.ensures c.if-not-edits_right.false c.in_ok-n.was l.by_index_2 l.upper_bound
