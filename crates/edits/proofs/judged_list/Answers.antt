-- By the judgement of the edits.
use Rattle.std.proofs.Common.{refl}
use Rattle.std.proofs.lemmas.Result.{IfOk-at_ok, err_from_is_err_and}
use Rattle.edits.specs.Made.{Tokens, tokens-number, refused}
use Rattle.edits.specs.Listing.{asks, makes_list, says_six}
use Rattle.edits.proofs.judged_list.Given.{Over}
use Rattle.edits.proofs.judged_list.Goals as goal
use Rattle.edits.proofs.judged_list.Goals.{In_ok-n}

-- the old tree's tokens were counted
counted : (g : Over) (c : In_ok-n g) → Tokens c.args.t.now c.args.old.now c.args.room.now c.in_ok-n.n
counted g c = IfOk-at_ok _ c.in_ok-n.was c.requires

pub returns-in_err-n : goal.returns-in_err-n
returns-in_err-n g c =
    let p = err_from_is_err_and c.from_residual.result c.from_residual.ensures.1 in
    rw (p.1, p.2) (refused c.in_err-n.field-0.0 c.in_err-n.was refl refl)

pub in_order-requires : goal.in_order-requires
in_order-requires g c = let k = counted g c in (k.layout, tokens-number k)

pub returns-else-in_order : goal.returns-else-in_order
returns-else-in_order g c = says_six (counted g (goal.at.returns-else-in_order g c).In_ok-n) c.in_order.ensures c.if-in_order.false c.in_ok-n.was

pub make_list_of-requires : goal.make_list_of-requires
make_list_of-requires g c =
    let k = counted g (goal.at.make_list_of-requires g c).In_ok-n in
    record { in_bounds = k.roomy; by_index = asks k c.in_order.ensures c.if-in_order.true }

pub returns-then-in_order : goal.returns-then-in_order
returns-then-in_order g c =
    let l = c.make_list_of.ensures in
    makes_list (counted g (goal.at.returns-then-in_order g c).In_ok-n) c.in_order.ensures c.if-in_order.true c.in_ok-n.was l.by_index_2 l.upper_bound
