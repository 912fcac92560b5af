-- `updating::take_token` meets its contract: what the machine did. Assumes nothing.
use mathlib.Core.Path.{◌≡◌}
use Rattle.std.specs.Prelude.{Err}
use Rattle.updating.specs.Tokens.{moved, stopped}
use borrow.Author.Rules.{rules}
use Rattle.updating.proofs.take_token.Goals as goal

pub returns-in_err-take-clause-takes : goal.returns-in_err-take-clause-takes
returns-in_err-take-clause-takes c t old put m σ f N =
    let a = c.args in
    let w = c.in_err-take.ensures in
    let e : c.from_residual.result ≡ Err c.in_err-take.field-0.0 = search rules in
    rw e (stopped N.listed _ w.room_unchanged a.n a.kind a.number σ _ _ (w.takes t σ f N.holds N.stands N.seen N.other))

pub returns-clause-takes : goal.returns-clause-takes
returns-clause-takes c t old put m σ f N =
    let a = c.args in
    let w = c.in_ok-take.ensures in
    moved N.listed _ w.room_unchanged a.n a.kind a.number σ _ c.in_ok-take.field-0 (w.takes t σ f N.holds N.stands N.seen N.other)
