-- `states::items::State::action_kept` meets its contract: no action, a shift, or an end, each by its set. Assumes nothing.
use mathlib.Core.Path.{sym, ap, ◌∙◌}
use Rattle.sheet.specs.Within.{action_within}
use Rattle.states.specs.Gathering.{exact_says}
use Rattle.states.specs.Items.{shift_of}
use Rattle.states.specs.Weak.{action-shift, action_end}
use Rattle.states.proofs.items.State.action_kept.Goals as goal

pub action-w-requires : goal.action-w-requires
action-w-requires c =
    let a = c.args.self.now in
    action_within a.states.now.firsts.now.grammar.now.sheet.now a.lies.laid a.s c.args.a a.lies.state c.requires.a_bound

pub returns-in-Some : goal.returns-in-Some
returns-in-Some c =
    let a = c.args.self.now in
    action-shift a.states.now.firsts.now.grammar.now.sheet.now a.lies.laid a.s a.lies.state c.args.a c.requires.a_bound _
    (sym (ap shift_of c.action-w.ensures.0) ∙ sym c.shift_of.ensures ∙ c.in-Some.is)
    (exact_says c.requires.afters c.holds.ensures)

pub returns-in-None : goal.returns-in-None
returns-in-None c =
    let a = c.args.self.now in
    action_end a.states.now.firsts.now.grammar.now.sheet.now a.lies.laid a.s a.lies.state c.args.a c.requires.a_bound
    (λ q. c.if-w-eq0.false (c.action-w.ensures.0 ∙ q))
    (sym (ap shift_of c.action-w.ensures.0) ∙ sym c.shift_of.ensures ∙ c.in-None.is)
    (exact_says c.requires.ended c.holds-in-None.ensures)
