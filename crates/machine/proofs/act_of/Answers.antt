-- `machine::act_of` meets its contract: beyond the sheet the action is error, within it the word says it. Assumes nothing.
use mathlib.Core.Path.{sym, ap, ◌∙◌}
use native.Mathlib.Omega.{arith}
use Rattle.definitions.specs.Table.{act_of}
use Rattle.theory.specs.Table.Transitions.{act_is_lem}
use Rattle.sheet.specs.Within.{action_within}
use Rattle.machine.specs.Lookups.{act_states, act_terminals}
use Rattle.machine.proofs.act_of.Goals as goal
use Rattle.machine.proofs.act_of.Goals.{then-s-states_of-via-then-s-states_of, then-s-states_of-via-else-s-states_of+then-a-terminals_of}

pub returns-then-s-states_of : goal.returns-then-s-states_of
returns-then-s-states_of c = elim c.then-s-states_of.branch [
  | then-s-states_of-via-then-s-states_of w ↦ sym (act_states _ _ _ (omega arith))
  | then-s-states_of-via-else-s-states_of+then-a-terminals_of w ↦ sym (act_terminals _ _ _ (omega arith))
]

pub action-requires : goal.action-requires
action-requires c = action_within _ c.requires _ _ (omega arith) (omega arith)

pub returns : goal.returns
returns c = c.from.ensures ∙ ap act_of c.action.ensures.0 ∙ sym (act_is_lem _ _ _ (omega arith) (omega arith))
