-- `machine::goto_of` meets its contract: beyond the sheet there is no goto, within it the byte says it. Assumes nothing.
use mathlib.Core.Path.{sym, ap, ◌∙◌}
use native.Mathlib.Omega.{arith}
use Rattle.definitions.specs.Table.{goto_of}
use Rattle.theory.specs.Table.Transitions.{goto_is_lem}
use Rattle.sheet.specs.Within.{goto_within}
use Rattle.machine.specs.Lookups.{goto-states, goto_nonterminals}
use Rattle.machine.proofs.goto_of.Goals as goal
use Rattle.machine.proofs.goto_of.Goals.{then-s-states_of-via-then-s-states_of, then-s-states_of-via-else-s-states_of+then-n-nonterminals_of}

pub returns-then-s-states_of : goal.returns-then-s-states_of
returns-then-s-states_of c = elim c.then-s-states_of.branch [
  | then-s-states_of-via-then-s-states_of w ↦ sym (goto-states _ _ _ (omega arith))
  | then-s-states_of-via-else-s-states_of+then-n-nonterminals_of w ↦ sym (goto_nonterminals _ _ _ (omega arith))
]

pub goto_byte-requires : goal.goto_byte-requires
goto_byte-requires c = goto_within _ c.requires _ _ (omega arith) (omega arith)

pub returns : goal.returns
returns c = c.led.ensures ∙ ap goto_of c.goto_byte.ensures ∙ sym (goto_is_lem _ _ _ (omega arith) (omega arith))
