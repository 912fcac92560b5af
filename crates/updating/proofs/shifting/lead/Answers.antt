-- `updating::shifting::lead` meets its contract: a token's kind by the actions, a node's by the gotos. Assumes nothing.
use mathlib.Core.Path.{ap, ◌∙◌}
use Rattle.definitions.specs.Table.{table_of}
use Rattle.updating.specs.Copy.{by-goto}
use Rattle.updating.proofs.shifting.lead.Goals as goal

pub returns-else-kind-lt256 : goal.returns-else-kind-lt256
returns-else-kind-lt256 c = let a = c.args in by-goto (table_of a.t.now) a.s a.kind c.if-kind-lt256.false (c.goto_of.ensures ∙ ap ((table_of a.t.now).goto a.s) c.left_of.ensures)
