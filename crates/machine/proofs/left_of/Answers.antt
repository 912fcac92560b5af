-- `machine::left_of` meets its contract: the byte is the definition's. Assumes nothing.
use mathlib.Core.Path.{sym, ◌∙◌}
use Rattle.theory.specs.Table.Sides.{lhs_is}
use Rattle.sheet.specs.Within.{production_within}
use Rattle.machine.proofs.left_of.Goals as goal

pub left-requires : goal.left-requires
left-requires c = production_within _ c.requires.0 _ c.requires.1

pub returns : goal.returns
returns c = c.from.ensures ∙ c.left.ensures ∙ sym (lhs_is _ _)
