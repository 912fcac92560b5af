-- `machine::length_of` meets its contract: the byte is the definition's. Assumes nothing.
use mathlib.Core.Path.{sym, ◌∙◌}
use Rattle.theory.specs.Table.Sides.{rhs_length}
use Rattle.sheet.specs.Within.{production_within}
use Rattle.machine.proofs.length_of.Goals as goal

pub len-requires : goal.len-requires
len-requires c = production_within _ c.requires.0 _ c.requires.1

pub returns : goal.returns
returns c = c.from.ensures ∙ c.len.ensures ∙ sym (rhs_length _ _ c.requires.1)
