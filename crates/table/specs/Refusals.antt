-- The refusal that a broken table gives to a call.
use Rattle.answers.specs.declared.Refusal.{Refusal}
use Rattle.answers.specs.declared.Refusal.TheVariants as refusals
use Rattle.table.specs.declared.Broken.{Broken}
use Rattle.table.specs.declared.Broken.TheVariants.{Layout, Grammar, States}

abbrev pub refusal : Broken → Refusal
refusal Layout = refusals.Layout
refusal Grammar = refusals.Grammar
refusal (States c s) = refusals.States
