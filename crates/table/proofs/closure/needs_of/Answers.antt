-- `table::closure::needs_of` meets its contract: the array is gathered over all items. Assumes nothing.
use mathlib.Core.Path.{subst}
use Prim.Native.Nat.{ℕ}
use borrow.Author.Rules.{rules}
use Rattle.states.specs.View.{sheet}
use Rattle.states.specs.Gathering.{Exactly, Among, entry, sorts_all}
use Rattle.table.specs.Needs.{Need}
use Rattle.table.proofs.closure.needs_of.Goals as goal

pub returns : goal.returns
returns c =
    let a = c.args.state.now in
    λ q h. subst (λ (k : ℕ). Exactly (entry c.sort.result q) (Among (Need (sheet a) a.s q) k)) a.lies.many
    (sorts_all {A = Need (sheet a) a.s} c.sort.ensures (λ i o l r. search rules) q h)
