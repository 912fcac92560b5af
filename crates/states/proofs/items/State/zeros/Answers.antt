-- `states::items::State::zeros` meets its contract: the array is gathered over all items. Assumes nothing.
use mathlib.Core.Path.{subst}
use Prim.Native.Nat.{ℕ}
use borrow.Author.Rules.{rules}
use Rattle.states.specs.Gathering.{Exactly, Among, entry, sorts_all}
use Rattle.states.specs.Zeros.{Zero, zeros_all}
use Rattle.states.proofs.items.State.zeros.Goals as goal

pub returns : goal.returns
returns c =
    let a = c.args.self.now in
    let t = a.states.now.firsts.now.grammar.now.sheet.now in
    zeros_all _ (λ q h. subst (λ (k : ℕ). Exactly (entry c.sort.result q) (Among (Zero t a.s q) k)) a.lies.many
    (sorts_all {A = Zero t a.s} c.sort.ensures (λ i o l r. search rules) q h))
