-- `states::items::State::terminals` meets its contract: the set is gathered over all items. Assumes nothing.
use mathlib.Core.Path.{subst}
use Prim.Native.Nat.{ℕ}
use borrow.Author.Rules.{rules}
use Rattle.states.specs.Gathering.{Exactly, Among, AfterTerminal, gathers_all}
use Rattle.states.proofs.items.State.terminals.Goals as goal

pub returns : goal.returns
returns c =
    let a = c.args.self.now in
    let t = a.states.now.firsts.now.grammar.now.sheet.now in
    subst (λ (k : ℕ). Exactly c.gather.result.bits (Among (AfterTerminal t a.s) k)) a.lies.many
    (gathers_all c.gather.ensures (λ i y l r. search rules))
