-- `states::items::State::ahead` meets its contract: the eight bytes after those are the set. Assumes nothing.
use mathlib.Core.Path.{ap, ◌∙◌}
use Prim.Native.Nat.{ℕ, ◌+◌}
use Rattle.definitions.specs.Sheet.{eight}
use Rattle.states.proofs.items.State.ahead.Goals as goal

pub returns : goal.returns
returns c = c.ahead.ensures ∙ ap (λ (k : ℕ). eight c.args.self.now.states.now.firsts.now.grammar.now.sheet.now (k + 2)) c.item_at.ensures.0
