-- `list::keep_child` meets its contract: it is put on the list where it has a token. Assumes nothing.
use mathlib.Core.Path.{refl, sym, ◌∙◌}
use mathlib.Core.Bool.{false≢true}
use Prim.Native.Nat.{◌+◌, ◌<◌}
use lib.ListN.{get_or}
use Rattle.list.specs.Pending.{tokens_at}
use Rattle.list.specs.Opening.{kept, dropped}
use Rattle.list.proofs.keep_child.Goals as goal
use Rattle.list.proofs.keep_child.Goals.{Then-has_tokens}

some : (c : Then-has_tokens) → let a = c.args in get_or a.room.now (tokens_at + a.from) 0 < get_or a.room.now (tokens_at + a.to) 0
some c = c.has_tokens.ensures.to c.if-has_tokens.true

pub returns-then-has_tokens : goal.returns-then-has_tokens
returns-then-has_tokens c = kept (some (goal.at.returns-then-has_tokens c).Then-has_tokens) c.push.ensures

pub returns-else-has_tokens : goal.returns-else-has_tokens
returns-else-has_tokens c = dropped (λ h. let e = c.has_tokens.ensures.from h in let f = c.if-has_tokens.false in false≢true (sym f ∙ e)) refl
