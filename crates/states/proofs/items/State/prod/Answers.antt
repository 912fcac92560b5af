-- `states::items::State::prod` meets its contract: the byte at the item's place is its production, which exists. Assumes nothing.
use mathlib.Core.Path.{◌≡◌}
use native.Mathlib.Omega.{arith}
use Rattle.definitions.specs.Sheet.{prod}
use Rattle.states.specs.Places.{below}
use Rattle.states.proofs.items.State.prod.Goals as goal

pub returns : goal.returns
returns c =
    let a = c.args in
    let e : c.from.result ≡ prod a.self.now.states.now.firsts.now.grammar.now.sheet.now a.self.now.s a.i = cc in
    let k = below a.self.now.lies a.i c.requires in
    (e, omega arith, omega arith)
