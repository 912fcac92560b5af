-- `states::items::State::dot` meets its contract: the byte after it is the dot, which is at most the production's length. Assumes nothing.
use mathlib.Core.Path.{◌≡◌}
use native.Mathlib.Omega.{arith}
use Rattle.definitions.specs.Sheet.{dot}
use Rattle.states.specs.Places.{within_length, short}
use Rattle.states.proofs.items.State.dot.Goals as goal

pub returns : goal.returns
returns c =
    let a = c.args in
    let e : c.from.result ≡ dot a.self.now.states.now.firsts.now.grammar.now.sheet.now a.self.now.s a.i = cc in
    let j = within_length a.self.now.lies a.i c.requires in
    let k = short a.self.now.lies a.i c.requires in
    (e, omega arith, omega arith)
