-- `states::items::State::item_at` meets its contract: the place of an item of a sheet well laid out lies within it. Assumes nothing.
use native.Mathlib.Omega.{arith}
use Rattle.sheet.specs.Within.{length_most}
use Rattle.states.specs.Places.{item_place}
use Rattle.states.proofs.items.State.item_at.Goals as goal

pub overflow_mul-result : goal.overflow_mul-result
overflow_mul-result c = omega (arith, item_place c.args.self.now.lies c.args.i c.requires, length_most _ c.args.self.now.lies.laid)

pub overflow_add-result : goal.overflow_add-result
overflow_add-result c = omega (arith, item_place c.args.self.now.lies c.args.i c.requires, length_most _ c.args.self.now.lies.laid)

pub overflow_add-result-2 : goal.overflow_add-result-2
overflow_add-result-2 c = omega (arith, item_place c.args.self.now.lies c.args.i c.requires, length_most _ c.args.self.now.lies.laid)

pub returns : goal.returns
returns c = omega (arith, item_place c.args.self.now.lies c.args.i c.requires)
