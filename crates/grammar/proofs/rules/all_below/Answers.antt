-- `rules::all_below` meets its contract: 64 ones without the last 64 - n are n ones. Assumes nothing.
use Rattle.std.proofs.Math.Path.{subst⁻¹}
use Rattle.std.proofs.Common.{◌∙◌, ◌↔◌, ℕ, ◌<◌}
use Rattle.definitions.specs.States.{Holds}
use Rattle.grammar.specs.Sets.{all_is, all_holds}
use Rattle.grammar.proofs.rules.all_below.Goals as goal

pub returns : goal.returns
returns c b =
    let n = c.args.n in
    subst⁻¹ (λ (x : ℕ). Holds x b ↔ (b < n)) (c.from.ensures ∙ all_is n c.requires.1) (all_holds n b)
