-- `least::ready` meets its contract: each symbol of the right side is tested. Assumes nothing.
use Rattle.std.proofs.Math.Path.{subst⁻¹}
use Rattle.std.proofs.lemmas.Iterator.{YieldsList-from_slice}
use Rattle.std.proofs.lemmas.Iterator.Adapters.{serves_from_places}
use Rattle.std.proofs.lemmas.List.{get_or_default}
use Rattle.std.proofs.Common.{◌∙◌, ℕ, ◌<◌, rules, arith}
use Rattle.grammar.proofs.least.ready.Goals as goal

pub all-requires-clause-callable : goal.all-requires-clause-callable
all-requires-clause-callable c =
    let r = c.right.ensures in
    let xs = c.right.result.now in
    serves_from_places (YieldsList-from_slice xs cc) (λ x q r. search rules)
    (λ x k h e.
    let w : x.now < 192 = subst⁻¹ (λ (n : ℕ). n < 192) (e ∙ get_or_default xs k x.now 0 h) (r.small k (omega (arith, r.size))).0 in
    search rules)
