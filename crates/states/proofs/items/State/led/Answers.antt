-- `states::items::State::led` meets its contract: a round that adds nothing leaves the set that condition 7 goes by; a set that grew is a
-- larger number, below 2 ^ 64. Assumes nothing.
use mathlib.Core.Path.{◌≡◌, sym, ◌∙◌}
use Prim.Native.Nat.{◌≤◌}
use native.Mathlib.Omega.{arith}
use Rattle.std.proofs.Common.{eqb-true}
use Rattle.std.proofs.lemmas.Bool.{eqb-false}
use Rattle.states.specs.Chains.{sound_none, round_same, within_le}
use Rattle.states.proofs.items.State.led.Goals as goal

pub loop-more-init : goal.loop-more-init
loop-more-init c = sound_none

pub returns-then-eq : goal.returns-then-eq
returns-then-eq c = round_same c.led_round-more.ensures (eqb-true _ _ (sym c.eq.ensures ∙ c.if-eq.true))

pub loop-more-smaller : goal.loop-more-smaller
loop-more-smaller c =
    let r = c.led_round-more in
    let k = r.type_inv.1 in
    let e : c.loop-more.set.bits ≤ r.result.bits = within_le _ _ r.ensures.grows in
    let g : r.result.bits ≡ c.loop-more.set.bits → ⊥ = eqb-false _ _ (sym c.eq.ensures ∙ c.if-eq.false) in
    omega arith

pub loop-more-preserved : goal.loop-more-preserved
loop-more-preserved c = c.led_round-more.ensures.sound
