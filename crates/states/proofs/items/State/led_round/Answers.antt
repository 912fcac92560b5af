-- `states::items::State::led_round` meets its contract: a turn adds what its item opens. Assumes nothing.
use mathlib.Core.Path.{◌≡◌, subst}
use Prim.Native.Nat.{ℕ}
use native.Mathlib.Omega.{arith}
use borrow.Author.Rules.{rules}
use Rattle.definitions.specs.Sheet.{count}
use Rattle.states.specs.Chains.{Round, round_none, round_more}
use Rattle.states.specs.Places.{listed}
use Rattle.states.proofs.items.State.led_round.Goals as goal

pub loop-i-init : goal.loop-i-init
loop-i-init c = (search rules, round_none c.requires)

pub loop-i-preserved : goal.loop-i-preserved
loop-i-preserved c =
    (search rules, round_more (listed c.args.self.now.lies c.loop-i.i (search rules)) c.loop-i.invariant.1 c.opens_at.ensures c.join-more.ensures)

pub returns : goal.returns
returns c =
    let a = c.args.self.now in
    let t = a.states.now.firsts.now.grammar.now.sheet.now in
    let e : c.loop-i.i ≡ count t a.s = let m = a.lies.many in omega arith in
    subst (λ (k : ℕ). Round t a.s c.args.set.bits k c.loop-i.more.bits) e c.loop-i.invariant.1
