-- `states::items::starts_of` meets its contract: each turn goes on to the next state and stores its place. Assumes nothing.
use mathlib.Core.Path.{◌≡◌, ◌∙◌}
use Prim.Native.Nat.{◌+◌}
use native.Mathlib.Nat.{not-suc-le-zero}
use native.Mathlib.Omega.{arith}
use lib.ListN.{replicate}
use borrow.Author.Rules.{rules}
use Rattle.definitions.specs.Sheet.{state_at}
use Rattle.sheet.specs.Places.{next_at}
use Rattle.sheet.specs.Within.{head_within, state_within, places_within, length_most}
use Rattle.states.proofs.Loops.{fill_more}
use Rattle.states.proofs.items.starts_of.Goals as goal
use Rattle.states.proofs.items.starts_of.Goals.{After-next_state-at}

-- the place that a turn goes on to is the next state's
place-next : (c : After-next_state-at)
    → c.next_state-at.result ≡ state_at c.args.t.now (c.loop-s.s + 1)
place-next c = c.next_state-at.ensures ∙ next_at c.args.t.now c.loop-s.at c.loop-s.s c.loop-s.invariant.place

pub states_of-n-requires : goal.states_of-n-requires
states_of-n-requires c = head_within _ c.requires

pub items_at-at-requires : goal.items_at-at-requires
items_at-at-requires c = head_within _ c.requires

pub loop-s-init : goal.loop-s-init
loop-s-init c =
    let t = c.args.t.now in
    record {
      most = search rules;
      size = search rules;
      place = search rules;
      stored = fill_more 0 (state_at t) (replicate 201 0) 0 c.items_at-at.result (search rules) (search rules) (λ k l. absurd (not-suc-le-zero l));
    }

pub next_state-at-requires : goal.next_state-at-requires
next_state-at-requires c =
    omega (arith, state_within _ c.requires c.loop-s.s (search rules), c.loop-s.invariant)

pub overflow_cast-starts-in-loop-s : goal.overflow_cast-starts-in-loop-s
overflow_cast-starts-in-loop-s c =
    omega (arith, place-next c, places_within _ c.requires (c.loop-s.s + 1) (search rules), length_most _ c.requires)

pub loop-s-preserved : goal.loop-s-preserved
loop-s-preserved c =
    let l = c.loop-s in
    let z = l.invariant.size in
    let e = place-next c in
    record {
      most = search rules;
      size = search rules;
      place = e;
      stored = fill_more 0 (state_at c.args.t.now) l.starts (l.s + 1) c.next_state-at.result (search rules) e l.invariant.stored;
    }

pub returns : goal.returns
returns c =
    λ k h. c.loop-s.invariant.stored k (search rules)
