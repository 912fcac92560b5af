-- `table::first_broken` meets its contract: each loop has passed what keeps the conditions. Assumes nothing.
use Prim.Native.Nat.{◌<◌}
use native.Mathlib.Omega.{arith}
use borrow.Author.Count.{below_more}
use borrow.Author.Rules.{rules}
use Rattle.definitions.specs.Sheet.{S, count}
use Rattle.theory.specs.Check.Says.{refused}
use Rattle.states.specs.View.{sheet_of}
use Rattle.table.specs.Codes.{third, fourth, all_kept}
use Rattle.table.proofs.first_broken.Goals as goal

pub loop-a-preserved : goal.loop-a-preserved
loop-a-preserved c =
    let st = c.state-state.ensures in
    (search rules, below_more _ _ c.loop-a.invariant.1 (rw (st.states, st.number) at (c.ahead_right.ensures.to c.if-not-ahead_right.false)))

pub loop-i-preserved : goal.loop-i-preserved
loop-i-preserved c =
    let st = c.state-state.ensures in (
      search rules,
      below_more _ _ c.loop-i.invariant.1 (record {
        three = rw (st.states, st.number) at (c.moves_on.ensures.to c.if-not-moves_on.false);
        four = λ a h. c.loop-a.invariant.1 a (omega (arith, h));
      }),
    )

pub loop-s-preserved : goal.loop-s-preserved
loop-s-preserved c =
    let st = c.state-state.ensures in
    let m = rw (st.states, st.number) at c.state-state.result.lies.many in (
      search rules,
      below_more _ _ c.loop-s.invariant.1 (record {
        once = rw (st.states, st.number) at c.in_default.ensures;
        items = λ i k. c.loop-i.invariant.1 i (omega (arith, k, m));
      }),
    )

pub returns-then-not-moves_on : goal.returns-then-not-moves_on
returns-then-not-moves_on c =
    let st = c.state-state.ensures in
    let m = rw (st.states, st.number) at c.state-state.result.lies.many in
    let h : c.loop-s.s < S (sheet_of c.args.states.now) = omega arith in
    let l : c.loop-i.i < count (sheet_of c.args.states.now) c.loop-s.s = omega (arith, m) in
    (h, third (λ f. refused c.moves_on.ensures c.if-not-moves_on.true (rw (st.states, st.number) (f c.loop-i.i l))))

pub returns-then-not-ahead_right : goal.returns-then-not-ahead_right
returns-then-not-ahead_right c =
    let st = c.state-state.ensures in
    let m = rw (st.states, st.number) at c.state-state.result.lies.many in
    let h : c.loop-s.s < S (sheet_of c.args.states.now) = omega arith in
    let l : c.loop-i.i < count (sheet_of c.args.states.now) c.loop-s.s = omega (arith, m) in
    (h, fourth (λ f. refused c.ahead_right.ensures c.if-not-ahead_right.true (rw (st.states, st.number) (f c.loop-i.i c.loop-a.a l (omega arith)))))

pub returns-after-loop-s : goal.returns-after-loop-s
returns-after-loop-s c =
    all_kept _ c.args.states.now.firsts.now.grammar.now.laid c.requires (λ s h. c.loop-s.invariant.1 s (omega (arith, h)))
