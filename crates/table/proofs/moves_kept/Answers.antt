-- `table::moves_kept` meets its contract: every transition passed keeps conditions 5 and 6. Assumes nothing.
use native.Mathlib.Omega.{arith}
use borrow.Author.Count.{below_more}
use borrow.Author.Rules.{rules}
use Rattle.theory.specs.Check.Says.{refused}
use Rattle.table.specs.Codes.{five, six, from_terminals, from_nonterminals}
use Rattle.table.proofs.moves_kept.Goals as goal

pub returns-then-not-action_kept : goal.returns-then-not-action_kept
returns-then-not-action_kept c = five (λ w. refused c.action_kept.ensures c.if-not-action_kept.true (w.actions c.loop-a.a (omega arith)))

pub returns-then-not-into_right : goal.returns-then-not-into_right
returns-then-not-into_right c = six (λ f. refused c.into_right.ensures c.if-not-into_right.true (from_terminals f c.loop-a.a (omega arith)))

pub loop-a-preserved : goal.loop-a-preserved
loop-a-preserved c =
    (search rules, below_more _ _ c.loop-a.invariant.1 (c.action_kept.ensures.to c.if-not-action_kept.false, c.into_right.ensures.to c.if-not-into_right.false))

pub returns-then-not-goto_kept : goal.returns-then-not-goto_kept
returns-then-not-goto_kept c = five (λ w. refused c.goto_kept.ensures c.if-not-goto_kept.true (w.gotos c.loop-m.m (omega arith)))

pub returns-then-not-into_right-2 : goal.returns-then-not-into_right-2
returns-then-not-into_right-2 c =
    six (λ f. refused c.into_right-in-loop-m.ensures c.if-not-into_right-2.true (from_nonterminals f c.loop-m.m (omega arith)))

pub loop-m-preserved : goal.loop-m-preserved
loop-m-preserved c =
    (search rules, below_more _ _ c.loop-m.invariant.1 (c.goto_kept.ensures.to c.if-not-goto_kept.false, c.into_right-in-loop-m.ensures.to c.if-not-into_right-2.false))
