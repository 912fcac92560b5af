-- `first::Rounds::gather` meets its contract: the symbols from place d up to the next have been seen. Assumes nothing.
use Rattle.std.proofs.Common.{◌≡◌, ◌↔◌, ◌+◌, ◌-◌, ℕ, subst, arith, get_or, take, drop, length}
use Rattle.definitions.specs.Sheet.{len, symbol}
use Rattle.definitions.specs.States.{Holds}
use Rattle.definitions.specs.Grammar.{Null}
use Rattle.theory.specs.Check.Says.{Says, refused}
use Rattle.grammar.specs.Productions.{rest_long, rest_at}
use Rattle.grammar.specs.Gathered.{Seen, says_null, seen_next, seen_stop, seen_all}
use Rattle.grammar.specs.Known.{nulls_known}
use Rattle.grammar.specs.First.{Starts}
use Rattle.grammar.proofs.first.Rounds.gather.Goals as goal
use Rattle.grammar.proofs.first.Rounds.gather.Goals.{After-passes}

-- the symbol that is looked at
at : (c : After-passes) → let s = c.args in
    let xs = c.right.result.now in
    get_or (take (length xs - s.d) (drop s.d xs)) c.loop-x.x-index 0 ≡ symbol s.self.now.grammar.now.sheet.now s.p (s.d + c.loop-x.x-index)
at c = rest_at _ _ _ _ c.right.ensures c.requires.1 _ c.loop-x-test.true

-- what the set of the symbol holds, and whether it derives the empty string
told : (c : After-passes) → let s = c.args in
    (b : ℕ) → Holds c.starts.result.bits b ↔ Starts s.sets.now b (symbol s.self.now.grammar.now.sheet.now s.p (s.d + c.loop-x.x-index))
told c b = subst (λ (x : ℕ). Holds c.starts.result.bits b ↔ Starts c.args.sets.now b x) (at c) (c.starts.ensures b)

tested : (c : After-passes) → let s = c.args in
    Says c.passes.result (Null s.self.now.grammar.now.sheet.now (symbol s.self.now.grammar.now.sheet.now s.p (s.d + c.loop-x.x-index)))
tested c =
    subst (λ (x : ℕ). Says c.passes.result (Null c.args.self.now.grammar.now.sheet.now x)) (at c)
    (says_null _ _ _ (let r = c.args.self.now in nulls_known _ r.grammar.now.laid _ r.nulls) c.passes.ensures)

pub returns-then-not-passes : goal.returns-then-not-passes
returns-then-not-passes c =
    let r = c.right.ensures.size in
    seen_stop _ _ _ _ (c.args.d + c.loop-x.x-index) c.loop-x.r.bits c.starts.result.bits _ c.loop-x.invariant
    (told (goal.at.returns-then-not-passes c).After-passes) c.join-r.ensures _
    (let l = c.loop-x-test.true in omega (arith, rest_long _ _ _ _ c.right.ensures c.requires.1))
    (refused (tested (goal.at.returns-then-not-passes c).After-passes) c.if-not-passes.true)

pub loop-x-preserved : goal.loop-x-preserved
loop-x-preserved c =
    let s = c.args in
    let k = s.d + c.loop-x.x-index in
    let e : k + 1 ≡ s.d + (c.loop-x.x-index + 1) = omega arith in
    subst (λ (n : ℕ). Seen s.self.now.grammar.now.sheet.now s.sets.now s.p s.d n c.join-r.result.bits) e
    (seen_next _ _ _ _ k c.loop-x.r.bits c.starts.result.bits _ c.loop-x.invariant
    (told (goal.at.loop-x-preserved c).After-passes) c.join-r.ensures ((tested (goal.at.loop-x-preserved c).After-passes).to c.if-not-passes.false))

pub returns : goal.returns
returns c =
    let e : c.args.d + c.loop-x.x-index ≡ len c.args.self.now.grammar.now.sheet.now c.args.p =
    let l = c.loop-x-test.false in omega (arith, rest_long _ _ _ _ c.right.ensures c.requires.1) in
    seen_all _ _ _ _ (c.args.d + c.loop-x.x-index) c.loop-x.r.bits _ _ c.loop-x.invariant e c.join.ensures
