-- `productions::Grammar::new` meets its contract: the productions are filled in one by one. Assumes nothing.
use Rattle.std.proofs.Common.{◌≡◌, ◌<◌, length, get_or, ℕ}
use Rattle.grammar.specs.declared.production.Production.{Production}
use Rattle.grammar.specs.Productions.{Made}
use Rattle.grammar.proofs.productions.Grammar.new.Given as goal

abbrev pub invariant-loop-p : goal.invariant-loop-p
invariant-loop-p l =
    (length l.productions ≡ 200) × ((k : ℕ) (other : Production) → k < l.p → Made l.sheet k (get_or l.productions k other))
