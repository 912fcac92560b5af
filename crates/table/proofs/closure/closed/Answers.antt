-- `table::closure::closed` meets its contract: condition 2 is what it says of every production. Assumes nothing.
use borrow.Author.Rules.{rules}
use Rattle.std.proofs.Common.{sym, ◌∙◌, eqb-true}
use Rattle.definitions.specs.Sheet.{P}
use Rattle.theory.specs.Check.Says.{says_yes, says_as}
use Rattle.states.specs.All.{says_from_all}
use Rattle.states.specs.View.{sheet}
use Rattle.table.specs.Needs.{Met, met_none, met_all, all_met}
use Rattle.table.proofs.closure.closed.Goals as goal

pub returns-then-eq : goal.returns-then-eq
returns-then-eq c =
    let a = c.args.state.now in
    says_yes (met_none (sheet a) a.lies.laid a.s a.lies.state c.nonterminals.ensures (eqb-true _ _ (sym c.eq.ensures ∙ c.if-eq.true)))

pub returns : goal.returns
returns c =
    let a = c.args.state.now in
    let t = sheet a in
    says_as (says_from_all _ _ _ (P t) (Met t a.s) c.all.ensures.ran (cc) (λ x b q k. (search rules, search rules)))
    (met_all t a.lies.laid a.s a.lies.state) (all_met t a.lies.laid a.s a.lies.state)
