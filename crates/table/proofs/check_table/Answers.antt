-- `table::check_table` meets its contract, by each of the four answers. Assumes nothing.
use Rattle.theory.specs.Check.Says.{refused}
use Rattle.table.specs.Answer.{answers_2, answers_3, searched}
use Rattle.table.proofs.check_table.Goals as goal

pub returns-then-not-laid_out : goal.returns-then-not-laid_out
returns-then-not-laid_out c =
    let a = answers_2 (refused c.laid_out.ensures c.if-not-laid_out.true) in
    record { result_value = a.is; checks = a.tells; named = a.names }

pub returns-then-not-rules_kept : goal.returns-then-not-rules_kept
returns-then-not-rules_kept c =
    let a = answers_3 (c.laid_out.ensures.to c.if-not-laid_out.false) (λ g. refused c.rules_kept.ensures c.if-not-rules_kept.true (rw c.new-grammar.ensures g)) in
    record { result_value = a.is; checks = a.tells; named = a.names }

pub returns : goal.returns
returns c =
    let g = rw c.new-grammar.ensures at (c.rules_kept.ensures.to c.if-not-rules_kept.false) in
    let f = rw (c.new-states.ensures, c.firsts-firsts.ensures, c.new-grammar.ensures) at c.first_broken.ensures in
    let a = searched (c.laid_out.ensures.to c.if-not-laid_out.false) g _ f in
    record { result_value = a.is; checks = a.tells; named = a.names }
