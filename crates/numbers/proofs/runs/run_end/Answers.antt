-- `runs::run_end` meets its contract: the run ends before the first record that is not of it. Assumes nothing.
use Rattle.std.proofs.Common.{rules, tests, refl, true, false}
use Rattle.theory.specs.Check.Says.{Says, refused}
use Rattle.std.proofs.lemmas.Iterator.{first_from_Range}
use Rattle.numbers.specs.Records.{front, Met}
use Rattle.numbers.specs.Runs.{stops_first}
use Rattle.numbers.proofs.runs.run_end.Goals as goal

pub returns : goal.returns
returns c =
    let old = c.args.old.now.row.now in
    let R = front c.args.room.now in
    let m = c.args.old.now.nodes in
    let w = c.args.w in
    stops_first c.find.result c.requires.0
    (first_from_Range _ _ _ _ (λ i. Met old R m w i → ⊥) (λ i. Met old R m w i) c.find.ensures.ran
    (λ i q h. let s : Says false (Met old R m w i) = search (rules, tests) in refused s refl)
    (λ i q h. (search rules, let s : Says true (Met old R m w i) = search (rules, tests) in s.to refl)))
    c.unwrap_or.ensures
