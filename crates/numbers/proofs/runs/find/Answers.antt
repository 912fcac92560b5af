-- `runs::find` meets its contract: the first of the places that passes. Assumes nothing.
use Rattle.std.proofs.Common.{rules, tests, refl, true, false}
use Rattle.theory.specs.Check.Says.{Says, refused}
use Rattle.std.proofs.lemmas.Iterator.{first_from_Range}
use Rattle.numbers.specs.Records.{front, Same}
use Rattle.numbers.proofs.runs.find.Goals as goal

pub returns : goal.returns
returns c =
    let old = c.args.old.now in
    let R = front c.args.room.now in
    let j = c.args.j in
    first_from_Range _ _ _ _ (λ k. Same old R j k) (λ k. Same old R j k → ⊥) c.find.ensures.ran
    (λ k q h. let s : Says true (Same old R j k) = search (rules, tests) in s.to refl)
    (λ k q h. (search rules, let s : Says false (Same old R j k) = search (rules, tests) in refused s refl))
