-- `numbers::whole` meets its contract: record by record. Assumes nothing.
use Rattle.std.proofs.Common.{rules, tests, refl, true, false, arith}
use Rattle.theory.specs.Check.Says.{Says, refused}
use Rattle.std.proofs.lemmas.Iterator.{YieldsList-from_range, cases_from_all}
use Rattle.numbers.specs.Records.{front}
use Rattle.numbers.specs.Whole.{Alike, whole_says}
use Rattle.numbers.proofs.whole.Goals as goal

pub returns-then-old-n : goal.returns-then-old-n
returns-then-old-n c =
    let old = c.args.old.now.row.now in
    let R = front c.args.room.now in
    let n = c.args.n in
    whole_says c.all.result c.if-old-n.true
    (cases_from_all _ _ _ (λ j. Alike old R j) (λ j. Alike old R j → ⊥) c.all.ensures.ran (YieldsList-from_range 0 n n refl (omega arith))
    (λ j q h. (search rules, let s : Says true (Alike old R j) = search (rules, tests) in s.to refl))
    (λ j q h. let s : Says false (Alike old R j) = search (rules, tests) in refused s refl))
