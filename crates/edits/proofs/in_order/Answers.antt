-- What the walk found.
use Rattle.std.proofs.Common.{rules}
use Rattle.edits.specs.Judged.{says_order}
use Rattle.edits.specs.Words.{words_of}
use Rattle.edits.proofs.in_order.Goals as goal

pub returns : goal.returns
returns g c = λ old l.
    says_order c.args.t.now old (words_of g.E.AsEdit.stands_for c.args.edits.now) c.args.put.now c.walk_all.result c.walk_all.ensures l (search rules)
