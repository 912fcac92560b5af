-- `reading::read` meets its contract: the machine's end is told as the definitions tell it. Assumes nothing.
use Rattle.std.proofs.Common.{rules, ◌≡◌, ◌+◌, ◌<◌, ◌≤◌, Err}
use Rattle.answers.specs.declared.Refusal.TheVariants.{NoNumber}
use Rattle.reading.specs.Fresh.{too_many, tells}
use Rattle.reading.proofs.read.Goals as goal

pub returns-in_err-ok_or-clause-tells : goal.returns-in_err-ok_or-clause-tells
returns-in_err-ok_or-clause-tells c lent =
    let a = c.args in
    let p = c.requires in
    let h : 4294967295 < a.first + c.in_ok-n.n = search rules in
    let e : c.from_residual-in_err-ok_or.result ≡ Err NoNumber = search rules in
    rw e (too_many a.t.now a.codes.now a.first p.0 p.1 a.tree.now lent c.in_ok-n.ensures.ends h)

pub returns-clause-tells : goal.returns-clause-tells
returns-clause-tells c lent =
    let a = c.args in
    let p = c.requires in
    let h : a.first + c.in_ok-n.n ≤ 4294967295 = search rules in
    tells a.t.now a.codes.now a.first p.0 p.1 a.tree.now lent c.in_ok-n.ensures.ends _ _ h c.counts.ensures c.write.ensures
