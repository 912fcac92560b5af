-- `updating::read_and_write` meets its contract: the list is read, and its end told. Assumes nothing.
use mathlib.Core.Path.{◌≡◌, refl}
use borrow.Author.Rules.{rules}
use mathlib.Core.List.{[]}
use native.Mathlib.Omega.{arith}
use Rattle.std.specs.Prelude.{Err}
use Rattle.updating.specs.Turns.{above_states}
use Rattle.updating.specs.Running.{above_on}
use Rattle.updating.specs.Finish.{held-row, list, tree-read, given, refuses, tells, too_many}
use Rattle.updating.proofs.read_and_write.Goals as goal

pub read_list-requires : goal.read_list-requires
read_list-requires c =
    let p = c.requires in
    let J = p.1.3 in
    (J.table.layout, omega (arith, c.told-room), held-row J, (list J, p.1.4))

pub returns-in_err-n : goal.returns-in_err-n
returns-in_err-n c =
    let e : c.from_residual.result ≡ Err c.in_err-n.field-0.0 = search rules in record {
      lent_after = λ edits lent r es J L. rw e (refuses J c.args.tree.now lent c.in_err-n.field-0.0 (c.in_err-n.ensures.ends (list J) L).0);
      above = c.read_list.ensures.above;
    }

pub finish-requires : goal.finish-requires
finish-requires c =
    let p = c.requires in
    let x = p.1 in
    let J = x.3 in
    let R = c.in_ok-n.ensures.ends (list J) x.4 in
    (p.0, omega (arith, c.told-room, c.read_list.ensures.above.long), (x.1, (tree-read J c.args.tree.now [] R, given J c.args.tree.now [] R)))

pub returns-then-finish : goal.returns-then-finish
returns-then-finish c =
    let t = c.args.tree.now in
    let s = c.finish in record {
      lent_after = λ edits lent r es J L.
          let R = c.in_ok-n.ensures.ends (list J) L in
          tells J t lent R c.in_ok-n.counts refl (c.if-finish.ensures.answers r (tree-read J t lent R) (given J t lent R));
      above = above_on c.read_list.ensures.above (above_states s.ensures.room_unchanged s.auto.room);
    }

pub returns-else-finish : goal.returns-else-finish
returns-else-finish c =
    let t = c.args.tree.now in
    let s = c.finish in record {
      lent_after = λ edits lent r es J L.
          let R = c.in_ok-n.ensures.ends (list J) L in
          too_many J t lent R (c.if-finish.ensures.answers r (tree-read J t lent R) (given J t lent R));
      above = above_on c.read_list.ensures.above (above_states s.ensures.room_unchanged s.auto.room);
    }
