-- `numbers::keep` meets its contract: the whole tree as it was, or by the rule. Assumes nothing.
use mathlib.Core.Path.{◌≡◌, refl, ◌∙◌}
use native.Mathlib.Omega.{arith}
use lib.ListN.{get_or}
use Rattle.std.proofs.Common.{List, ℕ}
use Rattle.definitions.specs.Tree.{Row, size, NRow, erase}
use Rattle.numbers.specs.Given.{Given, count_is, shape, old_row}
use Rattle.numbers.specs.Renumber.{whole_stands, rule_stands, given-front}
use Rattle.theory.specs.Check.Says.{refused}
use Rattle.numbers.proofs.keep.Goals as goal

-- the count is the old tree's
counted : {old room : List ℕ} {n m : ℕ} {r : NRow} {f : Row} → m ≡ get_or old 0 0 → Given old room n r f → m ≡ size (erase r)
counted e g = e ∙ count_is g

pub invariant_of-tree : goal.invariant_of-tree
invariant_of-tree c = let g = c.requires.1.1 in let e = counted c.count_at.ensures.0 g in record { known = rw e (old_row g) }

pub copy-requires : goal.copy-requires
copy-requires c =
    let g = c.requires.1.1 in
    let m = (c.whole.ensures.to c.if-whole.true).many in
    (omega arith, g.small, record { each = λ i a b. (i, refl, omega (arith, (old_row g).long, counted c.count_at.ensures.0 g)) })

pub spots-requires : goal.spots-requires
spots-requires c = let g = c.requires.1.1 in record { shape = shape g }

pub take_over-requires : goal.take_over-requires
take_over-requires c =
    let g = c.requires.1.1 in
    let J = c.spots.ensures in
    record {
      shape = rw J.records (shape g);
      spots = rw J.records J.spots;
    }

pub returns-then-whole : goal.returns-then-whole
returns-then-whole c =
    let w = c.whole.ensures.to c.if-whole.true in
    let k = c.copy.ensures in
    let next = get_or c.args.old.now 1 0 in
    record {
      numbers = λ r f g. let e = counted c.count_at.ensures.0 g in whole_stands g next (rw e at w) k;
      room_unchanged = k.frame.rest;
    }

pub returns-else-whole : goal.returns-else-whole
returns-else-whole c =
    let J = c.spots.ensures in
    let t = c.take_over.ensures in
    let next = get_or c.args.old.now 1 0 in record {
      numbers = λ r f g.
          let e = counted c.count_at.ensures.0 g in
          let h = given-front J.records g in
          rule_stands h next (λ w. refused c.whole.ensures c.if-whole.false (rw (e, ← J.records) w)) t.frame (t.backing r f h e);
      room_unchanged = t.frame.rest ∙ J.rest;
    }
