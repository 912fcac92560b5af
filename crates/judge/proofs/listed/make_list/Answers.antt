-- A table that is checked with yes is accepted, and a tree in order has its tokens within the row.
use Rattle.std.proofs.Common.{arith, refl, sym, ap, ◌∙◌, ◌≤◌}
use Rattle.definitions.specs.Sheet.{T as T_of}
use Rattle.definitions.specs.Tree.{NRow, InOrder}
use Rattle.tree.specs.Tokens.{tokens}
use Rattle.tree.specs.Shaped.{Holds, shape_holds, order_shape}
use Rattle.blenkysnow.specs.Afresh.{taken}
use Rattle.blenkysnow.specs.Update as Update
use Rattle.judge.proofs.listed.make_list.Goals as goal
use Rattle.judge.proofs.listed.make_list.Goals.{Else-not-in_order}

-- the old tree
tree_of : (c : Else-not-in_order) → let a = c.args.given in (r : NRow) × InOrder a.table.now a.old.now r
tree_of c = c.in_order.ensures.says.to c.if-not-in_order.false

held : (c : Else-not-in_order) → Holds c.args.given.old.now
held c = let a = c.args.given in let T = tree_of c in shape_holds a.table.now a.old.now (T.0, order_shape a.table.now a.old.now T.0 T.1)

pub in_order-requires : goal.in_order-requires
in_order-requires c = (taken refl c.in_ok-check_table.ensures.checks, omega arith)

pub tokens_in-all-requires : goal.tokens_in-all-requires
tokens_in-all-requires c = let h = held (goal.at.tokens_in-all-requires c).Else-not-in_order in let n = c.count_at.ensures.0 in (omega (arith, h.0.1), omega (arith, h.1))

pub list_words-requires : goal.list_words-requires
list_words-requires c =
    let a = c.args.given in
    let p = taken refl c.in_ok-check_table.ensures.checks in
    let T = tree_of (goal.at.list_words-requires c).Else-not-in_order in
    let few : T_of a.table.now ≤ 256 = omega (arith, p.layout.head.terminals.1) in
    record {
      layout = p.layout;
      roomy = omega arith;
      tree = T.0;
      stands = T.1;
      many = λ r O. sym (c.tokens_in-all.ensures.0 ∙ ap (tokens a.old.now) c.count_at.ensures.0 ∙ Update.old_tokens a.table.now a.old.now r few O);
    }
