-- `blenkysnow::old_tokens` meets its contract: the old tree is judged, then its tokens are counted. Assumes nothing.
use mathlib.Core.Path.{refl, sym, ap, ◌∙◌}
use Prim.Native.Nat.{◌≤◌}
use native.Mathlib.Omega.{arith}
use Rattle.definitions.specs.Sheet.{T as T_of}
use Rattle.definitions.specs.Tree.{NRow, InOrder}
use Rattle.tree.specs.Tokens.{tokens}
use Rattle.tree.specs.Shaped.{Holds, shape_holds, order_shape}
use Rattle.blenkysnow.specs.Update as Update
use Rattle.blenkysnow.specs.Stages.{goes}
use Rattle.blenkysnow.proofs.old_tokens.Goals as goal
use Rattle.blenkysnow.proofs.old_tokens.Goals.{Else-not-in_order}

-- the old tree
tree_of_lem : (c : Else-not-in_order) → let a = c.args in (r : NRow) × InOrder a.t.now a.old.now r
tree_of_lem c = c.in_order.ensures.says.to c.if-not-in_order.false

held : (c : Else-not-in_order) → Holds c.args.old.now
held c = let a = c.args in let T = tree_of_lem c in shape_holds a.t.now a.old.now (T.0, order_shape a.t.now a.old.now T.0 T.1)

pub tokens_in-requires : goal.tokens_in-requires
tokens_in-requires c = let h = held (goal.at.tokens_in-requires c).Else-not-in_order in let n = c.count_at.ensures.0 in (omega (arith, h.0.1), omega (arith, h.1))

pub returns-clause-old_tokens : goal.returns-clause-old_tokens
returns-clause-old_tokens c =
    let a = c.args in
    let o = c.in_order in
    let p = c.requires in
    let T = tree_of_lem (goal.at.returns-clause-old_tokens c).Else-not-in_order in
    let few : T_of a.t.now ≤ 256 = omega (arith, p.0.layout.head.terminals.1) in
    goes _ refl (record {
      layout = p.0.layout;
      roomy = omega (arith, p.1, o.auto.room);
      tree = T.0;
      stands = T.1;
      many = λ r O. sym (c.tokens_in.ensures.0 ∙ ap (tokens a.old.now) c.count_at.ensures.0 ∙ Update.old_tokens a.t.now a.old.now r few O);
    })
