-- `reading::write` meets its contract: after j turns the first j records stand in the tree. Assumes nothing.
use Rattle.std.proofs.Common.{arith, ap, ◌∙◌, ℕ, List, [], ◌∷◌, ◌+◌, ◌*◌, ◌≡◌, get_or, length, set, length-set}
use Rattle.std.proofs.Math.Seq.{paste, paste-zero}
use Rattle.reading.specs.Write.{sofar, three, row_more, sofar_all}
use Rattle.reading.proofs.write.Goals as goal

pub loop-j-init : goal.loop-j-init
loop-j-init c = paste-zero _ 2 []

pub loop-j-preserved : goal.loop-j-preserved
loop-j-preserved c =
    let a = c.args in
    let l = c.loop-j in
    let r = a.room.now in
    let at = 2 + 3 * l.j in
    let w = get_or r (3 * l.j) 0 ∷ (a.first + l.j) ∷ get_or r (3 * l.j + 2) 0 ∷ [] in
    let t = set (set a.tree.now 0 a.n) 1 (a.first + a.n) in
    let k : length l.tree ≡ length a.tree.now = l.auto.tree ∙ simp length-set in
    three l.tree at _ _ _ (omega arith)
    ∙ ap (λ (x : List ℕ). paste x at w 3) l.invariant
    ∙ row_more a.first r t l.j (simp length-set (omega arith))

pub returns : goal.returns
returns c =
    let a = c.args in
    let l = c.loop-j in
    let t = set (set a.tree.now 0 a.n) 1 (a.first + a.n) in
    let e : l.j ≡ a.n = omega arith in
    l.invariant ∙ ap (sofar a.first a.room.now t) e ∙ sofar_all a.first a.room.now a.tree.now a.n (omega arith)
