-- `blenkysnow::finish` meets its contract: the refusal, or the update. Assumes nothing.
use Rattle.std.proofs.Common.{sym, ◌∙◌, subst, ℕ}
use Rattle.updating.specs.Turns.{Listed}
use Rattle.updating.specs.Finish.{list}
use Rattle.blenkysnow.specs.Stages.{ok-err, same_ok}
use Rattle.blenkysnow.proofs.finish.Goals as goal

pub returns-in-Ok : goal.returns-in-Ok
returns-in-Ok c =
    let a = c.args in
    record {
      too_small = λ e. absurd (ok-err (sym c.in-Ok.is ∙ e));
      refuses = λ e p n. absurd (ok-err (sym c.in-Ok.is ∙ p));
      reads = λ m p edits r es J l. c.update_tree.ensures edits r es J (subst (λ (k : ℕ). Listed a.t.now a.old.now a.put.now a.room.now k (list J)) (same_ok (sym p ∙ c.in-Ok.is)) l);
    }
