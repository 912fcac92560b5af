-- `blenkysnow::tests::update_narrow`: its three stages, each as the one before leaves the room.
use Rattle.blenkysnow.specs.Stages.{may_end}
use Rattle.blenkysnow.proofs.tests.update_narrow.Goals as goal

pub finish-requires : goal.finish-requires
finish-requires c =
    let b = c.begin-n in
    let l = c.judged_list-m in
    may_end b.auto.room l.auto.room b.ensures l.ensures
