-- `blenkysnow::update_edits` meets its contract: its three stages tell the call. Assumes nothing.
use Rattle.blenkysnow.specs.Update.{tells'}
use Rattle.blenkysnow.specs.Stages.{may_end, told_all}
use Rattle.edit_lists.specs.Words.{words_of}
use Rattle.blenkysnow.proofs.update_edits.Goals as goal

pub finish-requires : goal.finish-requires
finish-requires c =
    let b = c.begin-n in
    let l = c.list_edits-m in
    may_end b.auto.room l.auto.room b.ensures l.ensures

pub returns : goal.returns
returns c =
    let a = c.args in
    let b = c.begin-n in
    let l = c.list_edits-m in
    let q = tells' a.table.now a.old.now (words_of a.edits.now) a.put.now a.tree.now a.room.now (told_all b.auto.room l.auto.room b.ensures l.ensures c.finish.ensures) in
    record { room_after = q.0; updated_all = q.1 }
