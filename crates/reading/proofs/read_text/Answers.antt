-- `reading::read_text` meets its contract: the room is wiped of what the machine held. Assumes nothing.
use Rattle.std.proofs.Common.{ap, ◌∙◌, drop}
use Rattle.machine.specs.Room.{states_end}
use Rattle.machine.specs.Wiped.{cleared-front}
use Rattle.reading.specs.Fresh.{told}
use Rattle.reading.proofs.read_text.Goals as goal

pub returns : goal.returns
returns c =
    let r = c.read-a in
    let room = c.args.room.now in
    let w = rw c.unwrap-front.ensures at c.first_chunk_mut.ensures.cases in
    ap (told r.result r.new.tree) (c.wipe.ensures ∙ cleared-front r.new.room room w.enough (r.ensures.room_unchanged ∙ ap (drop states_end) w.same)) ∙ r.ensures.tells room
