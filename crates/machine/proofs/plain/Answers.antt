-- `machine::plain` meets its contract: the first words of the room are lent on. Assumes nothing.
use Rattle.std.proofs.Common.{◌≡◌, ap, ◌∙◌, arith, length, take, drop, length-drop, length-take-le}
use Rattle.definitions.specs.Table.{table_of}
use Rattle.definitions.specs.Moves.{turn}
use Rattle.machine.specs.Room.{states_end}
use Rattle.machine.specs.Lent.{holds_first, rest_back, did_back}
use Rattle.machine.proofs.plain.Goals as goal
use Rattle.machine.proofs.plain.Goals.{After-unwrap}

-- the words that are lent on
first : (c : After-unwrap) → c.unwrap.result.now ≡ take 16384 c.args.room.now
first c = let w = rw c.unwrap.ensures at c.first_chunk_mut.ensures.cases in w.same

pub turn_in-requires : goal.turn_in-requires
turn_in-requires c =
    let p = c.requires in
    (p.0, p.2, (p.3.0, holds_first (first (goal.at.turn_in-requires c).After-unwrap) p.2 p.3.1))

pub returns : goal.returns
returns c =
    let a = c.args in
    let t = c.turn_in in
    let e = first (goal.at.returns c).After-unwrap in
    let l = c.requires.1 in
    let u = t.ensures.room_unchanged ∙ ap (drop states_end) e in
    let n : length t.new.room ≡ 16384 = omega (arith, ap length u, length-drop states_end t.new.room, length-drop states_end (take 16384 a.room.now), length-take-le 16384 a.room.now l) in record {
      did = λ σ h f N. did_back t.new.room a.room.now n c.requires.2 σ f a.kind a.number (turn (table_of a.t.now) _ σ f) t.result (t.ensures.did σ (holds_first e c.requires.2 h) f N);
      room_unchanged = rest_back t.new.room a.room.now l u;
    }
