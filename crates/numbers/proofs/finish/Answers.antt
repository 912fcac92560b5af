-- `numbers::finish` meets its contract: the first words of the room are lent on. Assumes nothing.
use mathlib.Core.Path.{◌≡◌, sym, ap, ◌∙◌, subst}
use mathlib.Core.List.{List}
use Prim.Native.Nat.{ℕ}
use lib.ListN.{take, drop}
use Rattle.definitions.specs.Tree.{Row, NRow}
use Rattle.machine.specs.Room.{states_end}
use Rattle.numbers.specs.Given.{Given}
use Rattle.numbers.specs.Lent.{given_lent, rest_back}
use Rattle.numbers.proofs.finish.Goals as goal
use Rattle.numbers.proofs.finish.Goals.{After-unwrap}

-- the words that are lent on
first : (c : After-unwrap) → c.unwrap.result.now ≡ take 16384 c.args.room.now
first c = let w = rw c.unwrap.ensures at c.first_chunk_mut.ensures.cases in w.same

given : (c : After-unwrap) (r : NRow) (f : Row) → let a = c.args in Given a.old.now a.room.now a.n r f → Given a.old.now c.unwrap.result.now a.n r f
given c r f G = subst (λ (l : List ℕ). Given c.args.old.now l c.args.n r f) (sym (first c)) (given_lent G)

pub number_tree-requires : goal.number_tree-requires
number_tree-requires c = let q = c.requires.2 in (c.requires.0, (q.0, (q.1.0, given (goal.at.number_tree-requires c).After-unwrap q.0 q.1.0 q.1.1)))

pub returns : goal.returns
returns c =
    let t = c.number_tree in
    let w = (goal.at.returns c).After-unwrap in record {
      answers = λ r f G. t.ensures.answers r f (given w r f G);
      room_unchanged = rest_back t.new.room c.args.room.now c.requires.1 (t.ensures.room_unchanged ∙ ap (drop states_end) (first w));
    }
