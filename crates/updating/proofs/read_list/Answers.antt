-- `updating::read_list` meets its contract: the reading is in the room's first words. Assumes nothing.
use mathlib.Core.Path.{◌≡◌, ◌∙◌}
use lib.ListN.{take}
use Rattle.std.proofs.lemmas.Option.{MatchOption-at_some}
use Rattle.list.specs.Lent.{first_long}
use Rattle.updating.specs.Finish.{listed_first, ends_back, above_back}
use Rattle.updating.proofs.read_list.Goals as goal
use Rattle.updating.proofs.read_list.Goals.{After-unwrap-first}

-- the words that are lent on
first : (c : After-unwrap-first) → c.unwrap-first.result.now ≡ take 16384 c.args.room.now
first c = (MatchOption-at_some _ _ _ c.unwrap-first.ensures c.first_chunk_mut.ensures.cases).same

pub read_words-requires : goal.read_words-requires
read_words-requires c =
    let p = c.requires in
    let e = first (goal.at.read_words-requires c).After-unwrap-first in
    (p.0, p.2, (p.3.0, listed_first e p.2 p.3.1))

pub returns : goal.returns
returns c =
    let w = c.read_words in
    let e = first (goal.at.returns c).After-unwrap-first in
    let l = w.ensures.above.long ∙ first_long c.args.room.now e c.requires.1 in
    record {
      ends = λ f L. ends_back _ c.args.room.now l _ w.result (w.ensures.ends f (listed_first e c.requires.2 L));
      above = above_back _ c.args.room.now l c.requires.1;
    }
