-- `updating::update_tree` meets its contract: the room's first words are read in, and wiped behind the reading. Assumes nothing.
use mathlib.Core.Path.{◌≡◌, ap, ◌∙◌}
use lib.ListN.{take}
use Rattle.std.proofs.lemmas.Option.{MatchOption-at_some}
use Rattle.reading.specs.Fresh.{told}
use Rattle.list.specs.Lent.{first_long, rest_back}
use Rattle.updating.specs.Finish.{held-row, listed_first, ready_first, cleared_above}
use Rattle.updating.proofs.update_tree.Goals as goal
use Rattle.updating.proofs.update_tree.Goals.{After-unwrap-first}

-- the words that are lent on
first : (c : After-unwrap-first) → c.unwrap-first.result.now ≡ take 16384 c.args.room.now
first c = (MatchOption-at_some _ _ _ c.unwrap-first.ensures c.first_chunk_mut.ensures.cases).same

pub read_and_write-answer-requires : goal.read_and_write-answer-requires
read_and_write-answer-requires c = (c.requires.0, ready_first (first (goal.at.read_and_write-answer-requires c).After-unwrap-first) c.requires.2)

pub returns : goal.returns
returns c edits r es J L =
    let a = c.read_and_write-answer in
    let e = first (goal.at.returns c).After-unwrap-first in
    let l = a.ensures.above.long ∙ first_long c.args.room.now e c.requires.1 in
    ap (told a.result a.new.tree) (c.wipe.ensures ∙ cleared_above _ c.args.room.now (rest_back _ c.args.room.now l)) ∙ a.ensures.lent_after edits c.args.room.now r es J (listed_first e (held-row J) L)
