-- The records are all of the row's words, since the edits are in order.
use Rattle.std.proofs.Common.{◌≡◌}
use Rattle.edits.specs.Words.{record_of, words_of, edits-words}
use Rattle.edits.proofs.make_list.Goals as goal
use Rattle.edits.proofs.make_list.Goals.{After-as_chunks}

words : (c : After-as_chunks) → words_of record_of c.as_chunks.result.0.now ≡ c.args.edits.now
words c = let u = c.requires.by_index in let s = c.as_chunks.ensures in edits-words c.args.edits.now u.2 u.5.records s.front

pub make_list_of-requires-clause-by_index : goal.make_list_of-requires-clause-by_index
make_list_of-requires-clause-by_index c = rw (words (goal.at.make_list_of-requires-clause-by_index c).After-as_chunks) c.requires.by_index

pub returns-clause-by_index_2 : goal.returns-clause-by_index_2
returns-clause-by_index_2 c = rw (words (goal.at.returns-clause-by_index_2 c).After-as_chunks) at c.make_list_of.ensures.by_index_2
