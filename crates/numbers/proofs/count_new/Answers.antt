-- `numbers::count_new` meets its contract: of the records those are counted that keep no number. Assumes nothing.
use Rattle.std.proofs.Common.{◌≡◌, ◌∙◌, arith, rules, tests, length, is_none}
use Rattle.std.proofs.lemmas.Iterator.{YieldsList-from_range}
use Rattle.std.proofs.lemmas.Iterator.Consumers.{YieldsList-from_filter, count_from_yields_List}
use Rattle.std.specs.List.{filter, range_with_len}
use Rattle.numbers.specs.Records.{front, number_of}
use Rattle.numbers.specs.Kept.{kept, news_kept}
use Rattle.numbers.proofs.count_new.Goals as goal

pub returns : goal.returns
returns c =
    let R = front c.args.room.now in
    let n = c.args.n in
    let k : c.count.result ≡ length (filter (λ j. is_none (kept (number_of R j))) (range_with_len 0 n)) =
    count_from_yields_List c.filter.result _ c.count.ensures.ran (YieldsList-from_filter _ (λ j. is_none (kept (number_of R j))) (YieldsList-from_range 0 n n c.filter.ensures.source (omega arith)) c.filter.ensures.closure (λ x r q k. search (rules, tests))) in
    k ∙ news_kept R n
