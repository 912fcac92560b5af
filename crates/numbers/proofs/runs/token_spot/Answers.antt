-- `runs::token_spot` meets its contract: an inserted token is lost, and another is sought. Assumes nothing.
use Rattle.std.proofs.Common.{◌≡◌, ◌+◌, rules, Some}
use Rattle.std.specs.Prelude.{MatchOption}
use Rattle.numbers.specs.Records.{front}
use Rattle.numbers.specs.Spots.{Finds, token_told}
use Rattle.numbers.proofs.runs.token_spot.Goals as goal

pub returns : goal.returns
returns c =
    let old = c.args.old.now.row.now in
    let R = front c.args.room.now in
    let j = c.args.j in
    let p = c.requires in
    let e : MatchOption c.find.result (Finds old R j 0 c.args.from c.or_else.result) (λ k. c.or_else.result ≡ Some k) = search rules in
    let v : MatchOption c.or_else.result (c.map_or.result ≡ 1) (λ k. c.map_or.result + j ≡ 2050 + k) = search rules in
    token_told p.shape.1 c.args.old.now.known p.shape.2 p.j_bound c.find.result c.or_else.result p.from_in_old c.find.ensures e v
