-- A number and the byte behind it have eleven bytes at most.
use Rattle.std.proofs.Common.{arith}
use Rattle.lines.specs.Numerals.{part_length}
use Rattle.lines.proofs.put_refusal.Goals as goal

pub put_part-requires : goal.put_part-requires
put_part-requires c =
    let d = c.put_word-word.ensures.ends in
    let e = c.put_part-next.ensures.ends in
    omega (arith, part_length c.args.number 32)
