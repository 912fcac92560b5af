-- A number and the byte behind it have eleven bytes at most.
use Rattle.std.proofs.Common.{arith}
use Rattle.lines.specs.Numerals.{part_length}
use Rattle.lines.proofs.put_node.Goals as goal

pub put_part-third-requires : goal.put_part-third-requires
put_part-third-requires c = let e = c.put_part-second.ensures.ends in omega (arith, part_length c.args.kind 32)

pub put_part-requires : goal.put_part-requires
put_part-requires c =
    let d = c.put_part-second.ensures.ends in
    let e = c.put_part-third.ensures.ends in
    omega (arith, part_length c.args.kind 32, part_length c.args.number 32)
