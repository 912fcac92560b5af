-- A number and the byte behind it have eleven bytes at most.
use Rattle.std.proofs.Common.{arith, get_or}
use Rattle.lines.specs.Numerals.{part_length}
use Rattle.lines.proofs.put_tree.Goals as goal

pub put_part-line-requires : goal.put_part-line-requires
put_part-line-requires c =
    let a = c.put_word-word.ensures.ends in
    let b = c.put_part-count.ensures.ends in
    omega (arith, part_length (get_or c.args.tree.now 0 0) 32)

pub put_nodes-requires : goal.put_nodes-requires
put_nodes-requires c =
    let a = c.put_word-word.ensures.ends in
    let b = c.put_part-count.ensures.ends in
    let d = c.put_part-line.ensures.ends in
    let t = c.args.tree.now in
    (omega arith, omega (arith, part_length (get_or t 0 0) 32, part_length (get_or t 1 0) 10))
