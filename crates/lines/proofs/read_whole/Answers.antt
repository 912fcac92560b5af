-- An accepted tree has 2,048 nodes at most, in a row that holds them.
use Rattle.std.proofs.Common.{arith, ap}
use Rattle.answers.specs.Values.{value_of}
use Rattle.lines.specs.Answered.{few}
use Rattle.lines.proofs.read_whole.Goals as goal

pub put_tree-requires : goal.put_tree-requires
put_tree-requires c =
    let f = few c.read_afresh.ensures.afreshed (ap value_of c.in-Ok.is) in
    (f.nodes, omega arith, omega arith)
