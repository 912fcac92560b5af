-- No line is put at first, then one more each time.
use Rattle.std.proofs.Common.{arith, add-one, get_or, ◌+◌, ◌*◌}
use Rattle.lines.specs.Program.{node_lines}
use Rattle.lines.specs.Put.{put-none, put_then}
use Rattle.lines.specs.Numerals.{node_length}
use Rattle.lines.proofs.put_nodes.Goals as goal

pub loop-i-init : goal.loop-i-init
unfolding node_lines
loop-i-init c = record { within = omega arith; few = omega arith; put = put-none _ _ }

pub loop-i-preserved : goal.loop-i-preserved
unfolding node_lines
loop-i-preserved c =
    let p = c.put_node-next.ensures in
    let t = c.args.tree.now in
    let i = c.loop-i.i in
    record {
      within = omega arith;
      few = omega (arith, p.ends, node_length (get_or t (2 + 3 * i) 0) (get_or t (3 + 3 * i) 0) (get_or t (4 + 3 * i) 0));
      put = rw add-one (put_then c.loop-i.invariant.put p);
    }
