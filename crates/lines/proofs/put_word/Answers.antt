-- Three bytes, one after the other.
use Rattle.std.proofs.Common.{arith}
use Rattle.std.proofs.Math.ListN.{set, length-set}
use Rattle.lines.specs.Put.{put_one, put_then}
use Rattle.lines.proofs.put_word.Goals as goal

pub returns : goal.returns
returns c =
    put_then
    (put_then (put_one c.args.out.now 0 c.args.a (omega arith)) (put_one (set c.args.out.now 0 c.args.a) 1 c.args.b (simp length-set (omega arith))))
    (put_one (set (set c.args.out.now 0 c.args.a) 1 c.args.b) 2 32 (simp length-set (omega arith)))
