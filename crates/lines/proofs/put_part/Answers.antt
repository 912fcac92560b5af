-- A number has ten digits at most.
use Rattle.std.proofs.Common.{arith}
use Rattle.lines.specs.Numerals.{decimal-length}
use Rattle.lines.proofs.put_part.Goals as goal

pub put_byte-requires : goal.put_byte-requires
put_byte-requires c = let e = c.put_number-next.ensures.ends in omega (arith, decimal-length c.args.n)
