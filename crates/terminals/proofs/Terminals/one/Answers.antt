-- Below 64 the shift loses nothing, and the law of a set of one does the rest.
use Rattle.std.proofs.Math.Nat.{one-mul, mod-eq_of_lt}
use Rattle.std.proofs.Math.Pow.{pow-lt}
use Rattle.terminals.specs.Members.{one_is}
use Rattle.terminals.proofs.Terminals.one.Goals as goal

pub returns : goal.returns
returns c = rw (one-mul, mod-eq_of_lt (pow-lt c.requires)) (one_is _)
