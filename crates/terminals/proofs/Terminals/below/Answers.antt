-- 64 bits are all that the set has, and below 64 the shift leaves what is not below n.
use Rattle.std.proofs.Common.{arith}
use Rattle.std.proofs.Math.Nat.{lt_of_lt_of_le}
use Rattle.std.proofs.Math.Pow.{pow_mono}
use Rattle.theory.specs.Check.Says.{says_as, says_eq, says_le}
use Rattle.terminals.specs.Members.{below_is}
use Rattle.terminals.proofs.Terminals.below.Goals as goal

pub returns-then-n-ge64 : goal.returns-then-n-ge64
returns-then-n-ge64 c = says_as (says_le _ _) (λ h. lt_of_lt_of_le (omega arith) (pow_mono {i = 64} h)) (λ _. c.if-n-ge64.true)

pub returns-else-n-ge64 : goal.returns-else-n-ge64
returns-else-n-ge64 c = says_as (says_eq _ _) (below_is _ _).1 (below_is _ _).0
