-- `machine::shift` meets its contract: a token's record is put. Assumes nothing.
use native.Mathlib.Omega.{arith}
use Rattle.definitions.specs.Tree.{mk}
use Rattle.machine.specs.Laws.{shifted-on}
use Rattle.machine.proofs.shift.Goals as goal

pub returns-clause-holds : goal.returns-clause-holds
returns-clause-holds c σ h = let a = c.args in rw c.put.ensures.room_after (shifted-on a.s (mk a.kind a.number) (omega (arith, c.told-room)) c.requires h)
