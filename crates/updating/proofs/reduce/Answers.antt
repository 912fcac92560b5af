-- `updating::reduce` meets its contract: the room is judged, then the machine reduces. Assumes nothing.
use Rattle.definitions.specs.Table.{table_of}
use Rattle.updating.specs.Turns.{reduces}
use Rattle.updating.proofs.reduce.Goals as goal

pub returns-clause-reduces : goal.returns-clause-reduces
returns-clause-reduces c σ h f = let a = c.args in reduces (table_of a.t.now) a.n a.p σ f c.reduce.new.room c.reduce.result c.if-n-ge-NODES.false (c.reduce.ensures.lands σ h f)
