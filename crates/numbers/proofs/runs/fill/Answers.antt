-- `runs::fill` meets its contract: where the run ends, and its words. Assumes nothing.
use mathlib.Core.List.{List}
use Prim.Native.Nat.{ℕ, ◌+◌, ◌≤◌}
use native.Mathlib.Omega.{arith}
use Rattle.std.proofs.Common.{rules}
use Rattle.numbers.specs.Records.{front, Shape}
use Rattle.numbers.specs.Runs.{Stops, Started, shift-low, filling, fill_run}
use Rattle.numbers.proofs.runs.fill.Goals as goal
use Rattle.numbers.proofs.runs.fill.Goals.{After-run_end-e, Else-r-lt2}

-- the old place of the next record is a number
low : (c : Else-r-lt2) → 2050 ≤ c.args.r.at + c.args.r.shift
low c = let p = c.requires.started in shift-low p.1 c.args.old.now.known p.2 c.if-r-lt2.false

-- where the run ends
stops : (c : After-run_end-e) (lent : List ℕ) → let a = c.args in let o = a.old.now in Shape (front lent) a.n → Started o.row.now lent o.nodes a.n a.room.now a.r
    → Stops o.row.now (front lent) o.nodes a.r.shift a.n a.r.at c.run_end-e.result
stops c lent S K = rw K.judging.records at c.run_end-e.ensures

pub overflow_sub-e : goal.overflow_sub-e
overflow_sub-e c =
    let x = c.requires.started in
    let E = stops (goal.at.overflow_sub-e c).After-run_end-e x.0 x.1 x.2 in
    omega (arith, E.low, low (goal.at.overflow_sub-e c).Else-r-lt2)

pub returns : goal.returns
returns c =
    let o = c.args.old.now in
    let x = c.requires.started in
    let g = c.if-r-lt2.false in
    record {
      walking = λ lent S K.
          let E = stops (goal.at.returns c).After-run_end-e lent S K in
          fill_run S o.known K E (c.put_run.ensures o.row.now lent o.nodes o.known g K.judging (filling S o.known K g) E.met) (search rules);
      on = (stops (goal.at.returns c).After-run_end-e x.0 x.1 x.2).low;
    }
