-- `list::tokens_of` meets its contract: a piece's tokens are the difference of two counts. Assumes nothing.
use Rattle.std.proofs.Common.{◌≡◌, ap, List, ℕ, suc, ◌+◌, ◌-◌, ◌≤◌, ◌<◌, get_or, arith}
use Rattle.definitions.specs.Tree.{Row}
use Rattle.tree.specs.Rows.{size_at}
use Rattle.list.specs.Entries.{entry-piece}
use Rattle.list.specs.Pending.{tokens_at}
use Rattle.list.specs.Weigh.{Weighed, Weighs, weight}
use Rattle.list.proofs.tokens_of.Goals as goal
use Rattle.list.proofs.tokens_of.Goals.{In-Piece, After-size_at}

within : (c : In-Piece) → let v = c.in-Piece.v in (v < get_or c.args.old.now 0 0) × (size_at c.args.old.now v ≤ suc v)
within c =
    let e = entry-piece c.args.entry c.in-Piece.v c.in-Piece.ensures in
    let p = (weight c.requires.1.4).piece e.0 in
    (rw e.1 p.0, rw e.1 p.1)

-- the two counts, as they are read
module _ (c : After-size_at) where
  abbrev to : ℕ
  to = get_or c.args.room.now (tokens_at + (c.in-Piece.v + 1)) 0

  abbrev from : ℕ
  from = get_or c.args.room.now (tokens_at + (c.in-Piece.v + 1 - c.size_at.result)) 0

  counts : (t put : List ℕ) (m : ℕ) (f : Row) → Weighed t c.args.old.now put c.args.room.now m c.args.entry f
      → (from ≤ to) × Weighs t c.args.old.now put c.args.room.now m (to - from) f
  counts t put m f W =
      let v = c.in-Piece.v in
      let e = entry-piece c.args.entry v c.in-Piece.ensures in
      let p = (weight W).piece e.0 in
      let a : v + 1 ≡ suc v = omega arith in
      let b : suc v - c.size_at.result ≡ suc v - size_at c.args.old.now v = ap (suc v -◌) c.size_at.ensures.0 in
      rw (a, b, e.1) (p.2, p.3)

pub overflow_sub-start : goal.overflow_sub-start
overflow_sub-start c = omega (arith, (within (goal.at.overflow_sub-start c).In-Piece).1, c.size_at.ensures.0)

pub overflow_sub-result : goal.overflow_sub-result
overflow_sub-result c = let x = c.requires.1 in (counts (goal.at.overflow_sub-result c).After-size_at x.0 x.1 x.2 x.3 x.4).0

pub returns-in-Piece-clause-by_index : goal.returns-in-Piece-clause-by_index
returns-in-Piece-clause-by_index c t put m f W = (counts (goal.at.returns-in-Piece-clause-by_index c).After-size_at t put m f W).1

pub returns-in-Piece-clause-upper_bound : goal.returns-in-Piece-clause-upper_bound
returns-in-Piece-clause-upper_bound c =
    let x = c.requires.1 in
    let o = counts (goal.at.returns-in-Piece-clause-upper_bound c).After-size_at x.0 x.1 x.2 x.3 x.4 in
    omega (arith, o.1.is, x.4.small)
