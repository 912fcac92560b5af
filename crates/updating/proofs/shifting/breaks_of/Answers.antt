-- `updating::shifting::breaks_of` meets its contract: each turn is one break. Assumes nothing.
use mathlib.Core.Path.{◌≡◌, refl, sym, subst}
use mathlib.Core.List.{List}
use Prim.Native.Nat.{ℕ, ◌+◌, ◌-◌, ◌≤◌, ◌<◌}
use native.Mathlib.Omega.{arith}
use native.Mathlib.Decide.{dec_le}
use Rattle.definitions.specs.Table.{table_of}
use Rattle.definitions.specs.Tree.{Row, toks}
use Rattle.definitions.specs.Moves.{standing}
use Rattle.theory.specs.Records.Flat.{flat, length-flat}
use Rattle.updating.specs.Records.{cell, Reads}
use Rattle.updating.specs.Cut.{standing-size}
use Rattle.updating.specs.Break.{Breaking, all_left, none_left, Broken, broken}
use Rattle.updating.proofs.shifting.breaks_of.Goals as goal
use Rattle.updating.proofs.shifting.breaks_of.Goals.{In-loop-pos}

-- what the next break comes to
one : (c : In-loop-pos) (t : List ℕ) (f : Row) → let a = c.args in let l = c.loop-pos in Reads (table_of t) a.nodes.now (flat f) → a.m ≡ standing f → 0 < toks f
    → Broken f a.m l.k l.pos (cell a.nodes.now (l.pos - 1) 2)
one c t f R q s = broken R (c.loop-pos.invariant.3 t f R q s) c.loop-pos-test.true

witness : (c : In-loop-pos) → let a = c.args in let x = c.requires.1 in let l = c.loop-pos in
    Broken x.1 a.m l.k l.pos (cell a.nodes.now (l.pos - 1) 2)
witness c = let x = c.requires.1 in one c x.0 x.1 x.2 x.3 x.4

step : (c : In-loop-pos) (t : List ℕ) (f : Row) → let a = c.args in let l = c.loop-pos in Reads (table_of t) a.nodes.now (flat f) → a.m ≡ standing f → 0 < toks f
    → (s r : ℕ) → s ≡ cell a.nodes.now (l.pos - 1) 2 → ((a.m + s ≤ l.pos → r ≡ l.pos - s) × (l.pos < a.m + s → r ≡ l.pos - 1)) × (r < l.pos) → Breaking f a.m (l.k + 1) r
step c t f R q u s r w e =
    let a = c.args in
    let l = c.loop-pos in
    let B = subst (λ (n : ℕ). Broken f a.m l.k l.pos n) (sym w) (one c t f R q u) in
    by B (dec_le (a.m + s) l.pos)
  where
    by : Broken f c.args.m c.loop-pos.k c.loop-pos.pos s → Dec (c.args.m + s ≤ c.loop-pos.pos) → Breaking f c.args.m (c.loop-pos.k + 1) r
    by B (yes h) = rw (e.0.0 h) (B.off h)
    by B (no h) = let g : c.loop-pos.pos < c.args.m + s = omega arith in rw (e.0.1 g) (B.opened g)

least : (c : In-loop-pos) → let a = c.args in let l = c.loop-pos in (s r : ℕ) → s ≡ cell a.nodes.now (l.pos - 1) 2
    → ((a.m + s ≤ l.pos → r ≡ l.pos - s) × (l.pos < a.m + s → r ≡ l.pos - 1)) × (r < l.pos) → a.m ≤ r
least c s r w e =
    let x = c.requires.1 in
    let B = step c x.0 x.1 x.2 x.3 x.4 s r w e in
    omega (arith, B.many, B.stands, standing-size B.left)

pub loop-pos-init : goal.loop-pos-init
loop-pos-init c =
    let p = c.requires in
    let x = p.1 in (
      omega arith,
      omega (arith, p.0),
      omega (arith, x.3, standing-size x.1, x.2.many, length-flat x.1),
      λ t f R e s. all_left f _ _ e (omega (arith, R.many, length-flat f)) s,
    )

pub before_break-pos-requires : goal.before_break-pos-requires
before_break-pos-requires c =
    let b = witness (goal.at.before_break-pos-requires c).In-loop-pos in
    let l = c.loop-pos in
    (omega (arith, b.some), omega (arith, b.within), c.loop-pos-test.true, omega (arith, l.invariant.1))

pub loop-pos-preserved : goal.loop-pos-preserved
loop-pos-preserved c =
    let l = c.loop-pos in
    let e = c.before_break-pos.ensures in
    let m = c.args.m in
    let r = c.before_break-pos.result in (
      omega (arith, l.invariant.0, e.1),
      omega (arith, l.invariant.1, e.1),
      least (goal.at.loop-pos-preserved c).In-loop-pos _ _ refl e,
      λ t f R q s. step (goal.at.loop-pos-preserved c).In-loop-pos t f R q s _ _ refl e,
    )

pub returns : goal.returns
returns c t f R q s =
    let l = c.loop-pos in
    let m = c.args.m in
    let e : l.pos ≡ m = omega (arith, l.invariant.2) in
    sym (none_left (subst (λ (p : ℕ). Breaking f m l.k p) e (l.invariant.3 t f R q s)))
