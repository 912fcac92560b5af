-- `list::peek` meets its contract: the next entry's run begins with what stands next. Assumes nothing.
use mathlib.Core.Path.{◌≡◌, sym, ap, ◌∙◌, subst}
use mathlib.Core.List.{List}
use Prim.Native.Nat.{ℕ, suc, ◌+◌, ◌-◌, ◌≤◌}
use native.Mathlib.Omega.{arith}
use lib.ListN.{length, get_or}
use Rattle.definitions.specs.Sheet.{T}
use Rattle.definitions.specs.Tree.{Row}
use Rattle.list.specs.Pending.{list_at, Pending, next}
use Rattle.list.specs.Runs.{Fits, run_of, first_of}
use Rattle.list.specs.Peek.{Peeks, peeks}
use Rattle.list.proofs.peek.Goals as goal
use Rattle.list.proofs.peek.Goals.{Else-m-eq0}

-- the entry on top of the list
top : (c : Else-m-eq0) (t : List ℕ) (f : Row) → let a = c.args in T t ≤ 256 → Pending t a.old.now a.put.now a.room.now a.m f
    → Peeks a.old.now a.put.now (get_or a.room.now (list_at + (a.m - 1)) 0) f
top c t f few p =
    let a = c.args in
    let h = c.if-m-eq0.false in
    let e : a.m ≡ suc (a.m - 1) = omega arith in
    peeks c.requires.2 few (next (a.m - 1) (subst (λ (m : ℕ). Pending t a.old.now a.put.now a.room.now m f) e p))

pub next_run-run-requires : goal.next_run-run-requires
next_run-run-requires c =
    let x = c.requires.3 in
    subst (λ (e : ℕ). Fits c.args.old.now c.args.put.now e) (sym c.entry_at.ensures.0) (top (goal.at.next_run-run-requires c).Else-m-eq0 x.0 x.1 x.2 x.3).fits

pub returns-then-run-eq1 : goal.returns-then-run-eq1
returns-then-run-eq1 c t f few p =
    let T = top (goal.at.returns-then-run-eq1 c).Else-m-eq0 t f few p in
    let a = c.args in
    let r = c.next_run-run.ensures ∙ ap (run_of a.old.now a.put.now) c.entry_at.ensures.0 in
    ap (λ (l : List ℕ). get_or l 0 0) r ∙ T.code (sym (ap length r) ∙ c.if-run-eq1.true)

pub returns-else-run-eq1 : goal.returns-else-run-eq1
returns-else-run-eq1 c t f few p =
    let T = top (goal.at.returns-else-run-eq1 c).Else-m-eq0 t f few p in
    let a = c.args in
    let r = c.next_run-run.ensures ∙ ap (run_of a.old.now a.put.now) c.entry_at.ensures.0 in
    c.first_token.ensures ∙ ap first_of r ∙ T.piece (λ e. c.if-run-eq1.false (ap length r ∙ e))
