-- `machine::reduce` meets its contract: the pieces popped are found by their sizes, and the node over them is put. Assumes nothing.
use Rattle.std.proofs.Common.{rules, arith, refl, ap, subst, ℕ, Err, ◌≤◌, ◌≡◌, length}
use Rattle.std.specs.Prelude as Prelude
use Rattle.definitions.specs.Table.{table_of}
use Rattle.definitions.specs.Reading.{Stack, top}
use Rattle.machine.specs.Room.{Holds}
use Rattle.machine.specs.Lookups.{goto_is}
use Rattle.machine.specs.Back.{Backing, Backs, back_size, popped, nowhere, landed}
use Rattle.machine.specs.declared.Stuck.TheVariants.{NoGoto}
use Rattle.machine.proofs.reduce.Goals as goal
use Rattle.machine.proofs.reduce.Goals.{In_ok-pos, After-goto_of}

-- what the pop finds
found : (c : In_ok-pos) (σ : Stack) → let a = c.args in Holds a.room.now a.n σ → Backing a.room.now (length ((table_of a.t.now).rhs a.p)) σ 0 c.in_ok-pos.pos
found c σ h =
    let a = c.args in
    subst (λ (x : Prelude.Option ℕ). Backs a.room.now (length ((table_of a.t.now).rhs a.p)) σ x) c.in_ok-pos.ensures.ok_part
    (subst (λ (d : ℕ). Backs a.room.now d σ c.pop_to.result) c.length_of.ensures (c.pop_to.ensures σ h))

low : (c : In_ok-pos) → c.in_ok-pos.pos ≤ c.args.n
low c = let x = c.requires.3 in omega (arith, back_size x.1 (found c x.0 x.1))

-- the goto that is found
went : (c : After-goto_of) {σ : Stack} → let a = c.args in Holds a.room.now c.in_ok-pos.pos σ → goto_is c.goto_of.result ≡ (table_of a.t.now).goto (top σ) ((table_of a.t.now).lhs a.p)
went c {σ} h = let e = c.top.ensures σ h in cc

pub top-requires : goal.top-requires
top-requires c = let l = low (goal.at.top-requires c).In_ok-pos in omega arith

pub overflow_sub-n : goal.overflow_sub-n
overflow_sub-n c = low (goal.at.overflow_sub-n c).In_ok-pos

pub returns-in_err-to-clause-lands : goal.returns-in_err-to-clause-lands
returns-in_err-to-clause-lands c σ h f =
    let a = c.args in
    let B = found (goal.at.returns-in_err-to-clause-lands c).In_ok-pos σ h in
    let w = went (goal.at.returns-in_err-to-clause-lands c).After-goto_of (popped h B) in
    let e : c.from_residual-in_err-to.result ≡ Err NoGoto = search rules in
    rw e (refl, nowhere (table_of a.t.now) f a.p h B w (ap goto_is c.in_err-to.ensures.ok_part))

pub returns-clause-lands : goal.returns-clause-lands
returns-clause-lands c σ h f =
    let a = c.args in
    let pre = c.requires in
    let B = found (goal.at.returns-clause-lands c).In_ok-pos σ h in
    let w = went (goal.at.returns-clause-lands c).After-goto_of (popped h B) in
    rw c.put.ensures.room_after (landed (table_of a.t.now) f a.p h B w _ (ap goto_is c.in_ok-to.ensures.ok_part) (omega (arith, c.told-room)) pre.1)
