-- `machine::pop_to` meets its contract: each turn goes back over one piece. Assumes nothing.
use Rattle.std.proofs.Common.{rules, arith, subst, ℕ, suc, List, ◌+◌, ◌*◌, ◌-◌, ◌<◌, ◌≤◌, ◌≡◌, get_or}
use Rattle.definitions.specs.Reading.{Stack}
use Rattle.machine.specs.Room.{Holds}
use Rattle.machine.specs.Back.{Backing, begin, back1, none_left}
use Rattle.machine.proofs.pop_to.Goals as goal
use Rattle.machine.proofs.pop_to.Goals.{In_ok-last}

-- what is left to pop is one piece and the rest
next : {r : List ℕ} {d i pos : ℕ} {σ : Stack} → i < d → Backing r d σ (d - i) pos → Backing r d σ (suc (d - (i + 1))) pos
next {r} {d} {i} {pos} {σ} l b = subst (λ (j : ℕ). Backing r d σ j pos) (omega arith) b

-- one piece further back
one : (c : In_ok-last) (σ : Stack) → let a = c.args in let l = c.loop in let x = get_or a.room.now (3 * c.in_ok-last.last + 2) 0 in Holds a.room.now a.n σ
    → (x ≤ l.pos) × Backing a.room.now a.d σ (a.d - (l.counter + 1)) (l.pos - x)
one c σ h =
    let e = c.in_ok-last.ensures in
    let q : 3 * c.in_ok-last.last + 2 ≡ 3 * c.loop.pos - 1 = omega arith in
    rw q (back1 h (next c.loop-test.true (c.loop.invariant.1 σ h)) (omega arith))

pub loop-init : goal.loop-init
loop-init c = let a = c.args in (search rules, λ σ h. subst (λ (j : ℕ). Backing a.room.now a.d σ j a.n) (omega arith) (begin a.d h))

pub returns-in_err-last : goal.returns-in_err-last
returns-in_err-last c σ h =
    let a = c.args in
    let l = c.loop in
    let z : l.pos ≡ 0 = omega (arith, c.in_err-last.ensures) in
    let b = next c.loop-test.true (l.invariant.1 σ h) in
    rw c.from_residual.ensures (none_left (rw z at b))

pub overflow_sub-pos : goal.overflow_sub-pos
overflow_sub-pos c = let p = c.requires.1 in (one (goal.at.overflow_sub-pos c).In_ok-last p.0 p.1).0

pub loop-preserved : goal.loop-preserved
loop-preserved c = (search rules, λ σ h. (one (goal.at.loop-preserved c).In_ok-last σ h).1)

pub returns : goal.returns
returns c σ h =
    let a = c.args in
    let l = c.loop in
    subst (λ (j : ℕ). Backing a.room.now a.d σ j l.pos) (omega arith) (l.invariant.1 σ h)
