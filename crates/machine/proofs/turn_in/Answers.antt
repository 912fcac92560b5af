-- `machine::turn_in` meets its contract: each action of the table leads to the turn that the definitions have for it. Assumes nothing.
use Rattle.std.proofs.Common.{rules, ℕ, ◌≡◌, refl, sym, ◌∙◌, Err}
use Rattle.definitions.specs.Table.{Act, red, table_of}
use Rattle.machine.specs.declared.Act as Code
use Rattle.machine.specs.declared.Act.TheVariants.{Error, Accept, Shift, Reduce}
use Rattle.definitions.specs.Reading.{Stack, top}
use Rattle.theory.specs.Table.Transitions.{red_prod}
use Rattle.machine.specs.declared.Stuck.TheVariants.{NoGoto}
use Rattle.machine.specs.Room.{Holds}
use Rattle.machine.specs.Lookups.{act_is}
use Rattle.machine.specs.Steps.{full_reduce, reduces, lands}
use Rattle.machine.proofs.turn_in.Goals as goal
use Rattle.machine.proofs.turn_in.Goals.{After-act_of}

-- the action that is found
seen : (c : After-act_of) (σ : Stack) {x : Act} → let a = c.args in Holds a.room.now a.n σ → x ≡ (table_of a.t.now).act c.top.result a.kind → x ≡ (table_of a.t.now).act (top σ) a.kind
seen c σ h e = rw (← c.top.ensures σ h) e

-- an action that is no reduction
other : (a : Code.Act) → ((p : ℕ) → a ≡ Reduce p → ⊥) → (p : ℕ) → act_is a ≡ red p → ⊥
other Error k p e = absurd (cc)
other Accept k p e = absurd (cc)
other (Shift s) k p e = absurd (cc)
other (Reduce q) k p e = k q refl

pub reduce-requires : goal.reduce-requires
reduce-requires c =
    let p = c.requires in
    let H = p.2 in
    (p.0, c.if-n-ge-NODES.false, red_prod _ p.0 _ _ _ (sym c.in-Reduce.ensures), H)

pub returns-in_err-reduce-in-Reduce-2-clause-did : goal.returns-in_err-reduce-in-Reduce-2-clause-did
returns-in_err-reduce-in-Reduce-2-clause-did c σ h f N =
    let a = c.args in
    let G = table_of a.t.now in
    let l = c.in_err-reduce-in-Reduce-2.ensures.lands σ h f in
    let e : c.from_residual.result ≡ Err NoGoto = let q = l.0 in search rules in
    rw e (reduces G a.n σ N (seen (goal.at.returns-in_err-reduce-in-Reduce-2-clause-did c).After-act_of σ h c.in-Reduce.ensures) refl c.if-n-ge-NODES.false ∙ l.1)

pub returns-in_ok-reduce-in-Reduce-2-clause-did : goal.returns-in_ok-reduce-in-Reduce-2-clause-did
returns-in_ok-reduce-in-Reduce-2-clause-did c σ h f N =
    let a = c.args in
    let s = seen (goal.at.returns-in_ok-reduce-in-Reduce-2-clause-did c).After-act_of σ h c.in-Reduce.ensures in
    (lands (table_of a.t.now) a.n σ N s refl c.if-n-ge-NODES.false (c.in_ok-reduce-in-Reduce-2.ensures.lands σ h f), c.if-n-ge-NODES.false)

pub returns-in-Reduce-clause-did : goal.returns-in-Reduce-clause-did
returns-in-Reduce-clause-did c σ h f N =
    let a = c.args in
    full_reduce (table_of a.t.now) a.n σ N (seen (goal.at.returns-in-Reduce-clause-did c).After-act_of σ h c.in-Reduce.ensures) refl c.if-n-ge-NODES.true

pub returns-in_default-clause-did : goal.returns-in_default-clause-did
returns-in_default-clause-did c σ h f N =
    let a = c.args in
    c.take.ensures.takes a.t.now σ f h N (seen (goal.at.returns-in_default-clause-did c).After-act_of σ h c.act_of.ensures) (other c.act_of.result c.in_default.not-Reduce)
