-- `first::Rounds::turn` meets its contract: one production is looked at. Assumes nothing.
use Rattle.std.proofs.Common.{◌≡◌, ◌+◌, ℕ, true, sym, ap, subst, ◌∙◌, arith, set}
use Rattle.std.proofs.Math.Path.{subst⁻¹}
use Rattle.std.proofs.lemmas.Bool.{eqb-false}
use Rattle.definitions.specs.Sheet.{left}
use Rattle.terminals.specs.Members.{Join}
use Rattle.grammar.specs.First.{set_at, Turn}
use Rattle.grammar.specs.Turns.{turn-set}
use Rattle.grammar.proofs.first.Rounds.turn.Goals as goal
use Rattle.grammar.proofs.first.Rounds.turn.Goals.{After-join-new}

-- the entry that is read, and what is joined to it
side : (c : After-join-new) → c.from-n.result ≡ left c.args.self.now.grammar.now.sheet.now c.args.p
side c = c.from-n.ensures ∙ c.left.ensures.0

old : (c : After-join-new) → let s = c.args in
    set_at s.sets.now c.from-n.result ≡ set_at s.sets.now (left s.self.now.grammar.now.sheet.now s.p)
old c = ap (set_at c.args.sets.now) (side c)

joined : (c : After-join-new) → let s = c.args in
    Join (set_at s.sets.now (left s.self.now.grammar.now.sheet.now s.p)) c.gather.result.bits c.join-new.result.bits
joined c = subst (λ (n : ℕ). Join n c.gather.result.bits c.join-new.result.bits) (old c) c.join-new.ensures

pub returns : goal.returns
returns c =
    let t = c.args.self.now.grammar.now.sheet.now in
    let fs = c.args.sets.now in
    let a = (goal.at.returns c).After-join-new in
    subst⁻¹ (λ (n : ℕ). Turn t c.args.p (c.args.p + 1) fs (set fs n c.join-new.result) true) (side a)
    (turn-set t fs c.args.p c.gather.result.bits c.join-new.result c.gather.ensures (joined a) c.args.self.now.grammar.now.laid c.requires
    (omega (arith, c.left.ensures)) (omega (arith, c.join-new.type_inv))
    (λ e. eqb-false _ _ (sym c.eq.ensures ∙ c.if-eq.false) (e ∙ sym (old a))))
