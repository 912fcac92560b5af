-- A reading of pieces ends as the machine ends on their tokens, and its moves never run out.
use Rattle.std.specs.Prelude.{◌≡◌}
use Rattle.std.proofs.Math.Path.{refl, sym}
use Rattle.std.proofs.Common.{ap, ◌∙◌, arith}
use Prim.Native.Nat.{ℕ, zero, suc, ◌+◌, ◌-◌, ◌<◌}
use Rattle.definitions.specs.Table.{Table}
use Rattle.definitions.specs.Tree.{Row, size, yield, row}
use Rattle.definitions.specs.Reading.{Stack, bot, Counts, zeros, Move, Turn, on, stop}
use Rattle.definitions.specs.Moves.{tally, cost, turn, Done, after, read, reading}
use Rattle.theory.specs.Table.Lr.{Rules, Conditions}
use Rattle.theory.specs.Machine.Rows.{yield-row}
use Rattle.theory.specs.Machine.Steps.{run, run_enough}
use Rattle.theory.specs.Machine.Update.{Valid, valid_row, Sim, sim}

module _ (G : Table) where
  -- what a reading goes on to
  abbrev pub rest : ℕ → ℕ → Counts → Move → Stack → Row → Done
  rest n r k m σ f = read G n (r - cost m) (tally m k) σ f

  module _ (R : Rules G) (C : Conditions G) where
    pub same : (n r : ℕ) (k : Counts) (σ : Stack) (f : Row) → Valid G f → r + size f < n → (read G n r k σ f).end ≡ run G r σ (yield f)
    unfolding read Sim
    same zero r k σ f v h = absurd (omega arith)
    same (suc n) r k σ f v h = by (λ r' k' σ' f' v' h'. same n r' k' σ' f' v' h') (turn G r σ f) (sim G R C r σ f v)
      where
        by : ((r' : ℕ) (k' : Counts) (σ' : Stack) (f' : Row) → Valid G f' → r' + size f' < n → (read G n r' k' σ' f').end ≡ run G r' σ' (yield f'))
            → (t : Turn) → Sim G r σ f t → (after (rest n r k) k t).end ≡ run G r σ (yield f)
        by ih (stop e) s = sym s
        by ih (on m σ' f') s =
            let e : cost m + (r - cost m) ≡ r = omega (arith, s.1) in
            ih (r - cost m) (tally m k) σ' f' s.2 (omega (arith, s.1, s.3)) ∙ sym (rw e at (run_enough G (r - cost m) s.0))

    -- more moves than enough change nothing, counts included
    pub steady : (n r : ℕ) (k : Counts) (σ : Stack) (f : Row) → Valid G f → r + size f < n → read G n r k σ f ≡ read G (suc n) r k σ f
    unfolding read Sim
    steady zero r k σ f v h = absurd (omega arith)
    steady (suc n) r k σ f v h = by (λ r' k' σ' f' v' h'. steady n r' k' σ' f' v' h') (turn G r σ f) (sim G R C r σ f v)
      where
        by : ((r' : ℕ) (k' : Counts) (σ' : Stack) (f' : Row) → Valid G f' → r' + size f' < n → read G n r' k' σ' f' ≡ read G (suc n) r' k' σ' f')
            → (t : Turn) → Sim G r σ f t → after (rest n r k) k t ≡ after (rest (suc n) r k) k t
        by ih (stop e) s = refl
        by ih (on m σ' f') s = ih (r - cost m) (tally m k) σ' f' s.2 (omega (arith, s.1, s.3))

    -- so any number of moves that is enough gives the reading
    pub enough : (m n r : ℕ) (k : Counts) (σ : Stack) (f : Row) → Valid G f → r + size f < n → read G n r k σ f ≡ read G (m + n) r k σ f
    enough zero n r k σ f v h = ap (λ x. read G x r k σ f) (omega arith)
    enough (suc m) n r k σ f v h =
        enough m n r k σ f v h ∙ steady (m + n) r k σ f v (omega arith) ∙ ap (λ x. read G x r k σ f) (omega arith)

    pub same_reading : (r : ℕ) (f : Row) → Valid G f → (reading G r f).end ≡ run G r bot (yield f)
    same_reading r f v = same (suc (r + size f)) r zeros bot f v (omega arith)

    -- an update answers what a fresh reading of its text answers
    pub as_afresh : (r : ℕ) (f : Row) → Valid G f → (reading G r f).end ≡ (reading G r (row (yield f))).end
    as_afresh r f v = same_reading r f v ∙ ap (run G r bot) (sym (yield-row (yield f))) ∙ sym (same_reading r (row (yield f)) (valid_row G (yield f)))
