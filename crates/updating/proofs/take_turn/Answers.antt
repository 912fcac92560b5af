-- `updating::take_turn` meets its contract: a reduction is the action's; else the length of the next entry's run says what is next. Assumes
-- nothing.
use mathlib.Core.Path.{◌≡◌, refl, sym, ap, ◌∙◌, subst}
use Rattle.std.specs.Prelude.{Err}
use Prim.Native.Nat.{ℕ}
use native.Mathlib.Omega.{arith}
use lib.ListN.{length}
use Rattle.definitions.specs.Table.{table_of}
use Rattle.definitions.specs.Tree.{Row, yield, look}
use Rattle.definitions.specs.Reading.{Stack, top}
use Rattle.theory.specs.Table.Transitions.{red_prod}
use Rattle.machine.specs.declared.Act as Code
use Rattle.machine.specs.declared.Act.TheVariants.{Error, Accept, Shift, Reduce}
use Rattle.machine.specs.Room.{Holds}
use Rattle.machine.specs.Lookups.{act_is}
use Rattle.machine.specs.Steps.{Stands}
use Rattle.list.specs.Pending.{pending_toks}
use Rattle.updating.specs.Turns.{Listed, Facing, reduced, not_reduced, Other, error, accept, shift, other_not, enters, above_states}
use Rattle.updating.specs.Next.{Faces, faces, nothing_next, stands_look}
use borrow.Author.Rules.{rules}
use Rattle.updating.proofs.take_turn.Goals as goal
use Rattle.updating.proofs.take_turn.Goals.{After-act_of-act, After-entry_at-entry, After-identity_of, Then-run-gt3}

-- the action that is found
seen : (c : After-act_of-act) (σ : Stack) → let a = c.args in Holds a.room.now a.n σ → act_is c.act_of-act.result ≡ (table_of a.t.now).act (top σ) a.look
seen c σ h = let e = c.top-s.ensures σ h in c.act_of-act.ensures ∙ rw e refl

other : (a : Code.Act) → ((p : ℕ) → a ≡ Reduce p → ⊥) → Other (act_is a)
other Error k = error
other Accept k = accept
other (Shift s) k = shift
other (Reduce p) k = absurd (k p refl)

-- what the next entry says
at : (c : After-entry_at-entry) (σ : Stack) (f : Row) → let a = c.args in Holds a.room.now a.n σ → Listed a.t.now a.old.now a.put.now a.room.now a.m f
    → Faces a.t.now a.old.now a.put.now a.room.now a.n a.m c.entry_at-entry.result σ f
at c σ f h L = let k = c.if-m-eq0.false in rw c.entry_at-entry.ensures.0 (faces c.requires.2 h (omega arith) L)

-- a piece next
facing : (c : Then-run-gt3) (σ : Stack) (f : Row) → let a = c.args in Faces a.t.now a.old.now a.put.now a.room.now a.n a.m c.entry_at-entry.result σ f
    → Facing a.t.now a.old.now a.put.now c.next_run-run.result.now a.room.now a.n a.m c.entry_at-entry.result σ f
facing c σ f F = let e = c.next_run-run.ensures in let k = c.if-run-gt3.true in rw e (F.piece (omega (arith, ap length e)))

-- a token next, by its identity
token : (c : After-identity_of) (σ : Stack) (f : Row) → let a = c.args in Faces a.t.now a.old.now a.put.now a.room.now a.n a.m c.entry_at-entry.result σ f
    → Stands f (look 0 (yield f)) c.identity_of.result
token c σ f F =
    let e = c.next_run-run.ensures in
    let k = c.if-run-gt3.false in
    let i = c.identity_of.ensures in
    (F.token (omega (arith, ap length e)) c.identity_of.result (rw e at i)).1

pub reduce-requires : goal.reduce-requires
reduce-requires c =
    let p = c.requires in
    let x = p.3 in
    (p.0, p.1, red_prod _ p.0 _ _ _ (sym (seen (goal.at.reduce-requires c).After-act_of-act x.0 x.2) ∙ ap act_is c.in-Reduce.is), (x.0, x.2))

pub entry_at-entry-requires : goal.entry_at-entry-requires
entry_at-entry-requires c = let x = c.requires.3 in let h = c.if-m-eq0.false in (omega (arith, c.told-room), omega arith, omega (arith, pending_toks x.3.pending, x.3.small))

pub next_run-run-requires : goal.next_run-run-requires
next_run-run-requires c = let x = c.requires.3 in (at (goal.at.next_run-run-requires c).After-entry_at-entry x.0 x.1 x.2 x.3).fits

pub enter-requires : goal.enter-requires
enter-requires c =
    let p = c.requires in
    let x = p.3 in
    (p.0, p.1, p.2, (c.args.put.now, x.0, x.1, facing (goal.at.enter-requires c).Then-run-gt3 x.0 x.1 (at (goal.at.enter-requires c).After-entry_at-entry x.0 x.1 x.2 x.3), c.top-s.ensures x.0 x.2))

pub returns-then-run-gt3 : goal.returns-then-run-gt3
returns-then-run-gt3 c =
    let e = c.enter in record {
      does = λ σ f h L l.
          let F = facing (goal.at.returns-then-run-gt3 c).Then-run-gt3 σ f (at (goal.at.returns-then-run-gt3 c).After-entry_at-entry σ f h L) in
          enters F e.new.room e.result (seen (goal.at.returns-then-run-gt3 c).After-act_of-act σ h) l (other c.act_of-act.result c.in_default.not-Reduce) (e.ensures.by_index c.args.put.now σ f F (c.top-s.ensures σ h));
      above = e.ensures.above;
    }

pub returns-in_err-reduce : goal.returns-in_err-reduce
returns-in_err-reduce c =
    let a = c.args in
    let w = c.in_err-reduce.ensures in
    let r : c.from_residual.result ≡ Err c.in_err-reduce.field-0.0 = search rules in record {
      does = λ σ f h L l. rw r (not_reduced a.n c.in-Reduce.p σ L (seen (goal.at.returns-in_err-reduce c).After-act_of-act σ h) l (ap act_is c.in-Reduce.is) c.in_err-reduce.field-0.0 w.room_unchanged (w.reduces σ h f));
      above = above_states w.room_unchanged (search rules);
    }

pub returns-in-Reduce : goal.returns-in-Reduce
returns-in-Reduce c =
    let a = c.args in
    let w = c.in_ok-reduce.ensures in record {
      does = λ σ f h L l. reduced a.n c.in-Reduce.p σ L (seen (goal.at.returns-in-Reduce c).After-act_of-act σ h) l (ap act_is c.in-Reduce.is) w.room_unchanged (w.reduces σ h f);
      above = above_states w.room_unchanged (search rules);
    }

pub returns-then-m-eq0 : goal.returns-then-m-eq0
returns-then-m-eq0 c =
    let a = c.args in
    let s = c.take_token in
    let o = other_not (other c.act_of-act.result c.in_default.not-Reduce) in record {
      does = λ σ f h L l.
          let N = nothing_next 0 c.if-m-eq0.true L in
          let z = l ∙ sym (stands_look N) in
          s.ensures.takes a.t.now a.old.now a.put.now a.m σ f (record { holds = h; listed = L; stands = subst (λ (k : ℕ). Stands f k 0) (sym z) N; seen = seen (goal.at.returns-then-m-eq0 c).After-act_of-act σ h; other = o });
      above = above_states s.ensures.room_unchanged (search rules);
    }

pub returns : goal.returns
returns c =
    let a = c.args in
    let s = c.take_token-2 in
    let o = other_not (other c.act_of-act.result c.in_default.not-Reduce) in record {
      does = λ σ f h L l.
          let N = token (goal.at.returns c).After-identity_of σ f (at (goal.at.returns c).After-entry_at-entry σ f h L) in
          s.ensures.takes a.t.now a.old.now a.put.now a.m σ f (record { holds = h; listed = L; stands = subst (λ (k : ℕ). Stands f k c.identity_of.result) (sym l) N; seen = seen (goal.at.returns c).After-act_of-act σ h; other = o });
      above = above_states s.ensures.room_unchanged (search rules);
    }
