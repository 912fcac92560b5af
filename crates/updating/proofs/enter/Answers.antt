-- `updating::enter` meets its contract: the goto says which of the two moves. Assumes nothing.
use mathlib.Core.Path.{◌≡◌, refl, sym, ◌∙◌, subst}
use Rattle.std.specs.Prelude.{Option, Err, List}
use mathlib.Core.Option.{some}
use Prim.Native.Nat.{ℕ, ◌-◌}
use native.Mathlib.Omega.{arith}
use Rattle.definitions.specs.Table.{table_of}
use Rattle.definitions.specs.Tree.{Row, ◌⧺◌}
use Rattle.definitions.specs.Reading.{Stack, top}
use Rattle.definitions.specs.Moves.{tokened}
use Rattle.theory.specs.Table.Sides.{prods_is}
use Rattle.machine.specs.Lookups.{goto_is}
use Rattle.list.specs.Pieces.{root, inside}
use Rattle.updating.specs.declared.shifting.Whole.{Whole}
use Rattle.updating.specs.Shift.{Shifts}
use Rattle.updating.specs.Turns.{Facing, ripe, opens, short, no_goto, a_goto, left-broken, shifted_whole, no_room, list_stands, above_list, above_states}
use Rattle.machine.specs.declared.Stuck.TheVariants.{NoRoom}
use borrow.Author.Rules.{rules}
use Rattle.updating.proofs.enter.Goals as goal
use Rattle.updating.proofs.enter.Goals.{After-goto_of, After-shift_whole}

-- the goto that is found
seen : (c : After-goto_of) (put : List ℕ) (σ : Stack) (f : Row) → let a = c.args in (F : Facing a.t.now a.old.now put a.run.now a.room.now a.n a.m a.v σ f)
    → a.s ≡ top σ → goto_is c.goto_of.result ≡ (table_of a.t.now).goto (top σ) ((table_of a.t.now).lhs F.prod)
seen c put σ f F e =
    let a = c.args in
    let k = c.kind_at.ensures.0 ∙ (root F.piece).kind in
    let z : c.kind_at.result - 256 ≡ F.prod = omega arith in
    c.goto_of.ensures ∙ rw (e, c.left_of-left.ensures, z) refl

pub overflow_sub-kind_at : goal.overflow_sub-kind_at
overflow_sub-kind_at c = let F = c.requires.3.3 in omega (arith, (root F.piece).kind, c.kind_at.ensures.0)

pub left_of-left-requires : goal.left_of-left-requires
left_of-left-requires c =
    let p = c.requires in
    let F = p.3.3 in
    (p.0, omega (arith, (root F.piece).kind, c.kind_at.ensures.0, (inside F.piece).prod.below, prods_is c.args.t.now))

pub open-requires : goal.open-requires
open-requires c =
    let p = c.requires in
    let x = p.3 in
    (omega (arith, c.told-room), p.2, (c.args.t.now, x.0, tokened x.3.kids ⧺ x.3.rest, opens x.3))

pub shift_whole-requires : goal.shift_whole-requires
shift_whole-requires c =
    let p = c.requires in
    let x = p.3 in
    (p.0, p.1, short x.3 p.2, (x.1, x.3.prod, x.3.kids, ripe x.3))

-- what the whole shift came to
whole : {w : Option Whole} (c : After-shift_whole) (put : List ℕ) (σ : Stack) (f : Row) → let a = c.args in (F : Facing a.t.now a.old.now put a.run.now a.room.now a.n a.m a.v σ f) → c.shift_whole.result ≡ w
    → Shifts (table_of a.t.now) c.shift_whole.new.room a.n σ F.kids w
whole c put σ f F e = subst (λ (w : Option Whole). Shifts (table_of c.args.t.now) c.shift_whole.new.room c.args.n σ F.kids w) e (c.shift_whole.ensures.shifts σ F.prod F.kids (ripe F))

-- the goto that there is
there : (c : After-shift_whole) (put : List ℕ) (σ : Stack) (f : Row) → let a = c.args in (F : Facing a.t.now a.old.now put a.run.now a.room.now a.n a.m a.v σ f) → a.s ≡ top σ
    → (s : ℕ) × ((table_of a.t.now).goto (top σ) ((table_of a.t.now).lhs F.prod) ≡ some s)
there c put σ f F e = let g = a_goto c.goto_of.result c.if-is_none.ensures in (g.0, sym (seen (goal.at.After-shift_whole c).After-goto_of put σ f F e) ∙ g.1)

pub returns-then-is_none : goal.returns-then-is_none
returns-then-is_none c =
    let a = c.args in
    let o = c.open.ensures in record {
      by_index = λ put σ f F e.
          let z = sym (seen (goal.at.returns-then-is_none c).After-goto_of put σ f F e) ∙ no_goto c.goto_of.result c.if-is_none.ensures in
          left-broken F c.requires.1 z (o.by_index a.t.now put (tokened F.kids ⧺ F.rest) (opens F)) o.elsewhere;
      above = above_list o.elsewhere;
    }

pub returns-in_err-whole : goal.returns-in_err-whole
returns-in_err-whole c =
    let w = c.shift_whole.ensures in
    let h = (goal.at.returns-in_err-whole c).After-shift_whole in
    let r : c.from_residual.result ≡ Err NoRoom = search rules in record {
      by_index = λ put σ f F e. rw r (no_room F c.requires.1 (there h put σ f F e).1 (whole h put σ f F c.in_err-whole.ensures.ok_part), list_stands w.room_unchanged F.whole);
      above = above_states w.room_unchanged (search rules);
    }

pub returns : goal.returns
returns c =
    let w = c.shift_whole.ensures in
    let h = (goal.at.returns c).After-shift_whole in record {
      by_index = λ put σ f F e. (shifted_whole F c.requires.1 (there h put σ f F e).1 (whole h put σ f F c.in_ok-whole.ensures.ok_part) w.room_unchanged, F.more);
      above = above_states w.room_unchanged (search rules);
    }
