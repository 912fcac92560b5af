-- Afresh a reading breaks nothing and shifts nothing whole, and reduces once for each inner node; an update reduces no more than that.
use Rattle.std.specs.Prelude.{◌≡◌, length}
use Rattle.std.proofs.Math.Path.{refl}
use Rattle.std.proofs.Common.{sym, ◌∙◌, arith}
use mathlib.Core.List.{List, [], ◌∷◌}
use Rattle.std.proofs.Math.Option.{Option, none, some}
use Prim.Native.Nat.{ℕ, zero, suc, ◌+◌, ◌≤◌}
use Rattle.definitions.specs.Table.{Act, err, acc, sh, red, Table}
use Rattle.definitions.specs.Tree.{Tok, kind, Row, ∅, size, yield, row}
use Rattle.definitions.specs.Reading.{Stack, bot, top, Popped, under, popped, pop, taken, Counts, zeros, Turn, on, stop, land, settle, reduce, plain}
use Rattle.definitions.specs.Moves.{tally, turn, after, read, reading}
use Rattle.theory.specs.Table.Lr.{Rules, Conditions}
use Rattle.theory.specs.Machine.Update.{Valid}
use Rattle.theory.specs.Machine.Same.{rest, as_afresh}
use Rattle.theory.specs.Machine.Fewer.{inners, fewer}

-- of left-breaks, right-breaks and whole shifts there are as many
pub record Unbroken (k k' : Counts) : Type 0 where
  pub left : k'.lefts ≡ k.lefts
  pub right : k'.rights ≡ k.rights
  pub whole : k'.wholes ≡ k.wholes

module _ (G : Table) where
  -- a move over tokens alone leaves tokens alone
  Fresh : Turn → Type 0
  Fresh (on m σ f) = ((k : Counts) → Unbroken k (tally m k)) × ((u : List Tok) × (f ≡ row u))
  Fresh (stop e) = Unit {0}

  fresh_reduce : (r p : ℕ) (σ : Stack) (u : List Tok) → Fresh (reduce G r p σ (row u))
  unfolding Fresh
  fresh_reduce zero p σ u = tt
  fresh_reduce (suc r) p σ u = by (pop (length (G.rhs p)) σ ∅)
    where
      by : (o : Popped) → Fresh (settle G p (row u) o)
      by under = tt
      by (popped c τ) = at (G.goto (top τ) (G.lhs p))
        where
          at : (o : Option ℕ) → Fresh (land G p (row u) c τ o)
          at none = tt
          at (some s) = (λ k. record { left = refl; right = refl; whole = refl }, (u, refl))

  fresh : (r : ℕ) (σ : Stack) (u : List Tok) → Fresh (turn G r σ (row u))
  unfolding Fresh
  fresh r σ [] = by r (G.act (top σ) 0)
    where
      by : (r : ℕ) (a : Act) → Fresh (plain G r a σ ∅)
      by r err = tt
      by r acc = tt
      by zero (sh s) = tt
      by (suc r) (sh s) = tt
      by r (red p) = fresh_reduce r p σ []
  fresh r σ (x ∷ u) = by r (G.act (top σ) (kind x))
    where
      by : (r : ℕ) (a : Act) → Fresh (plain G r a σ (row (x ∷ u)))
      by r err = tt
      by r acc = tt
      by zero (sh s) = tt
      by (suc r) (sh s) = (λ k. record { left = refl; right = refl; whole = refl }, (u, refl))
      by r (red p) = fresh_reduce r p σ (x ∷ u)

  read_fresh : (n r : ℕ) (k : Counts) (σ : Stack) (f : Row) (u : List Tok) → f ≡ row u → Unbroken k (read G n r k σ f).counts
  unfolding read Fresh
  read_fresh zero r k σ f u e = record { left = refl; right = refl; whole = refl }
  read_fresh (suc n) r k σ f u e = by (λ r' k' σ' f' u' e'. read_fresh n r' k' σ' f' u' e') (turn G r σ f) (rw e (fresh r σ u))
    where
      by : ((r' : ℕ) (k' : Counts) (σ' : Stack) (f' : Row) (u' : List Tok) → f' ≡ row u' → Unbroken k' (read G n r' k' σ' f').counts)
          → (t : Turn) → Fresh t → Unbroken k (after (rest G n r k) k t).counts
      by ih (stop e) g = record { left = refl; right = refl; whole = refl }
      by ih (on m σ' f') g =
          let a = ih _ (tally m k) σ' f' g.1.0 g.1.1 in
          let b = g.0 k in
          record { left = a.left ∙ b.left; right = a.right ∙ b.right; whole = a.whole ∙ b.whole }

  -- afresh: no left-break, no right-break, no whole shift
  pub afresh : (r : ℕ) (w : List Tok) → Unbroken zeros (reading G r (row w)).counts
  afresh r w = read_fresh (suc (r + size (row w))) r zeros bot (row w) w refl

  -- at most the inner nodes of the accepted tree
  pub at_most : (r : ℕ) (f : Row) (τ : Stack) → (reading G r f).end ≡ taken τ → (reading G r f).counts.reductions ≤ inners τ
  at_most r f τ e = (fewer G (suc (r + size f)) r zeros bot f (record { most = omega arith; exact = λ z. refl }) τ e).most

  -- afresh exactly those
  pub exactly : (r : ℕ) (w : List Tok) (τ : Stack) → (reading G r (row w)).end ≡ taken τ → (reading G r (row w)).counts.reductions ≡ inners τ
  exactly r w τ e = (fewer G (suc (r + size (row w))) r zeros bot (row w) (record { most = omega arith; exact = λ z. refl }) τ e).exact (afresh r w).whole

  module _ (R : Rules G) (C : Conditions G) where
    pub no_more : (r : ℕ) (f : Row) (τ : Stack) → Valid G f → (reading G r f).end ≡ taken τ
        → ((reading G r (row (yield f))).end ≡ taken τ) × ((reading G r f).counts.reductions ≤ (reading G r (row (yield f))).counts.reductions)
    no_more r f τ v e =
        let a : (reading G r (row (yield f))).end ≡ taken τ = sym (as_afresh G R C r f v) ∙ e in
        (a, omega (arith, at_most r f τ e, exactly r (yield f) τ a))
