-- Afresh each node held was one token shift or one reduction, so that an accepted text's tokens are as many as the token shifts.
use Rattle.std.proofs.Math.Path.{◌≡◌, refl}
use mathlib.Core.List.{List, [], ◌∷◌}
use Rattle.std.proofs.Math.Option.{Option, none, some}
use Prim.Native.Nat.{ℕ, zero, suc, ◌+◌, ◌-◌}
use native.Mathlib.Omega.{arith}
use Rattle.std.specs.Prelude.{length}
use Rattle.definitions.specs.Table.{Act, err, acc, sh, red, Table}
use Rattle.definitions.specs.Tree.{Tok, kind, Row, ∅, tok, nod, size, toks, row}
use Rattle.definitions.specs.Reading.{Stack, bot, top, held, Popped, under, popped, pop, taken, refused, Counts, zeros, Move, Turn, on, stop, land, settle, reduce, plain}
use Rattle.definitions.specs.Moves.{tally, cost, turn, after, Done, read, reading}
use Rattle.theory.specs.Machine.Rows.{inner}
use Rattle.theory.specs.Machine.Room.{moved}

-- every node is a token or an inner node
pub size_split : (f : Row) → size f ≡ toks f + inner f
size_split ∅ = refl
size_split (tok x f) = omega (arith, size_split f)
size_split (nod q c f) = omega (arith, size_split c, size_split f)

module _ (G : Table) where
  -- a move over tokens alone counts as many shifts and reductions as it adds nodes, and leaves tokens alone
  Tallied : Turn → Type 0
  Tallied (on m σ f) = ((k : Counts) → (tally m k).shifts + (tally m k).reductions ≡ k.shifts + k.reductions + cost m) × ((u : List Tok) × (f ≡ row u))
  Tallied (stop e) = Unit {0}

  by-reduce : (r p : ℕ) (σ : Stack) (u : List Tok) → Tallied (reduce G r p σ (row u))
  unfolding Tallied
  by-reduce zero p σ u = tt
  by-reduce (suc r) p σ u = by (pop (length (G.rhs p)) σ ∅)
    where
      by : (o : Popped) → Tallied (settle G p (row u) o)
      by under = tt
      by (popped c τ) = at (G.goto (top τ) (G.lhs p))
        where
          at : (o : Option ℕ) → Tallied (land G p (row u) c τ o)
          at none = tt
          at (some s) = (λ k. omega arith, (u, refl))

  tallied : (r : ℕ) (σ : Stack) (u : List Tok) → Tallied (turn G r σ (row u))
  unfolding Tallied
  tallied r σ [] = by r (G.act (top σ) 0)
    where
      by : (r : ℕ) (a : Act) → Tallied (plain G r a σ ∅)
      by r err = tt
      by r acc = tt
      by zero (sh s) = tt
      by (suc r) (sh s) = tt
      by r (red p) = by-reduce r p σ []
  tallied r σ (x ∷ u) = by r (G.act (top σ) (kind x))
    where
      by : (r : ℕ) (a : Act) → Tallied (plain G r a σ (row (x ∷ u)))
      by r err = tt
      by r acc = tt
      by zero (sh s) = tt
      by (suc r) (sh s) = (λ k. omega arith, (u, refl))
      by r (red p) = by-reduce r p σ (x ∷ u)

  -- who accepts leaves the stack as it is
  Keeps : Stack → Turn → Type 0
  Keeps σ (on m τ f) = Unit {0}
  Keeps σ (stop (taken τ)) = τ ≡ σ
  Keeps σ (stop (refused n i)) = Unit {0}

  reduce_keeps : (r p : ℕ) (σ : Stack) (f : Row) → Keeps σ (reduce G r p σ f)
  unfolding Keeps
  reduce_keeps zero p σ f = tt
  reduce_keeps (suc r) p σ f = by (pop (length (G.rhs p)) σ ∅)
    where
      by : (o : Popped) → Keeps σ (settle G p f o)
      by under = tt
      by (popped c τ) = at (G.goto (top τ) (G.lhs p))
        where
          at : (o : Option ℕ) → Keeps σ (land G p f c τ o)
          at none = tt
          at (some s) = tt

  keeps : (r : ℕ) (σ : Stack) (u : List Tok) → Keeps σ (turn G r σ (row u))
  unfolding Keeps
  keeps r σ [] = by r (G.act (top σ) 0)
    where
      by : (r : ℕ) (a : Act) → Keeps σ (plain G r a σ ∅)
      by r err = tt
      by r acc = refl
      by zero (sh s) = tt
      by (suc r) (sh s) = tt
      by r (red p) = reduce_keeps r p σ ∅
  keeps r σ (x ∷ u) = by r (G.act (top σ) (kind x))
    where
      by : (r : ℕ) (a : Act) → Keeps σ (plain G r a σ (row (x ∷ u)))
      by r err = tt
      by r acc = refl
      by zero (sh s) = tt
      by (suc r) (sh s) = tt
      by r (red p) = reduce_keeps r p σ (row (x ∷ u))

  counted : (n r : ℕ) (k : Counts) (σ : Stack) (f : Row) (u : List Tok) (τ : Stack) → f ≡ row u → (read G n r k σ f).end ≡ taken τ
      → (read G n r k σ f).counts.shifts + (read G n r k σ f).counts.reductions + held σ ≡ k.shifts + k.reductions + held τ
  unfolding read Tallied Keeps
  counted zero r k σ f u τ z e = let y : ◌≡◌ {A = ℕ} 0 1 = cc in absurd (omega arith)
  counted (suc n) r k σ f u τ z e = by (λ r k σ f u z e. counted n r k σ f u τ z e) (turn G r σ f) refl (rw z (tallied r σ u)) (rw z (keeps r σ u)) e
    where
      step : Move → Stack → Row → Done
      step m σ' f' = read G n (r - cost m) (tally m k) σ' f'

      by : ((r : ℕ) (k : Counts) (σ : Stack) (f : Row) (u : List Tok) → f ≡ row u → (read G n r k σ f).end ≡ taken τ
          → (read G n r k σ f).counts.shifts + (read G n r k σ f).counts.reductions + held σ ≡ k.shifts + k.reductions + held τ)
          → (o : Turn) → turn G r σ f ≡ o → Tallied o → Keeps σ o → (after step k o).end ≡ taken τ
          → (after step k o).counts.shifts + (after step k o).counts.reductions + held σ ≡ k.shifts + k.reductions + held τ
      by ih (on m σ' f') q t h e =
          let a = ih (r - cost m) (tally m k) σ' f' t.1.0 t.1.1 e in
          omega (arith, a, t.0 k, (moved G r σ f q).holds)
      by ih (stop (taken υ)) q t h e = let y : τ ≡ σ = cc in rw y (omega arith)
      by ih (stop (refused m i)) q t h e = let y : ◌≡◌ {A = ℕ} 0 1 = cc in absurd (omega arith)

  pub nodes_counted : (r : ℕ) (w : List Tok) (τ : Stack) → (reading G r (row w)).end ≡ taken τ → (reading G r (row w)).counts.shifts + (reading G r (row w)).counts.reductions ≡ held τ
  nodes_counted r w τ e = omega (arith, counted (suc (r + size (row w))) r zeros bot (row w) w τ refl e)
