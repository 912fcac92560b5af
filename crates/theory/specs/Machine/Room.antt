-- The room is what is not held: each move adds to the nodes held what it takes of the room; and no token is lost on the way from the
-- reading list to the stack.
use Rattle.std.specs.Prelude.{◌≡◌, List, [], ◌∷◌}
use Rattle.std.proofs.Math.Path.{refl, ap}
use Rattle.std.proofs.Common.{◌∙◌}
use Rattle.std.proofs.Math.Option.{Option, none, some}
use Prim.Native.Nat.{ℕ, zero, suc, ◌+◌, ◌-◌, ◌≤◌}
use native.Mathlib.Omega.{arith}
use Rattle.std.proofs.Math.Decide.{dec_le}
use Rattle.std.proofs.Math.ListN.{length, length-append}
use Rattle.definitions.specs.Table.{tm, nt, Act, err, acc, sh, red, Table}
use Rattle.definitions.specs.Tree.{Tok, kind, Row, ∅, tok, nod, size, yield, toks, look}
use Rattle.definitions.specs.Reading.{leaf, node, Stack, bot, push, top, held, shifted, Popped, under, popped, pop, Move, whole_shift, Turn, on, stop, land, settle, reduce, plain}
use Rattle.definitions.specs.Moves.{pick, to, right_break, standing, cost, fits, enter, piece, turn}
use Rattle.theory.specs.Machine.Rows.{toks-length}
use Rattle.theory.specs.Machine.Update.{yield-left}

pop-held : (d : ℕ) (σ : Stack) (f : Row) {c : Row} {τ : Stack} → pop d σ f ≡ popped c τ → held τ + size c ≡ held σ + size f
pop-held zero σ f e = cc
pop-held (suc d) bot f e = cc
pop-held (suc d) (push σ s (leaf x)) f e = omega (arith, pop-held d σ (tok x f) e)
pop-held (suc d) (push σ s (node q k)) f e = omega (arith, pop-held d σ (nod q k f) e)

pop-shifted : (d : ℕ) (σ : Stack) (f : Row) {c : Row} {τ : Stack} → pop d σ f ≡ popped c τ → shifted τ + toks c ≡ shifted σ + toks f
pop-shifted zero σ f e = cc
pop-shifted (suc d) bot f e = cc
pop-shifted (suc d) (push σ s (leaf x)) f e = omega (arith, pop-shifted d σ (tok x f) e)
pop-shifted (suc d) (push σ s (node q k)) f e = omega (arith, pop-shifted d σ (nod q k f) e)

no_toks : (f : Row) → yield f ≡ [] → toks f ≡ 0
no_toks f e = toks-length f ∙ ap length e

module _ (G : Table) where
  -- a right-break leaves so many nodes, and all tokens
  pub break_held : (f : Row) (σ : Stack) → held (right_break G f σ) ≡ held σ + standing f
  break_held ∅ σ = omega arith
  break_held (tok x f) σ = omega (arith, break_held f (push σ (to G (top σ) (tm (kind x))) (leaf x)))
  break_held (nod q c f) σ = by (break_held c σ) (break_held f σ') (yield f)
    where
      σ' : Stack
      σ' = push σ (to G (top σ) (nt (G.lhs q))) (node q c)

      by : held (right_break G c σ) ≡ held σ + standing c → held (right_break G f σ') ≡ held σ + (size c + 1) + standing f
          → (u : List Tok) → held (pick u (right_break G c σ) (right_break G f σ')) ≡ held σ + pick u (standing c) (size c + suc (standing f))
      by kc kf [] = kc
      by kc kf (x ∷ u) = omega arith

  pub break_shifted : (f : Row) (σ : Stack) → shifted (right_break G f σ) ≡ shifted σ + toks f
  break_shifted ∅ σ = omega arith
  break_shifted (tok x f) σ = omega (arith, break_shifted f (push σ (to G (top σ) (tm (kind x))) (leaf x)))
  break_shifted (nod q c f) σ = by (break_shifted c σ) (break_shifted f σ') (yield f) refl
    where
      σ' : Stack
      σ' = push σ (to G (top σ) (nt (G.lhs q))) (node q c)

      by : shifted (right_break G c σ) ≡ shifted σ + toks c → shifted (right_break G f σ') ≡ shifted σ + (toks c + 0) + toks f
          → (u : List Tok) → yield f ≡ u → shifted (pick u (right_break G c σ) (right_break G f σ')) ≡ shifted σ + (toks c + toks f)
      by kc kf [] e = omega (arith, no_toks f e)
      by kc kf (x ∷ u) e = omega arith

  -- a move from σ and f to σ' and f', at room r
  pub record Moved (r : ℕ) (σ : Stack) (f : Row) (m : Move) (σ' : Stack) (f' : Row) : Type 0 where
    pub within : cost m ≤ r
    pub holds : held σ' ≡ held σ + cost m
    pub tokens : shifted σ' + length (yield f') ≡ shifted σ + length (yield f)

  Keeps : ℕ → Stack → Row → Turn → Type 0
  Keeps r σ f (on m σ' f') = Moved r σ f m σ' f'
  Keeps r σ f (stop e) = Unit {0}

  keeps_reduce : (r p : ℕ) (σ : Stack) (f : Row) → Keeps r σ f (reduce G r p σ f)
  unfolding Keeps
  keeps_reduce zero p σ f = tt
  keeps_reduce (suc r) p σ f = by (pop (length (G.rhs p)) σ ∅) refl
    where
      by : (o : Popped) → pop (length (G.rhs p)) σ ∅ ≡ o → Keeps (suc r) σ f (settle G p f o)
      by under e = tt
      by (popped c τ) e = at (G.goto (top τ) (G.lhs p))
        where
          at : (o : Option ℕ) → Keeps (suc r) σ f (land G p f c τ o)
          at none = tt
          at (some s) =
              let h = pop-held (length (G.rhs p)) σ ∅ e in
              let k = pop-shifted (length (G.rhs p)) σ ∅ e in
              record { within = omega arith; holds = omega arith; tokens = omega arith }

  keeps_enter : (r : ℕ) (σ : Stack) (q : ℕ) (c f : Row) (o : Option ℕ) → Keeps r σ (nod q c f) (enter G r σ c f o)
  unfolding Keeps
  keeps_enter r σ q c f none = record { within = omega arith; holds = omega arith; tokens = ap (λ u. shifted σ + length u) (yield-left c f) }
  keeps_enter r σ q c f (some s) = by (dec_le (standing c) r)
    where
      by : (d : Dec (standing c ≤ r)) → Keeps r σ (nod q c f) (fits d (on (whole_shift c) (right_break G c σ) f))
      by (yes l) = record { within = l; holds = break_held c σ; tokens = omega (arith, break_shifted c σ, toks-length c, length-append (yield c) (yield f)) }
      by (no l) = tt

  keeps : (r : ℕ) (σ : Stack) (f : Row) → Keeps r σ f (turn G r σ f)
  unfolding Keeps
  keeps r σ ∅ = by r (G.act (top σ) 0)
    where
      by : (r : ℕ) (a : Act) → Keeps r σ ∅ (plain G r a σ ∅)
      by r err = tt
      by r acc = tt
      by zero (sh s) = tt
      by (suc r) (sh s) = tt
      by r (red p) = keeps_reduce r p σ ∅
  keeps r σ (tok x f) = by r (G.act (top σ) (kind x))
    where
      by : (r : ℕ) (a : Act) → Keeps r σ (tok x f) (plain G r a σ (tok x f))
      by r err = tt
      by r acc = tt
      by zero (sh s) = tt
      by (suc r) (sh s) = record { within = omega arith; holds = omega arith; tokens = omega arith }
      by r (red p) = keeps_reduce r p σ (tok x f)
  keeps r σ (nod q c f) = by (G.act (top σ) (look 0 (yield (nod q c f))))
    where
      by : (a : Act) → Keeps r σ (nod q c f) (piece G r a σ q c f)
      by err = keeps_enter r σ q c f (G.goto (top σ) (G.lhs q))
      by acc = keeps_enter r σ q c f (G.goto (top σ) (G.lhs q))
      by (sh s) = keeps_enter r σ q c f (G.goto (top σ) (G.lhs q))
      by (red p) = keeps_reduce r p σ (nod q c f)

  pub moved : (r : ℕ) (σ : Stack) (f : Row) {m : Move} {σ' : Stack} {f' : Row} → turn G r σ f ≡ on m σ' f' → Moved r σ f m σ' f'
  unfolding Keeps
  moved r σ f e = let k = keeps r σ f in rw e at k

  -- room and nodes held make one number throughout: where that is 2,048, room zero is 2,048 nodes held
  pub room-held : (r : ℕ) (σ : Stack) (f : Row) {m : Move} {σ' : Stack} {f' : Row} → turn G r σ f ≡ on m σ' f' → (r - cost m) + held σ' ≡ r + held σ
  room-held r σ f e = let k = moved r σ f e in omega (arith, k.within, k.holds)
