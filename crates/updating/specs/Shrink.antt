-- Each move takes up room or shortens the list, no more breaks are made than the list has nodes, and only shifts shorten the text.
use Rattle.std.specs.Prelude.{◌≡◌, List, [], ◌∷◌, length}
use Rattle.std.proofs.Math.Path.{refl}
use Rattle.std.proofs.Math.Option.{Option, none, some}
use Prim.Native.Nat.{ℕ, zero, suc, ◌+◌, ◌≤◌, ◌<◌}
use Rattle.std.proofs.Common.{arith}
use Rattle.std.proofs.Math.Decide.{dec_le}
use Rattle.definitions.specs.Table.{Act, err, acc, sh, red, Table}
use Rattle.definitions.specs.Tree.{Tok, kind, Row, ∅, tok, nod, size, yield, look}
use Rattle.definitions.specs.Reading.{Stack, top, Popped, under, popped, pop, Move, reduction, token_shift, whole_shift, left_break, Turn, on, stop, land, settle, reduce, plain}
use Rattle.definitions.specs.Moves.{pick, breaks, standing, right_break, tokened, cost, fits, enter, piece, turn}
use Rattle.theory.specs.Machine.Rows.{size-append}
use Rattle.theory.specs.Machine.Update.{size-tokened, yield-left}

-- the right-breaks of a move
abbrev pub broken : Move → ℕ
broken reduction = 0
broken token_shift = 0
broken (whole_shift c) = suc (breaks c)
broken left_break = 0

-- a move that shifts nothing
abbrev pub Still : Move → Type 0
Still reduction = Unit {0}
Still token_shift = ⊥
Still (whole_shift c) = ⊥
Still left_break = Unit {0}

breaks-size : (f : Row) → breaks f ≤ size f
breaks-size ∅ = omega arith
breaks-size (tok x f) = omega (arith, breaks-size f)
breaks-size (nod q c f) = by (yield f) (yield c) (breaks-size c) (breaks-size f)
  where
    by : (u v : List Tok) → breaks c ≤ size c → breaks f ≤ size f → pick u (breaks f + suc (pick v 0 (breaks c))) (breaks f) ≤ size c + suc (size f)
    by [] [] a b = omega arith
    by [] (x ∷ v) a b = omega arith
    by (x ∷ u) v a b = omega arith

pub record Shrunk (f : Row) (v : Move) (g : Row) : Type 0 where
  pub less : size g < size f + cost v
  pub breaks : broken v + size g ≤ size f
  pub text : Still v → yield g ≡ yield f

pub Shrinks : Row → Turn → Type 0
Shrinks f (on v σ g) = Shrunk f v g
Shrinks f (stop e) = Unit {0}

module _ (G : Table) where
  by-reduce : (r p : ℕ) (σ : Stack) (f : Row) → Shrinks f (reduce G r p σ f)
  unfolding Shrinks
  by-reduce zero p σ f = tt
  by-reduce (suc r) p σ f = at (pop (length (G.rhs p)) σ ∅)
    where
      at : (o : Popped) → Shrinks f (settle G p f o)
      at under = tt
      at (popped c τ) = on_goto (G.goto (top τ) (G.lhs p))
        where
          on_goto : (o : Option ℕ) → Shrinks f (land G p f c τ o)
          on_goto none = tt
          on_goto (some s) = record { less = omega arith; breaks = omega arith; text = λ u. refl }

  by-enter : (r : ℕ) (σ : Stack) (q : ℕ) (c f : Row) (o : Option ℕ) → Shrinks (nod q c f) (enter G r σ c f o)
  unfolding Shrinks
  by-enter r σ q c f none = let z = size-append (tokened c) f in record { less = omega (arith, size-tokened c); breaks = omega (arith, size-tokened c); text = λ u. yield-left c f }
  by-enter r σ q c f (some s) = at (dec_le (standing c) r)
    where
      at : (d : Dec (standing c ≤ r)) → Shrinks (nod q c f) (fits d (on (whole_shift c) (right_break G c σ) f))
      at (yes l) = record { less = omega arith; breaks = omega (arith, breaks-size c); text = λ u. absurd u }
      at (no l) = tt

  turns : (r : ℕ) (σ : Stack) (f : Row) → Shrinks f (turn G r σ f)
  unfolding Shrinks
  turns r σ ∅ = at r (G.act (top σ) 0)
    where
      at : (r : ℕ) (a : Act) → Shrinks ∅ (plain G r a σ ∅)
      at r err = tt
      at r acc = tt
      at zero (sh s) = tt
      at (suc r) (sh s) = tt
      at r (red p) = by-reduce r p σ ∅
  turns r σ (tok x f) = at r (G.act (top σ) (kind x))
    where
      at : (r : ℕ) (a : Act) → Shrinks (tok x f) (plain G r a σ (tok x f))
      at r err = tt
      at r acc = tt
      at zero (sh s) = tt
      at (suc r) (sh s) = record { less = omega arith; breaks = omega arith; text = λ u. absurd u }
      at r (red p) = by-reduce r p σ (tok x f)
  turns r σ (nod q c f) = at (G.act (top σ) (look 0 (yield (nod q c f))))
    where
      at : (a : Act) → Shrinks (nod q c f) (piece G r a σ q c f)
      at err = by-enter r σ q c f (G.goto (top σ) (G.lhs q))
      at acc = by-enter r σ q c f (G.goto (top σ) (G.lhs q))
      at (sh s) = by-enter r σ q c f (G.goto (top σ) (G.lhs q))
      at (red p) = by-reduce r p σ (nod q c f)

  pub shrunk : (r : ℕ) (σ : Stack) (f : Row) {v : Move} {τ : Stack} {g : Row} → turn G r σ f ≡ on v τ g → Shrunk f v g
  unfolding Shrinks
  shrunk r σ f e = let k = turns r σ f in rw e at k
