-- A reading's reductions are at most the inner nodes of what it accepts, and exactly those where no piece was shifted whole.
use Rattle.std.proofs.Math.Path.{◌≡◌, refl}
use Rattle.std.specs.Prelude.{List, [], ◌∷◌, length}
use Rattle.std.proofs.Math.Option.{Option, none, some}
use Prim.Native.Nat.{ℕ, zero, suc, ◌+◌, ◌≤◌}
use native.Mathlib.Omega.{arith}
use Rattle.std.proofs.Math.Decide.{dec_le}
use Rattle.definitions.specs.Table.{tm, nt, Act, err, acc, sh, red, Table}
use Rattle.definitions.specs.Tree.{Tok, kind, Row, ∅, tok, nod, yield, look}
use Rattle.definitions.specs.Reading.{leaf, node, Stack, bot, push, top, Popped, under, popped, pop, taken, refused, Counts, Move, reduction, token_shift, whole_shift, left_break, Turn, on, stop, land, settle, reduce, plain}
use Rattle.definitions.specs.Moves.{pick, to, right_break, standing, tally, fits, enter, piece, turn, Done, after, read}
use Rattle.theory.specs.Machine.Rows.{inner}
use Rattle.theory.specs.Machine.Same.{rest}

-- the inner nodes held
abbrev pub inners : Stack → ℕ
inners bot = zero
inners (push σ s (leaf x)) = inners σ
inners (push σ s (node q c)) = inners σ + suc (inner c)

pop-inner : (d : ℕ) (σ : Stack) (f : Row) {c : Row} {τ : Stack} → pop d σ f ≡ popped c τ → inners τ + inner c ≡ inners σ + inner f
pop-inner zero σ f e = cc
pop-inner (suc d) bot f e = cc
pop-inner (suc d) (push σ s (leaf x)) f e = pop-inner d σ (tok x f) e
pop-inner (suc d) (push σ s (node q k)) f e = omega (arith, pop-inner d σ (nod q k f) e)

-- the inner nodes that a whole shift leaves standing
abbrev saved : Row → ℕ
saved ∅ = zero
saved (tok x f) = saved f
saved (nod q c f) = pick (yield f) (saved c) (inner c + suc (saved f))

abbrev gain : Move → ℕ
gain reduction = 1
gain token_shift = 0
gain (whole_shift c) = saved c
gain left_break = 0

-- the reductions are at most the inner nodes of the stack, and exactly those where no piece was shifted whole
pub record Fewer (k : Counts) (σ : Stack) : Type 0 where
  pub most : k.reductions ≤ inners σ
  pub exact : k.wholes ≡ 0 → k.reductions ≡ inners σ

abbrev pub Ends : Done → Type 0
Ends d = (τ : Stack) → d.end ≡ taken τ → Fewer d.counts τ

fewer_tally : (m : Move) (k : Counts) (σ σ' : Stack) → Fewer k σ → inners σ' ≡ inners σ + gain m → Fewer (tally m k) σ'
fewer_tally reduction k σ σ' h e = record { most = omega arith; exact = λ z. omega (arith, h.exact z) }
fewer_tally token_shift k σ σ' h e = record { most = omega arith; exact = λ z. omega (arith, h.exact z) }
fewer_tally (whole_shift c) k σ σ' h e = record { most = omega arith; exact = λ z. omega arith }
fewer_tally left_break k σ σ' h e = record { most = omega arith; exact = λ z. omega (arith, h.exact z) }

module _ (G : Table) where
  break_inner : (f : Row) (σ : Stack) → inners (right_break G f σ) ≡ inners σ + saved f
  break_inner ∅ σ = omega arith
  break_inner (tok x f) σ = break_inner f (push σ (to G (top σ) (tm (kind x))) (leaf x))
  break_inner (nod q c f) σ = by (break_inner c σ) (break_inner f σ') (yield f)
    where
      σ' : Stack
      σ' = push σ (to G (top σ) (nt (G.lhs q))) (node q c)

      by : inners (right_break G c σ) ≡ inners σ + saved c → inners (right_break G f σ') ≡ inners σ + suc (inner c) + saved f
          → (u : List Tok) → inners (pick u (right_break G c σ) (right_break G f σ')) ≡ inners σ + pick u (saved c) (inner c + suc (saved f))
      by kc kf [] = kc
      by kc kf (x ∷ u) = omega arith

  Gains : Stack → Turn → Type 0
  Gains σ (on m σ' f) = inners σ' ≡ inners σ + gain m
  Gains σ (stop (taken τ)) = τ ≡ σ
  Gains σ (stop (refused n i)) = Unit {0}

  gains_reduce : (r p : ℕ) (σ : Stack) (f : Row) → Gains σ (reduce G r p σ f)
  unfolding Gains
  gains_reduce zero p σ f = tt
  gains_reduce (suc r) p σ f = by (pop (length (G.rhs p)) σ ∅) refl
    where
      by : (o : Popped) → pop (length (G.rhs p)) σ ∅ ≡ o → Gains σ (settle G p f o)
      by under e = tt
      by (popped c τ) e = at (G.goto (top τ) (G.lhs p))
        where
          at : (o : Option ℕ) → Gains σ (land G p f c τ o)
          at none = tt
          at (some s) = omega (arith, pop-inner (length (G.rhs p)) σ ∅ e)

  gains_enter : (r : ℕ) (σ : Stack) (c f : Row) (o : Option ℕ) → Gains σ (enter G r σ c f o)
  unfolding Gains
  gains_enter r σ c f none = omega arith
  gains_enter r σ c f (some s) = by (dec_le (standing c) r)
    where
      by : (d : Dec (standing c ≤ r)) → Gains σ (fits d (on (whole_shift c) (right_break G c σ) f))
      by (yes l) = break_inner c σ
      by (no l) = tt

  gains : (r : ℕ) (σ : Stack) (f : Row) → Gains σ (turn G r σ f)
  unfolding Gains
  gains r σ ∅ = by r (G.act (top σ) 0)
    where
      by : (r : ℕ) (a : Act) → Gains σ (plain G r a σ ∅)
      by r err = tt
      by r acc = refl
      by zero (sh s) = tt
      by (suc r) (sh s) = tt
      by r (red p) = gains_reduce r p σ ∅
  gains r σ (tok x f) = by r (G.act (top σ) (kind x))
    where
      by : (r : ℕ) (a : Act) → Gains σ (plain G r a σ (tok x f))
      by r err = tt
      by r acc = refl
      by zero (sh s) = tt
      by (suc r) (sh s) = omega arith
      by r (red p) = gains_reduce r p σ (tok x f)
  gains r σ (nod q c f) = by (G.act (top σ) (look 0 (yield (nod q c f))))
    where
      by : (a : Act) → Gains σ (piece G r a σ q c f)
      by err = gains_enter r σ c f (G.goto (top σ) (G.lhs q))
      by acc = gains_enter r σ c f (G.goto (top σ) (G.lhs q))
      by (sh s) = gains_enter r σ c f (G.goto (top σ) (G.lhs q))
      by (red p) = gains_reduce r p σ (nod q c f)

  pub fewer : (n r : ℕ) (k : Counts) (σ : Stack) (f : Row) → Fewer k σ → Ends (read G n r k σ f)
  unfolding read Gains
  fewer zero r k σ f h = λ τ e. let z : ◌≡◌ {A = ℕ} 0 1 = cc in absurd (omega arith)
  fewer (suc n) r k σ f h = by (λ r' k' σ' f' h'. fewer n r' k' σ' f' h') (turn G r σ f) (gains r σ f)
    where
      by : ((r' : ℕ) (k' : Counts) (σ' : Stack) (f' : Row) → Fewer k' σ' → Ends (read G n r' k' σ' f')) → (t : Turn) → Gains σ t → Ends (after (rest G n r k) k t)
      by ih (stop (taken υ)) g = λ τ e. let z : τ ≡ σ = cc in rw z h
      by ih (stop (refused j i)) g = λ τ e. let z : ◌≡◌ {A = ℕ} 0 1 = cc in absurd (omega arith)
      by ih (on m σ' f') g = ih _ _ σ' f' (fewer_tally m k σ σ' h g)
