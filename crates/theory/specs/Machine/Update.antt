-- A turn over a row of pieces is so many steps of the machine over the row's tokens, or its end: right-breaks, whole shifts, left-breaks.
use Rattle.std.specs.Prelude.{◌≡◌, refl, length, drop}
use Rattle.std.proofs.Math.Path.{ap}
use Rattle.std.proofs.Common.{◌∙◌}
use mathlib.Core.List.{List, [], ◌∷◌, ◌++◌, append_assoc, append-nil}
use Rattle.std.proofs.Math.Option.{Option, none, some}
use Prim.Native.Nat.{ℕ, zero, suc, ◌+◌, ◌≤◌, ◌<◌}
use native.Mathlib.Omega.{arith}
use Rattle.std.proofs.Math.Decide.{dec_le}
use Rattle.definitions.specs.Table.{Sym, tm, nt, Act, err, acc, sh, red, Table}
use Rattle.definitions.specs.Tree.{Tok, mk, kind, Row, ∅, tok, nod, ◌⧺◌, size, yield, look, Prod, Der, d∅, dtok, dnod, row}
use Rattle.definitions.specs.Reading.{leaf, node, Stack, push, top, Popped, under, popped, pop, Turn, on, stop, whole_shift, land, settle, reduce, plain}
use Rattle.definitions.specs.Moves.{pick, to, right_break, standing, cost, tokened, fits, enter, piece, turn}
use Rattle.theory.specs.Table.Lr.{After, Rules, Conditions}
use Rattle.theory.specs.Machine.Rows.{yield-row, yield-append, size-append, drop_tail}
use Rattle.theory.specs.Machine.Steps.{next, strip, step_at, step, run, Steps, here, more, run_short, run_stop, run-accept, run_error}
use Rattle.theory.specs.Machine.Complete.{moved, shift-step, over, reach}

-- a left-break leaves the text, and no more nodes
pub yield-tokened : (c : Row) → yield (tokened c) ≡ yield c
yield-tokened ∅ = refl
yield-tokened (tok x f) = ap (x ∷◌) (yield-tokened f)
yield-tokened (nod q c f) = by (yield c) refl (yield-tokened f)
  where
    by : (u : List Tok) → yield c ≡ u → yield (tokened f) ≡ yield f → yield (pick u (tokened f) (nod q c (tokened f))) ≡ u ++ yield f
    by [] z k = k
    by (x ∷ u) z k = rw (z, k) refl

pub size-tokened : (c : Row) → size (tokened c) ≤ size c
size-tokened ∅ = omega arith
size-tokened (tok x f) = omega (arith, size-tokened f)
size-tokened (nod q c f) = by (yield c) (size-tokened f)
  where
    by : (u : List Tok) → size (tokened f) ≤ size f → size (pick u (tokened f) (nod q c (tokened f))) ≤ size c + suc (size f)
    by [] k = omega arith
    by (x ∷ u) k = omega arith

pub yield-left : (c f : Row) → yield (tokened c ⧺ f) ≡ yield c ++ yield f
yield-left c f = yield-append (tokened c) f ∙ ap (λ (u : List Tok). u ++ yield f) (yield-tokened c)

module _ (G : Table) where
  -- the row is of pieces by the grammar
  abbrev pub Valid : Row → Type 0
  Valid ∅ = Unit {0}
  Valid (tok x f) = Valid f
  Valid (nod q c f) = Prod G q × Der G c (G.rhs q) × Valid f

  pub valid_row : (w : List Tok) → Valid (row w)
  valid_row [] = tt
  valid_row (x ∷ w) = valid_row w

  pub valid_der : {f : Row} {γ : List Sym} → Der G f γ → Valid f
  valid_der d∅ = tt
  valid_der (dtok D) = valid_der D
  valid_der (dnod P Dc D) = (P, Dc, valid_der D)

  pub valid_append : (f g : Row) → Valid f → Valid g → Valid (f ⧺ g)
  valid_append ∅ g v u = u
  valid_append (tok x f) g v u = valid_append f g v u
  valid_append (nod q c f) g v u = (v.0, v.1, valid_append f g v.2 u)

  pub valid_tokened : (f : Row) → Valid f → Valid (tokened f)
  valid_tokened ∅ v = tt
  valid_tokened (tok x f) v = valid_tokened f v
  valid_tokened (nod q c f) v = by (yield c) (valid_tokened f v.2)
    where
      by : (u : List Tok) → Valid (tokened f) → Valid (pick u (tokened f) (nod q c (tokened f)))
      by [] k = k
      by (x ∷ u) k = (v.0, v.1, k)

  -- a move is so many steps of the machine, within the room, and an end is its end
  unfoldable pub Sim : ℕ → Stack → Row → Turn → Type 0
  Sim r σ f (on m σ' f') = Steps G (cost m) σ (yield f) σ' (yield f') × (cost m ≤ r) × Valid f' × (size f' < size f + cost m)
  Sim r σ f (stop e) = run G r σ (yield f) ≡ e

  module _ (R : Rules G) (C : Conditions G) where
    pub break_steps : (σ : Stack) (w : List Tok) {f : Row} {γ : List Sym} {p d a : ℕ} → Der G f γ → drop d (G.rhs p) ≡ γ → G.Item (top σ) p d a
        → Steps G (standing f) σ (yield f ++ w) (right_break G f σ) w
    break_steps σ w d∅ e i = here
    break_steps σ w {p = p} {d = d} (dtok {x = x} {γ = γ} D) e i =
        let A : After G p d (tm (kind x)) γ = record { is = e } in
        more (shift-step G R C {x = x} i A) (break_steps (push σ (to G (top σ) (tm (kind x))) (leaf x)) w D (drop_tail (G.rhs p) d e) (moved G R C i A))
    break_steps σ w {p = p} {d = d} {a = a} (dnod {q = q} {c = c} {f = f} {γ = γ} P Dc D) e i =
        let A : After G p d (nt (G.lhs q)) γ = record { is = e } in
        let j = C.c2 i A P D in
        by A j (break_steps σ w Dc refl j) (break_steps (push σ (to G (top σ) (nt (G.lhs q))) (node q c)) w D (drop_tail (G.rhs p) d e) (moved G R C i A)) (yield f) refl
      where
        by : After G p d (nt (G.lhs q)) γ → G.Item (top σ) q 0 (look a (yield f)) → Steps G (standing c) σ (yield c ++ w) (right_break G c σ) w
            → Steps G (standing f) (push σ (to G (top σ) (nt (G.lhs q))) (node q c)) (yield f ++ w) (right_break G f (push σ (to G (top σ) (nt (G.lhs q))) (node q c))) w
            → (u : List Tok) → yield f ≡ u
            → Steps G (pick u (standing c) (size c + suc (standing f))) σ (yield c ++ yield f ++ w) (pick u (right_break G c σ) (right_break G f (push σ (to G (top σ) (nt (G.lhs q))) (node q c)))) w
        by A j kc kf [] z = rw (z, append-nil) kc
        by A j kc kf (x ∷ u) z =
            let j' : G.Item (top σ) q 0 (look 0 (yield f ++ w)) = rw z (rw z at j) in
            rw append_assoc (over G R C P Dc i A (reach G R C σ (yield f ++ w) Dc refl j' refl) kf)

    -- what follows a dot derives something
    pub derivable : (p d : ℕ) (γ : List Sym) → drop d (G.rhs p) ≡ γ → (f : Row) × Der G f γ
    derivable p d [] e = (∅, d∅)
    derivable p d (tm a ∷ γ) e = let r = derivable p (suc d) γ (drop_tail (G.rhs p) d e) in (tok (mk a 0) r.0, dtok r.1)
    derivable p d (nt B ∷ γ) e =
        let r = derivable p (suc d) γ (drop_tail (G.rhs p) d e) in
        let A : After G p d (nt B) γ = record { is = e } in
        let k = R.productive A in (nod k.0 k.1 r.0, rw k.3 at (dnod k.2 k.4 r.1))

    -- a piece may be shifted whole wherever a goto on it stands
    pub whole_steps : {s q : ℕ} {c : Row} (σ : Stack) (w : List Tok) → G.goto (top σ) (G.lhs q) ≡ some s → Prod G q → Der G c (G.rhs q)
        → Steps G (standing c) σ (yield c ++ w) (right_break G c σ) w
    whole_steps {q = q} σ w e P D =
        let k = C.c5_trans (top σ) (nt (G.lhs q)) e in
        let r = derivable k.0 (suc k.1) k.3 (drop_tail (G.rhs k.0) k.1 k.5.is) in
        break_steps σ w D refl (C.c2 k.4 k.5 P r.1)

    enter_sim : {q : ℕ} {c : Row} (r : ℕ) (σ : Stack) (f : Row) → Prod G q → Der G c (G.rhs q) → Valid f → (o : Option ℕ) → G.goto (top σ) (G.lhs q) ≡ o → Sim r σ (nod q c f) (enter G r σ c f o)
    unfolding Sim
    enter_sim {c = c} r σ f P D v none e =
        (rw (yield-left c f) here, omega arith, valid_append (tokened c) f (valid_tokened c (valid_der D)) v, omega (arith, size-append (tokened c) f, size-tokened c))
    enter_sim {q} {c} r σ f P D v (some s) e = by (dec_le (standing c) r)
      where
        by : (d : Dec (standing c ≤ r)) → Sim r σ (nod q c f) (fits d (on (whole_shift c) (right_break G c σ) f))
        by (yes l) = (whole_steps σ (yield f) e P D, l, v, omega arith)
        by (no l) = run_short G r (whole_steps σ (yield f) e P D) (omega arith)

    acts : {a : Act} (r : ℕ) (σ : Stack) (w : List Tok) → G.act (top σ) (look 0 w) ≡ a → step_at G r σ w ≡ strip (plain G r a σ (row w))
    acts r σ w e = ap (λ a. strip (plain G r a σ (row w))) e

    reduce_sim : {p : ℕ} (r : ℕ) (σ : Stack) (f : Row) → Valid f → G.act (top σ) (look 0 (yield f)) ≡ red p → Sim r σ f (reduce G r p σ f)
    unfolding Sim
    reduce_sim zero σ f v e = run_stop G zero σ (yield f) (acts zero σ (yield f) e)
    reduce_sim {p} (suc r) σ f v e = by (pop (length (G.rhs p)) σ ∅) (acts (suc r) σ (yield f) e) (acts 1 σ (yield f) e)
      where
        by : (o : Popped) → step_at G (suc r) σ (yield f) ≡ strip (settle G p (row (yield f)) o) → step G σ (yield f) ≡ strip (settle G p (row (yield f)) o) → Sim (suc r) σ f (settle G p f o)
        by under z y = run_stop G (suc r) σ (yield f) z
        by (popped c τ) z y = at (G.goto (top τ) (G.lhs p)) z y
          where
            at : (o : Option ℕ) → step_at G (suc r) σ (yield f) ≡ strip (land G p (row (yield f)) c τ o) → step G σ (yield f) ≡ strip (land G p (row (yield f)) c τ o) → Sim (suc r) σ f (land G p f c τ o)
            at none z y = run_stop G (suc r) σ (yield f) z
            at (some s) z y = (more (y ∙ ap (next (push τ s (node p c))) (yield-row (yield f))) here, omega arith, v, omega arith)

    -- a token or the end mark next
    end_sim : (r : ℕ) (σ : Stack) (a : Act) → G.act (top σ) 0 ≡ a → Sim r σ ∅ (plain G r a σ ∅)
    unfolding Sim
    end_sim r σ err e = run_error G r σ [] e
    end_sim r σ acc e = run-accept G r σ [] e
    end_sim zero σ (sh s) e = run_stop G zero σ [] (acts zero σ [] e)
    end_sim (suc r) σ (sh s) e = run_stop G (suc r) σ [] (acts (suc r) σ [] e)
    end_sim r σ (red p) e = reduce_sim r σ ∅ tt e

    tok_sim : (r : ℕ) (σ : Stack) (x : Tok) (f : Row) → Valid f → (a : Act) → G.act (top σ) (kind x) ≡ a → Sim r σ (tok x f) (plain G r a σ (tok x f))
    unfolding Sim
    tok_sim r σ x f v err e = run_error G r σ (x ∷ yield f) e
    tok_sim r σ x f v acc e = run-accept G r σ (x ∷ yield f) e
    tok_sim zero σ x f v (sh s) e = run_stop G zero σ (x ∷ yield f) (acts zero σ (x ∷ yield f) e)
    tok_sim (suc r) σ x f v (sh s) e =
        (more (acts 1 σ (x ∷ yield f) e ∙ ap (next (push σ s (leaf x))) (yield-row (yield f))) here, omega arith, v, omega arith)
    tok_sim r σ x f v (red p) e = reduce_sim r σ (tok x f) v e

    piece_sim : (r : ℕ) (σ : Stack) (q : ℕ) (c f : Row) → Valid (nod q c f) → (a : Act) → G.act (top σ) (look 0 (yield (nod q c f))) ≡ a → Sim r σ (nod q c f) (piece G r a σ q c f)
    piece_sim r σ q c f v err e = enter_sim r σ f v.0 v.1 v.2 (G.goto (top σ) (G.lhs q)) refl
    piece_sim r σ q c f v acc e = enter_sim r σ f v.0 v.1 v.2 (G.goto (top σ) (G.lhs q)) refl
    piece_sim r σ q c f v (sh s) e = enter_sim r σ f v.0 v.1 v.2 (G.goto (top σ) (G.lhs q)) refl
    piece_sim r σ q c f v (red p) e = reduce_sim r σ (nod q c f) v e

    pub sim : (r : ℕ) (σ : Stack) (f : Row) → Valid f → Sim r σ f (turn G r σ f)
    sim r σ ∅ v = end_sim r σ (G.act (top σ) 0) refl
    sim r σ (tok x f) v = tok_sim r σ x f v (G.act (top σ) (kind x)) refl
    sim r σ (nod q c f) v = piece_sim r σ q c f v (G.act (top σ) (look 0 (yield (nod q c f)))) refl
