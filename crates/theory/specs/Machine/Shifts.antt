-- A reading list whose pieces have tokens stays one, and there every whole shift is document 01's: the state has a goto on the piece,
-- and the stack after it is what the right-break loop comes to, in as many breaks as are counted.
use Rattle.std.specs.Prelude.{◌≡◌, List, [], ◌∷◌, length}
use Rattle.std.proofs.Math.Path.{refl}
use Rattle.std.proofs.Common.{ap, arith}
use Rattle.std.proofs.Math.Option.{Option, none, some}
use Prim.Native.Nat.{ℕ, zero, suc, ◌≤◌, ◌<◌}
use Rattle.std.proofs.Math.Decide.{dec_le}
use Rattle.definitions.specs.Table.{Act, err, acc, sh, red, Table}
use Rattle.definitions.specs.Tree.{Tok, kind, Row, ∅, tok, nod, ◌⧺◌, yield, toks, look, row}
use Rattle.definitions.specs.Reading.{node, Stack, push, top, Popped, under, popped, pop, Move, reduction, token_shift, whole_shift, left_break, Turn, on, stop, land, settle, reduce, plain}
use Rattle.definitions.specs.Moves.{pick, Breaks, right_break, breaks, standing, tokened, fits, enter, piece, turn}
use Rattle.theory.specs.Machine.Rows.{toks-length}
use Rattle.theory.specs.Machine.Break.{broken}

-- every piece of the list has tokens
abbrev pub Tokened : Row → Type 0
Tokened ∅ = Unit {0}
Tokened (tok x f) = Tokened f
Tokened (nod q c f) = (0 < toks c) × Tokened f

pub tokened-row : (w : List Tok) → Tokened (row w)
tokened-row [] = tt
tokened-row (x ∷ w) = tokened-row w

pub tokened-append : (f g : Row) → Tokened f → Tokened g → Tokened (f ⧺ g)
tokened-append ∅ g t u = u
tokened-append (tok x f) g t u = tokened-append f g t u
tokened-append (nod q c f) g t u = (t.0, tokened-append f g t.1 u)

pub tokened-tokened : (c : Row) → Tokened (tokened c)
tokened-tokened ∅ = tt
tokened-tokened (tok x f) = tokened-tokened f
tokened-tokened (nod q c f) = by (yield c) refl (tokened-tokened f)
  where
    by : (u : List Tok) → yield c ≡ u → Tokened (tokened f) → Tokened (pick u (tokened f) (nod q c (tokened f)))
    by [] e k = k
    by (x ∷ u) e k = (omega (arith, toks-length c, ap length e), k)

first : (c : Row) → 0 < toks c → (x : Tok) × (u : List Tok) × (yield c ≡ x ∷ u)
first c h = by (yield c) refl
  where
    by : (u : List Tok) → yield c ≡ u → (x : Tok) × (v : List Tok) × (yield c ≡ x ∷ v)
    by [] e = absurd (omega (arith, toks-length c, ap length e))
    by (x ∷ u) e = (x, u, e)

module _ (G : Table) where
  -- c was the next piece's children, shifted whole from σ to σ' and then right-broken
  pub record Shifted (σ : Stack) (f c : Row) (σ' : Stack) (f' : Row) : Type 0 where
    pub prod : ℕ
    pub state : ℕ
    pub next : f ≡ nod prod c f'
    pub goes : G.goto (top σ) (G.lhs prod) ≡ some state
    pub breaking : Breaks G (suc (breaks c)) (push σ state (node prod c)) σ'

  abbrev pub ByMove : Stack → Row → Move → Stack → Row → Type 0
  ByMove σ f reduction σ' f' = Unit {0}
  ByMove σ f token_shift σ' f' = Unit {0}
  ByMove σ f (whole_shift c) σ' f' = Shifted σ f c σ' f'
  ByMove σ f left_break σ' f' = Unit {0}

  Stays : Stack → Row → Turn → Type 0
  Stays σ f (on m σ' f') = Tokened f' × ByMove σ f m σ' f'
  Stays σ f (stop e) = Unit {0}

  stays_reduce : (r p : ℕ) (σ : Stack) (f : Row) → Tokened f → Stays σ f (reduce G r p σ f)
  unfolding Stays
  stays_reduce zero p σ f t = tt
  stays_reduce (suc r) p σ f t = by (pop (length (G.rhs p)) σ ∅)
    where
      by : (o : Popped) → Stays σ f (settle G p f o)
      by under = tt
      by (popped c τ) = at (G.goto (top τ) (G.lhs p))
        where
          at : (o : Option ℕ) → Stays σ f (land G p f c τ o)
          at none = tt
          at (some s) = (t, tt)

  stays_enter : (r : ℕ) (σ : Stack) (q : ℕ) (c f : Row) → 0 < toks c → Tokened f → (o : Option ℕ) → G.goto (top σ) (G.lhs q) ≡ o → Stays σ (nod q c f) (enter G r σ c f o)
  unfolding Stays
  stays_enter r σ q c f h t none e = (tokened-append (tokened c) f (tokened-tokened c) t, tt)
  stays_enter r σ q c f h t (some s) e = by (dec_le (standing c) r)
    where
      by : (d : Dec (standing c ≤ r)) → Stays σ (nod q c f) (fits d (on (whole_shift c) (right_break G c σ) f))
      by (yes l) = (t, record { prod = q; state = s; next = refl; goes = e; breaking = broken G c σ s q (first c h).2 })
      by (no l) = tt

  stays : (r : ℕ) (σ : Stack) (f : Row) → Tokened f → Stays σ f (turn G r σ f)
  unfolding Stays
  stays r σ ∅ t = by r (G.act (top σ) 0)
    where
      by : (r : ℕ) (a : Act) → Stays σ ∅ (plain G r a σ ∅)
      by r err = tt
      by r acc = tt
      by zero (sh s) = tt
      by (suc r) (sh s) = tt
      by r (red p) = stays_reduce r p σ ∅ tt
  stays r σ (tok x f) t = by r (G.act (top σ) (kind x))
    where
      by : (r : ℕ) (a : Act) → Stays σ (tok x f) (plain G r a σ (tok x f))
      by r err = tt
      by r acc = tt
      by zero (sh s) = tt
      by (suc r) (sh s) = (t, tt)
      by r (red p) = stays_reduce r p σ (tok x f) t
  stays r σ (nod q c f) t = by (G.act (top σ) (look 0 (yield (nod q c f))))
    where
      by : (a : Act) → Stays σ (nod q c f) (piece G r a σ q c f)
      by err = stays_enter r σ q c f t.0 t.1 (G.goto (top σ) (G.lhs q)) refl
      by acc = stays_enter r σ q c f t.0 t.1 (G.goto (top σ) (G.lhs q)) refl
      by (sh s) = stays_enter r σ q c f t.0 t.1 (G.goto (top σ) (G.lhs q)) refl
      by (red p) = stays_reduce r p σ (nod q c f) t

  pub stays_tokened : (r : ℕ) (σ : Stack) (f : Row) {m : Move} {σ' : Stack} {f' : Row} → Tokened f → turn G r σ f ≡ on m σ' f' → Tokened f' × ByMove σ f m σ' f'
  unfolding Stays
  stays_tokened r σ f t e = let k = stays r σ f t in rw e at k
