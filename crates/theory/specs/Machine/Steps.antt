-- The machine read off the definitions' own `plain`: one step over a text, chains of steps, and a run within a room.
use Rattle.std.specs.Prelude.{◌≡◌, refl, List}
use Rattle.std.proofs.Math.Path.{ap}
use Rattle.std.proofs.Common.{◌∙◌, suc-add, zero-add, arith}
use Prim.Native.Nat.{ℕ, zero, suc, ◌+◌, ◌<◌}
use Rattle.definitions.specs.Table.{Act, err, acc, sh, red, Table}
use Rattle.definitions.specs.Tree.{Tok, Row, ∅, tok, nod, yield, look, row}
use Rattle.definitions.specs.Reading.{Stack, top, shifted, End, taken, refused, Turn, on, stop, plain}

pub data Out : Type 0 where
  next : Stack → List Tok → Out
  halt : End → Out

-- a turn without its move, and of what is left only the text
abbrev pub strip : Turn → Out
strip (on m σ f) = next σ (yield f)
strip (stop e) = halt e

abbrev pub go : (Stack → List Tok → End) → Out → End
go k (next σ w) = k σ w
go k (halt e) = e

module _ (G : Table) where
  -- a turn over a text, at room r; with room
  abbrev pub step_at : ℕ → Stack → List Tok → Out
  step_at r σ w = strip (plain G r (G.act (top σ) (look 0 w)) σ (row w))

  abbrev pub step : Stack → List Tok → Out
  step σ w = step_at 1 σ w

  -- the room is the number of nodes that may still be added; without room a turn never goes on
  unfoldable pub run : ℕ → Stack → List Tok → End
  run zero σ w = go (λ _ _. refused 8 0) (step_at zero σ w)
  run (suc r) σ w = go (λ σ' w'. run r σ' w') (step_at (suc r) σ w)

  pub data Steps : ℕ → Stack → List Tok → Stack → List Tok → Type 0 where
    here : {σ : Stack} {w : List Tok} → Steps zero σ w σ w
    more : {n : ℕ} {σ σ₁ σ₂ : Stack} {w w₁ w₂ : List Tok} → step σ w ≡ next σ₁ w₁ → Steps n σ₁ w₁ σ₂ w₂ → Steps (suc n) σ w σ₂ w₂

  pub then : {m n : ℕ} {σ σ₁ σ₂ : Stack} {w w₁ w₂ : List Tok} → Steps m σ w σ₁ w₁ → Steps n σ₁ w₁ σ₂ w₂ → Steps (m + n) σ w σ₂ w₂
  then here g = rw zero-add g
  then (more e f) g = rw suc-add (more e (then f g))

  -- with room the turn is the same whatever the room
  pub any_room : (r : ℕ) (a : Act) (σ : Stack) (f : Row) → plain G (suc r) a σ f ≡ plain G 1 a σ f
  any_room r err σ f = refl
  any_room r acc σ f = refl
  any_room r (sh s) σ ∅ = refl
  any_room r (sh s) σ (tok x f) = refl
  any_room r (sh s) σ (nod q c f) = refl
  any_room r (red p) σ f = refl

  -- without room, where the turn would go on or fail: 8
  pub full : (a : Act) (σ : Stack) {τ : Stack} (w : List Tok) {v : List Tok} → strip (plain G 1 a σ (row w)) ≡ next τ v → plain G zero a σ (row w) ≡ stop (refused 8 0)
  full err σ w e = cc
  full acc σ w e = cc
  full (sh s) σ w e = refl
  full (red p) σ w e = refl

  pub run_on : (r : ℕ) (σ : Stack) {τ : Stack} (w : List Tok) {v : List Tok} → step σ w ≡ next τ v → run (suc r) σ w ≡ run r τ v
  unfolding run
  run_on r σ w e = ap (λ t. go (λ σ' w'. run r σ' w') (strip t)) (any_room r (G.act (top σ) (look 0 w)) σ (row w)) ∙ ap (go (λ σ' w'. run r σ' w')) e

  pub run_full : (σ : Stack) {τ : Stack} (w : List Tok) {v : List Tok} → step σ w ≡ next τ v → run zero σ w ≡ refused 8 0
  unfolding run
  run_full σ w e = ap (λ t. go (λ _ _. refused 8 0) (strip t)) (full (G.act (top σ) (look 0 w)) σ w e)

  pub run_enough : {n : ℕ} {σ τ : Stack} {w v : List Tok} (r : ℕ) → Steps n σ w τ v → run (n + r) σ w ≡ run r τ v
  run_enough r here = rw zero-add refl
  run_enough {σ = σ} {w = w} r (more {n = n} e f) = rw suc-add (run_on (n + r) σ w e ∙ run_enough r f)

  pub run_short : {n : ℕ} {σ τ : Stack} {w v : List Tok} (r : ℕ) → Steps n σ w τ v → r < n → run r σ w ≡ refused 8 0
  run_short r here h = absurd (omega arith)
  run_short {σ = σ} {w = w} zero (more e f) h = run_full σ w e
  run_short {σ = σ} {w = w} (suc r) (more e f) h = run_on r σ w e ∙ run_short r f (omega arith)

  -- where the turn at this room ends, so does the run
  pub run_stop : (r : ℕ) (σ : Stack) (w : List Tok) {e : End} → step_at r σ w ≡ halt e → run r σ w ≡ e
  unfolding run
  run_stop zero σ w h = ap (go (λ _ _. refused 8 0)) h
  run_stop (suc r) σ w h = ap (go (λ σ' w'. run r σ' w')) h

  -- accept and error need no room
  pub run-accept : (r : ℕ) (σ : Stack) (w : List Tok) → G.act (top σ) (look 0 w) ≡ acc → run r σ w ≡ taken σ
  run-accept r σ w e = run_stop r σ w (ap (λ a. strip (plain G r a σ (row w))) e)

  pub run_error : (r : ℕ) (σ : Stack) (w : List Tok) → G.act (top σ) (look 0 w) ≡ err → run r σ w ≡ refused 7 (shifted σ)
  run_error r σ w e = run_stop r σ w (ap (λ a. strip (plain G r a σ (row w))) e)
