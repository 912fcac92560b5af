-- The machine looks at terminals only: on the same text without its tokens' numbers it does the same and ends the same.
use Rattle.std.specs.Prelude.{◌≡◌, length}
use Rattle.std.proofs.Math.Path.{refl, ap}
use Rattle.std.proofs.Common.{sym, ◌∙◌, arith}
use mathlib.Core.List.{List, [], ◌∷◌, ◌++◌}
use Rattle.std.proofs.Math.Option.{Option, none, some}
use Prim.Native.Nat.{ℕ, zero, suc}
use Rattle.definitions.specs.Table.{Act, err, acc, sh, red, Sym, Table}
use Rattle.definitions.specs.Tree.{Tok, mk, kind, Row, ∅, tok, nod, row, size, yield, toks, look, Der, d∅, dtok, dnod}
use Rattle.definitions.specs.Reading.{Tree, leaf, node, cons, Stack, bot, push, top, shifted, Popped, under, popped, pop, End, taken, refused, plain, settle, land}
use Rattle.theory.specs.Machine.Rows.{inner, yield-row}
use Rattle.theory.specs.Machine.Steps.{Out, next, halt, strip, go, step_at, run}
use Rattle.theory.specs.Machine.Fewer.{inners}

-- ---- without numbers
abbrev pub plain_tok : Tok → Tok
plain_tok (mk k i) = mk k 0

abbrev pub bare_text : List Tok → List Tok
bare_text [] = []
bare_text (x ∷ w) = plain_tok x ∷ bare_text w

abbrev pub bare : Row → Row
bare ∅ = ∅
bare (tok x f) = tok (plain_tok x) (bare f)
bare (nod q c f) = nod q (bare c) (bare f)

abbrev bare_tree : Tree → Tree
bare_tree (leaf x) = leaf (plain_tok x)
bare_tree (node q c) = node q (bare c)

abbrev pub bare_stack : Stack → Stack
bare_stack bot = bot
bare_stack (push σ s t) = push (bare_stack σ) s (bare_tree t)

abbrev pub bare_end : End → End
bare_end (taken σ) = taken (bare_stack σ)
bare_end (refused n i) = refused n i

abbrev bare_out : Out → Out
bare_out (next σ w) = next (bare_stack σ) (bare_text w)
bare_out (halt e) = halt (bare_end e)

abbrev bare_popped : Popped → Popped
bare_popped under = under
bare_popped (popped c σ) = popped (bare c) (bare_stack σ)

-- ---- what stays
top-bare : (σ : Stack) → top (bare_stack σ) ≡ top σ
top-bare bot = refl
top-bare (push σ s t) = refl

kind-bare : (x : Tok) → kind (plain_tok x) ≡ kind x
kind-bare (mk k i) = refl

look-bare : (w : List Tok) → look 0 (bare_text w) ≡ look 0 w
look-bare [] = refl
look-bare (x ∷ w) = kind-bare x

pub bare-append : (u v : List Tok) → bare_text (u ++ v) ≡ bare_text u ++ bare_text v
bare-append [] v = refl
bare-append (x ∷ u) v = ap (plain_tok x ∷◌) (bare-append u v)

pub yield-bare : (f : Row) → yield (bare f) ≡ bare_text (yield f)
yield-bare ∅ = refl
yield-bare (tok x f) = ap (plain_tok x ∷◌) (yield-bare f)
yield-bare (nod q c f) = rw (yield-bare c, yield-bare f) (sym (bare-append (yield c) (yield f)))

pub size-bare : (f : Row) → size (bare f) ≡ size f
size-bare ∅ = refl
size-bare (tok x f) = ap suc (size-bare f)
size-bare (nod q c f) = omega (arith, size-bare c, size-bare f)

toks-bare : (f : Row) → toks (bare f) ≡ toks f
toks-bare ∅ = refl
toks-bare (tok x f) = ap suc (toks-bare f)
toks-bare (nod q c f) = omega (arith, toks-bare c, toks-bare f)

inner-bare : (f : Row) → inner (bare f) ≡ inner f
inner-bare ∅ = refl
inner-bare (tok x f) = inner-bare f
inner-bare (nod q c f) = omega (arith, inner-bare c, inner-bare f)

shifted-bare : (σ : Stack) → shifted (bare_stack σ) ≡ shifted σ
shifted-bare bot = refl
shifted-bare (push σ s (leaf x)) = omega (arith, shifted-bare σ)
shifted-bare (push σ s (node q c)) = omega (arith, shifted-bare σ, toks-bare c)

pub inners-bare : (σ : Stack) → inners (bare_stack σ) ≡ inners σ
inners-bare bot = refl
inners-bare (push σ s (leaf x)) = inners-bare σ
inners-bare (push σ s (node q c)) = omega (arith, inners-bare σ, inner-bare c)

bare_again : (w : List Tok) → bare_text (bare_text w) ≡ bare_text w
bare_again [] = refl
bare_again (mk k i ∷ w) = ap (mk k 0 ∷◌) (bare_again w)

cons-bare : (t : Tree) (f : Row) → cons (bare_tree t) (bare f) ≡ bare (cons t f)
cons-bare (leaf x) f = refl
cons-bare (node q c) f = refl

pop-bare : (n : ℕ) (σ : Stack) (f : Row) → pop n (bare_stack σ) (bare f) ≡ bare_popped (pop n σ f)
pop-bare zero σ f = refl
pop-bare (suc n) bot f = refl
pop-bare (suc n) (push σ s t) f = ap (pop n (bare_stack σ)) (cons-bare t f) ∙ pop-bare n σ (cons t f)

module _ (G : Table) where
  pub der_bare : {f : Row} {γ : List Sym} → Der G f γ → Der G (bare f) γ
  der_bare d∅ = d∅
  der_bare (dtok {x = mk k i} D) = dtok (der_bare D)
  der_bare (dnod P Dc D) = dnod P (der_bare Dc) (der_bare D)

  settle-bare : (p : ℕ) (w : List Tok) (o : Popped) → strip (settle G p (row (bare_text w)) (bare_popped o)) ≡ bare_out (strip (settle G p (row w) o))
  settle-bare p w under = refl
  settle-bare p w (popped c σ) = rw (top-bare σ) (by (G.goto (top σ) (G.lhs p)))
    where
      by : (o : Option ℕ) → strip (land G p (row (bare_text w)) (bare c) (bare_stack σ) o) ≡ bare_out (strip (land G p (row w) c σ o))
      by none = refl
      by (some s) = rw (yield-row, yield-row) refl

  act_bare : (r : ℕ) (a : Act) (σ : Stack) (w : List Tok) → strip (plain G r a (bare_stack σ) (row (bare_text w))) ≡ bare_out (strip (plain G r a σ (row w)))
  act_bare r err σ w = rw (shifted-bare σ) refl
  act_bare r acc σ w = refl
  act_bare zero (sh s) σ w = refl
  act_bare (suc r) (sh s) σ [] = refl
  act_bare (suc r) (sh s) σ (x ∷ w) = ap (next (push (bare_stack σ) s (leaf (plain_tok x)))) (yield-row (bare_text w) ∙ ap bare_text (sym (yield-row w)))
  act_bare zero (red p) σ w = refl
  act_bare (suc r) (red p) σ w = rw (pop-bare (length (G.rhs p)) σ ∅) (settle-bare p w (pop (length (G.rhs p)) σ ∅))

  step-bare : (r : ℕ) (σ : Stack) (w : List Tok) → step_at G r (bare_stack σ) (bare_text w) ≡ bare_out (step_at G r σ w)
  step-bare r σ w = rw (top-bare σ, look-bare w) (act_bare r (G.act (top σ) (look 0 w)) σ w)

  pub run-bare : (r : ℕ) (σ : Stack) (w : List Tok) → run G r (bare_stack σ) (bare_text w) ≡ bare_end (run G r σ w)
  unfolding run
  run-bare zero σ w = ap (go (λ _ _. refused 8 0)) (step-bare zero σ w) ∙ by (step_at G zero σ w)
    where
      by : (o : Out) → go (λ _ _. refused 8 0) (bare_out o) ≡ bare_end (go (λ _ _. refused 8 0) o)
      by (next σ w) = refl
      by (halt e) = refl
  run-bare (suc r) σ w = ap (go (λ σ' w'. run G r σ' w')) (step-bare (suc r) σ w) ∙ by (λ σ w. run-bare r σ w) (step_at G (suc r) σ w)
    where
      by : ((σ : Stack) (w : List Tok) → run G r (bare_stack σ) (bare_text w) ≡ bare_end (run G r σ w)) → (o : Out) → go (λ σ' w'. run G r σ' w') (bare_out o) ≡ bare_end (go (λ σ' w'. run G r σ' w') o)
      by ih (next σ w) = ih σ w
      by ih (halt e) = refl
