-- A sheet is well laid out in one way: any two proofs of `Layout` are equal, so that a type can hold it as a ghost field.
use Rattle.std.specs.Prelude.{List, ◌⊎◌, ℕ, ◌+◌, ◌≤◌, ◌<◌}
use Rattle.std.proofs.Common.{ap, inl, inr, arith}
use Rattle.std.proofs.Props.{props}
use Rattle.definitions.specs.Sheet.{P, S, Head, IsSymbol, Production, IsAction, IsGoto, Rises, State, Layout}

-- of two facts that can't both hold
either : {A B : Type 0} → IsProp A → IsProp B → (A → B → ⊥) → IsProp (A ⊎ B)
either p q n (inl a) (inl b) = ap inl (p a b)
either p q n (inl a) (inr b) = absurd (n a b)
either p q n (inr a) (inl b) = absurd (n b a)
either p q n (inr a) (inr b) = ap inr (q a b)

pub Head-prop : (t : List ℕ) → IsProp (Head t)
Head-prop t = Prim.hlevel props

rises_once : (t : List ℕ) (s i : ℕ) → IsProp (Rises t s i)
rises_once t s i = either (Prim.hlevel props) (Prim.hlevel props) (λ a b. omega arith)

state_once : (t : List ℕ) (s : ℕ) → IsProp (State t s)
state_once t s = Prim.hlevel (props, rises_once)

module _ (t : List ℕ) (h : Head t) where
  symbol_once : (x : ℕ) → IsProp (IsSymbol t x)
  symbol_once x = either (Prim.hlevel props) (Prim.hlevel props) (λ a b. omega arith)

  action_once : (w : ℕ) → IsProp (IsAction t w)
  action_once w =
      either (either (Prim.hlevel props) (Prim.hlevel props) (λ a b. omega arith)) (Prim.hlevel props) many
    where
      many : (w ≤ 1) ⊎ ((256 ≤ w) × (w < 256 + S t)) → (512 ≤ w) × (w < 512 + P t) → ⊥
      many (inl a) b = omega arith
      many (inr a) b = omega arith

  goto_once : (g : ℕ) → IsProp (IsGoto t g)
  goto_once g = either (Prim.hlevel props) (Prim.hlevel props) (λ a b. omega arith)

  production_once : (p : ℕ) → IsProp (Production t p)
  production_once p = Prim.hlevel (props, symbol_once)

pub Layout-prop : (t : List ℕ) → IsProp (Layout t)
Layout-prop t x y = all x y
  where
    all : IsProp (Layout t)
    all = Prim.hlevel (props, Head-prop, state_once, production_once t x.head, action_once t x.head, goto_once t x.head)
