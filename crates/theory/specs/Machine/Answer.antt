-- What the machine answers, by the derivations of the text: the tree where there is one within the room; 8 where it is too large;
-- 7 where there is none.
use Rattle.std.proofs.Math.Path.{◌≡◌, refl}
use Rattle.std.specs.Prelude.{List, ℕ, ◌+◌, ◌-◌, ◌≤◌, ◌<◌, length}
use native.Mathlib.Omega.{arith}
use Rattle.std.proofs.Math.Decide.{dec_le}
use Rattle.definitions.specs.Table.{nt, Table}
use Rattle.definitions.specs.Tree.{Tok, Row, size, yield, Prod, Der}
use Rattle.definitions.specs.Reading.{node, Stack, bot, push, End, taken, refused}
use Rattle.definitions.specs.Moves.{to}
use Rattle.theory.specs.Table.Lr.{Rules, Conditions}
use Rattle.theory.specs.Machine.Rows.{Real}
use Rattle.theory.specs.Machine.Steps.{run}
use Rattle.theory.specs.Machine.Complete.{complete, too_large}
use Rattle.theory.specs.Machine.Sound.{Fault, large, wrong, Fine, at_place, sound}

module _ (G : Table) where
  -- the node q over c is a derivation of the text w from the start symbol
  pub record Parse (w : List Tok) (q : ℕ) (c : Row) : Type 0 where
    pub prod : Prod G q
    pub start : G.lhs q ≡ G.start
    pub der : Der G c (G.rhs q)
    pub text : yield c ≡ w

  -- what a refusal says of the text w at room r
  pub data Refusal (w : List Tok) (r : ℕ) : ℕ → ℕ → Type 0 where
    no_parse : {i : ℕ} → i ≤ length w → ((q : ℕ) (c : Row) → Parse w q c → ⊥) → Refusal w r 7 i
    no_space : ((q : ℕ) (c : Row) → Parse w q c → r ≤ size c) → Refusal w r 8 0

  -- an accepted text's tree, which stands alone on the stack and is within the room
  pub record Taken (w : List Tok) (r : ℕ) (σ : Stack) : Type 0 where
    pub prod : ℕ
    pub kids : Row
    pub state : ℕ
    pub is_stack : σ ≡ push bot state (node prod kids)
    pub parse : Parse w prod kids
    pub fits : size kids < r

  unfoldable pub Told : List Tok → ℕ → End → Type 0
  Told w r (taken σ) = Taken w r σ
  Told w r (refused n i) = Refusal w r n i

module _ (G : Table) (R : Rules G) (C : Conditions G) where
  pub parsed : {w : List Tok} {q : ℕ} {c : Row} (r : ℕ) → Parse G w q c → size c < r → run G r bot w ≡ taken (push bot (to G 0 (nt (G.lhs q))) (node q c))
  parsed {c = c} r p h =
      let e : size c + 1 + (r - (size c + 1)) ≡ r = omega arith in
      rw (e, p.text) at (complete G R C p.prod p.start p.der (r - (size c + 1)))

  pub no_room : {w : List Tok} {q : ℕ} {c : Row} (r : ℕ) → Parse G w q c → r ≤ size c → run G r bot w ≡ refused 8 0
  no_room r p h = rw p.text at (too_large G R C p.prod p.start p.der r (omega arith))

  pub answers : (r : ℕ) (w : List Tok) → Real w → Told G w r (run G r bot w)
  unfolding Told Fine
  answers r w h = by (run G r bot w) refl (sound G R C r w h)
    where
      in_room : {σ : Stack} {q : ℕ} {c : Row} → run G r bot w ≡ taken σ → Parse G w q c → Dec (r ≤ size c) → size c < r
      in_room e p (yes l) = let z : ◌≡◌ {A = ℕ} 0 1 = cc (no_room r p l) in absurd (omega arith)
      in_room e p (no l) = omega arith

      none-at : {n i : ℕ} {q : ℕ} {c : Row} → run G r bot w ≡ refused n i → Parse G w q c → Dec (r ≤ size c) → (n ≡ 8) × (r ≤ size c)
      none-at e p (yes l) = (cc (no_room r p l), l)
      none-at e p (no l) = let z : ◌≡◌ {A = ℕ} 0 1 = cc (parsed r p (omega arith)) in absurd (omega arith)

      fault : {n i : ℕ} → run G r bot w ≡ refused n i → Fault G bot w n i → Refusal G w r n i
      fault e large = no_space (λ q c p. (none-at e p (dec_le r (size c))).1)
      fault e (wrong f) = no_parse (at_place G f).0 (λ q c p. omega (arith, (none-at e p (dec_le r (size c))).0))

      by : (a : End) → run G r bot w ≡ a → Fine G bot w a → Told G w r a
      by (taken σ) e f =
          let p : Parse G w f.prod f.kids = record { prod = f.is_prod; start = f.is_start; der = f.derives; text = f.is_text } in
          record { prod = f.prod; kids = f.kids; state = f.state; is_stack = f.is_stack; parse = p; fits = in_room e p (dec_le r (size f.kids)) }
      by (refused n i) e f = fault e f
