-- Document 01, "Reading afresh": what the machine holds, its five counts, how it ends, and the turn of a token or the end mark.
use Rattle.std.proofs.Math.Option.{Option, none, some}
use Rattle.std.specs.Prelude.{ℕ, zero, suc, ◌+◌, length}
use Rattle.definitions.specs.Table.{Act, err, acc, sh, red, Table}
use Rattle.definitions.specs.Tree.{Tok, Row, ∅, tok, nod, size, toks}

-- one piece
pub data Tree : Type 0 where
  leaf : Tok → Tree
  node : ℕ → Row → Tree

abbrev pub cons : Tree → Row → Row
cons (leaf x) f = tok x f
cons (node p c) f = nod p c f

-- the pieces held, each with the state that it led to; "The machine starts in state 0"
pub data Stack : Type 0 where
  bot : Stack
  push : Stack → ℕ → Tree → Stack

abbrev pub top : Stack → ℕ
top bot = 0
top (push σ s t) = s

-- nodes held; "tokens shifted, whole pieces counted by their tokens"
abbrev pub held : Stack → ℕ
held bot = 0
held (push σ s t) = held σ + size (cons t ∅)

abbrev pub shifted : Stack → ℕ
shifted bot = 0
shifted (push σ s t) = shifted σ + toks (cons t ∅)

-- n pieces off the stack, in text order before f
pub data Popped : Type 0 where
  under : Popped
  popped : Row → Stack → Popped

abbrev pub pop : ℕ → Stack → Row → Popped
pop zero σ f = popped f σ
pop (suc n) bot f = under
pop (suc n) (push σ s t) f = pop n σ (cons t f)

-- accepted; or refused with a number and a place
pub data End : Type 0 where
  taken : Stack → End
  refused : ℕ → ℕ → End

-- "five counts: left-breaks, right-breaks, whole shifts of nonterminals, token shifts, reductions"
pub record Counts : Type 0 where
  pub lefts : ℕ
  pub rights : ℕ
  pub wholes : ℕ
  pub shifts : ℕ
  pub reductions : ℕ

abbrev pub zeros : Counts
zeros = record { lefts = 0; rights = 0; wholes = 0; shifts = 0; reductions = 0 }

-- the moves; of a whole shift, the piece's children
pub data Move : Type 0 where
  reduction : Move
  token_shift : Move
  whole_shift : Row → Move
  left_break : Move

-- what a turn comes to: a move, to the stack and what is left to read; or the end
pub data Turn : Type 0 where
  on : Move → Stack → Row → Turn
  stop : End → Turn

-- ---- "takes the action for the next token, end mark last". r is the room: how many nodes may still be added.
-- "The action is looked up first; if it adds a node and 2,048 are held, the reading ends with 8."
module _ (G : Table) where
  -- "a reduction pops below the bottom or finds no goto": 10
  abbrev pub land : ℕ → Row → Row → Stack → Option ℕ → Turn
  land p f c σ none = stop (refused 10 0)
  land p f c σ (some s) = on reduction (push σ s (node p c)) f

  abbrev pub settle : ℕ → Row → Popped → Turn
  settle p f under = stop (refused 10 0)
  settle p f (popped c σ) = land p f c σ (G.goto (top σ) (G.lhs p))

  abbrev pub reduce : ℕ → ℕ → Stack → Row → Turn
  reduce zero p σ f = stop (refused 8 0)
  reduce (suc r) p σ f = settle p f (pop (length (G.rhs p)) σ ∅)

  -- (the end mark is never shifted: it is in no right side)
  abbrev pub shift : ℕ → ℕ → Stack → Row → Turn
  shift zero s σ f = stop (refused 8 0)
  shift (suc r) s σ ∅ = stop (refused 10 0)
  shift (suc r) s σ (tok x f) = on token_shift (push σ s (leaf x)) f
  shift (suc r) s σ (nod q c f) = stop (refused 10 0)

  -- a token or the end mark next; "The place of refusal 7 is the count of tokens shifted."
  abbrev pub plain : ℕ → Act → Stack → Row → Turn
  plain r err σ f = stop (refused 7 (shifted σ))
  plain r acc σ f = stop (taken σ)
  plain r (sh s) σ f = shift r s σ f
  plain r (red p) σ f = reduce r p σ f
