-- Document 01, "Updating", the moves: right-breaks, whole shifts, left-breaks, the turn over a reading list, and a whole reading.
use Rattle.std.specs.Prelude.{◌≡◌, List, [], ◌∷◌, ℕ, zero, suc, ◌+◌, ◌-◌, ◌≤◌}
use Rattle.std.proofs.Math.Option.{Option, none, some, get_or}
use Rattle.std.proofs.Math.Decide.{dec_le}
use Rattle.definitions.specs.Table.{Sym, tm, nt, Act, err, acc, sh, red, Table, trans}
use Rattle.definitions.specs.Tree.{Tok, kind, Row, ∅, tok, nod, ◌⧺◌, size, yield, look}
use Rattle.definitions.specs.Reading.{leaf, node, Stack, bot, push, top, End, refused, Counts, zeros, Move, reduction, token_shift, whole_shift, left_break, Turn, on, stop, plain, reduce}

-- a where the text is empty, else b
abbrev pub pick {ℓ} : {A : Type ℓ} → List Tok → A → A → A
pick [] a b = a
pick (x ∷ u) a b = b

-- ---- "right-break: while the top is no token, take it off if it has no tokens, else put its children in its place"
module _ (G : Table) where
  -- the state that s leads to on X, where it leads anywhere
  abbrev pub to : ℕ → Sym → ℕ
  to s X = get_or (trans G s X) 0

  -- a row of pieces onto the stack
  abbrev pub spread : Row → Stack → Stack
  spread ∅ σ = σ
  spread (tok x f) σ = spread f (push σ (to (top σ) (tm (kind x))) (leaf x))
  spread (nod q c f) σ = spread f (push σ (to (top σ) (nt (G.lhs q))) (node q c))

  -- that loop, in so many breaks ("each node taken off or replaced")
  pub data Breaks : ℕ → Stack → Stack → Type 0 where
    done : {σ : Stack} {s : ℕ} {x : Tok} → Breaks 0 (push σ s (leaf x)) (push σ s (leaf x))
    off : {n s q : ℕ} {c : Row} {σ τ : Stack} → yield c ≡ [] → Breaks n σ τ → Breaks (suc n) (push σ s (node q c)) τ
    open! : {n s q : ℕ} {c : Row} {σ τ : Stack} {x : Tok} {u : List Tok} → yield c ≡ x ∷ u → Breaks n (spread c σ) τ → Breaks (suc n) (push σ s (node q c)) τ

  -- what it comes to for the children of a piece: what stands after their last token goes, what ends in that token is opened
  abbrev pub right_break : Row → Stack → Stack
  right_break ∅ σ = σ
  right_break (tok x f) σ = right_break f (push σ (to (top σ) (tm (kind x))) (leaf x))
  right_break (nod q c f) σ = pick (yield f) (right_break c σ) (right_break f (push σ (to (top σ) (nt (G.lhs q))) (node q c)))

-- the nodes that it leaves standing; the breaks
abbrev pub standing : Row → ℕ
standing ∅ = zero
standing (tok x f) = suc (standing f)
standing (nod q c f) = pick (yield f) (standing c) (size c + suc (standing f))

abbrev pub breaks : Row → ℕ
breaks ∅ = zero
breaks (tok x f) = breaks f
breaks (nod q c f) = pick (yield f) (breaks f + suc (pick (yield c) 0 (breaks c))) (breaks f)

-- ---- the counts and the room of a move
abbrev pub tally : Move → Counts → Counts
tally reduction k = record { lefts = k.lefts; rights = k.rights; wholes = k.wholes; shifts = k.shifts; reductions = suc k.reductions }
tally token_shift k = record { lefts = k.lefts; rights = k.rights; wholes = k.wholes; shifts = suc k.shifts; reductions = k.reductions }
tally (whole_shift c) k = record { lefts = k.lefts; rights = k.rights + suc (breaks c); wholes = suc k.wholes; shifts = k.shifts; reductions = k.reductions }
tally left_break k = record { lefts = suc k.lefts; rights = k.rights; wholes = k.wholes; shifts = k.shifts; reductions = k.reductions }

-- the nodes that it adds
abbrev pub cost : Move → ℕ
cost reduction = 1
cost token_shift = 1
cost (whole_shift c) = standing c
cost left_break = 0

-- ---- the turn

-- "its children replace it in the list, those without tokens dropped"
abbrev pub tokened : Row → Row
tokened ∅ = ∅
tokened (tok x f) = tok x (tokened f)
tokened (nod q c f) = pick (yield c) (tokened f) (nod q c (tokened f))

-- "The room for a whole shift is judged after its right-breaks: more than 2,048 nodes held is 8."
abbrev pub fits : {m r : ℕ} → Dec (m ≤ r) → Turn → Turn
fits (yes h) a = a
fits (no h) a = stop (refused 8 0)

module _ (G : Table) where
  -- "If the state then has a goto on it, shift the piece whole, then right-break. .. If there is no goto, left-break"
  abbrev pub enter : ℕ → Stack → Row → Row → Option ℕ → Turn
  enter r σ c f none = on left_break σ (tokened c ⧺ f)
  enter r σ c f (some s) = fits (dec_le (standing c) r) (on (whole_shift c) (right_break G c σ) f)

  -- "make every reduction that its first token calls for, with room judged before each one as afresh"
  abbrev pub piece : ℕ → Act → Stack → ℕ → Row → Row → Turn
  piece r err σ q c f = enter r σ c f (G.goto (top σ) (G.lhs q))
  piece r acc σ q c f = enter r σ c f (G.goto (top σ) (G.lhs q))
  piece r (sh s) σ q c f = enter r σ c f (G.goto (top σ) (G.lhs q))
  piece r (red p) σ q c f = reduce G r p σ (nod q c f)

  -- "Token or end next: as afresh." "Piece that is a nonterminal next"
  abbrev pub turn : ℕ → Stack → Row → Turn
  turn r σ ∅ = plain G r (G.act (top σ) 0) σ ∅
  turn r σ (tok x f) = plain G r (G.act (top σ) (kind x)) σ (tok x f)
  turn r σ (nod q c f) = piece r (G.act (top σ) (look 0 (yield (nod q c f)))) σ q c f

-- ---- a whole reading of a row of pieces; afresh, of tokens alone
pub record Done : Type 0 where
  pub end : End
  pub counts : Counts

abbrev pub after : (Move → Stack → Row → Done) → Counts → Turn → Done
after next k (on m σ f) = next m σ f
after next k (stop e) = record { end = e; counts = k }

module _ (G : Table) where
  -- at most n moves; room r
  unfoldable pub read : ℕ → ℕ → Counts → Stack → Row → Done
  read zero r k σ f = record { end = refused 10 0; counts = k }
  read (suc n) r k σ f = after (λ m σ' f'. read n (r - cost m) (tally m k) σ' f') k (turn G r σ f)

  -- each move takes up room or shortens the list, so that these moves are enough
  abbrev pub reading : ℕ → Row → Done
  reading r f = read (suc (r + size f)) r zeros bot f
