-- Document 01, "The tree": pieces, their rows of words, and when a lent tree is in order (else refusal 5).
use Rattle.std.specs.Prelude.{◌≡◌, List, [], ◌∷◌, ◌++◌, ℕ, zero, suc, ◌+◌, ◌*◌, ◌≤◌, ◌<◌, get_or, take}
use Rattle.std.proofs.Math.Decide.{ℕ_discrete}
use Rattle.definitions.specs.Sheet.{T, Between}
use Rattle.definitions.specs.Table.{Sym, tm, nt, Table, table_of}

-- a token: its terminal, and its number in the old tree (0: an inserted token, which equals no old one)
pub data Tok : Type 0 where
  mk : ℕ → ℕ → Tok

abbrev pub kind : Tok → ℕ
kind (mk k i) = k

abbrev pub ident : Tok → ℕ
ident (mk k i) = i

-- "A piece is a node with all below it." A row of pieces side by side: nothing; a token and the rest; a production's node over its
-- children, and the rest. Inner nodes have no number here: the machine does not look at it
pub data Row : Type 0 where
  ∅ : Row
  tok : Tok → Row → Row
  nod : ℕ → Row → Row → Row

abbrev pub ◌⧺◌ : Row → Row → Row
◌⧺◌ ∅ g = g
◌⧺◌ (tok x f) g = tok x (f ⧺ g)
◌⧺◌ (nod p c f) g = nod p c (f ⧺ g)

infixr 60 ◌⧺◌
-- tokens alone
abbrev pub row : List Tok → Row
row [] = ∅
row (x ∷ w) = tok x (row w)

-- nodes, tokens included; the tokens, left to right; how many
abbrev pub size : Row → ℕ
size ∅ = zero
size (tok x f) = suc (size f)
size (nod p c f) = size c + suc (size f)

abbrev pub yield : Row → List Tok
yield ∅ = []
yield (tok x f) = x ∷ yield f
yield (nod p c f) = yield c ++ yield f

abbrev pub toks : Row → ℕ
toks ∅ = 0
toks (tok x f) = suc (toks f)
toks (nod q c f) = toks c + toks f

-- the terminal that stands next: the first of w, or a where w is nothing
abbrev pub look : ℕ → List Tok → ℕ
look a [] = a
look a (x ∷ w) = kind x

-- ---- "a derivation tree by the productions (0 never used)"
module _ (G : Table) where
  pub record Prod (p : ℕ) : Type 0 where
    pub above : 0 < p
    pub below : p < G.prods

  -- the row is a derivation of the symbols
  pub data Der : Row → List Sym → Type 0 where
    d∅ : Der ∅ []
    dtok : {x : Tok} {f : Row} {γ : List Sym} → Der f γ → Der (tok x f) (tm (kind x) ∷ γ)
    dnod : {q : ℕ} {c f : Row} {γ : List Sym} → Prod q → Der c (G.rhs q) → Der f γ → Der (nod q c f) (nt (G.lhs q) ∷ γ)

-- f is a derivation tree of the text w: "The root is the start symbol"
pub record Derivation (t : List ℕ) (w : List Tok) (f : Row) : Type 0 where
  pub tree : Der (table_of t) f (nt (table_of t).start ∷ [])
  pub text : yield f ≡ w

-- ---- the tree with its numbers: a token's terminal and number; a production and a number over children
pub data NRow : Type 0 where
  ε : NRow
  ntok : ℕ → ℕ → NRow → NRow
  nnod : ℕ → ℕ → NRow → NRow → NRow

-- the pieces without the inner nodes' numbers
abbrev pub erase : NRow → Row
erase ε = ∅
erase (ntok k i f) = tok (mk k i) (erase f)
erase (nnod p i c f) = nod p (erase c) (erase f)

-- "three words a node, children before parent, left to right: kind (a token's terminal, or 256+p), number, size"
abbrev pub words : NRow → List ℕ
words ε = []
words (ntok k i f) = k ∷ i ∷ 1 ∷ words f
words (nnod p i c f) = words c ++ ((256 + p) ∷ i ∷ suc (size (erase c)) ∷ words f)

-- the numbers in written order
abbrev pub nums : NRow → List ℕ
nums ε = []
nums (ntok k i f) = i ∷ nums f
nums (nnod q i c f) = nums c ++ (i ∷ nums f)

-- "Word 0: count n. Word 1: the sheet's next number. Then three words a node"
abbrev pub written : NRow → ℕ → List ℕ
written r next = size (erase r) ∷ next ∷ words r

-- ---- in order

abbrev pub bit : {A : Type 0} → Dec A → ℕ
bit (yes h) = 1
bit (no h) = 0

-- 1 where i is j, else 0
unfoldable pub eqn : ℕ → ℕ → ℕ
eqn i j = bit (ℕ_discrete i j)

-- how often the number i stands on a token, on an inner node, in all
abbrev pub toc : ℕ → NRow → ℕ
toc i ε = 0
toc i (ntok k j f) = eqn i j + toc i f
toc i (nnod p j c f) = toc i c + toc i f

abbrev pub noc : ℕ → NRow → ℕ
noc i ε = 0
noc i (ntok k j f) = noc i f
noc i (nnod p j c f) = noc i c + (eqn i j + noc i f)

abbrev pub occ : ℕ → NRow → ℕ
occ i r = toc i r + noc i r

-- "numbers are distinct, at least 1 and below the next number"
pub record Fit (next : ℕ) (r : NRow) : Type 0 where
  pub pos : 0 < next
  pub low : occ 0 r ≡ 0
  pub below : (i : ℕ) → next ≤ i → occ i r ≡ 0
  pub apart : (i : ℕ) → occ i r ≤ 1

-- "token kinds are 1..T−1"
abbrev pub Kinds : ℕ → NRow → Type 0
Kinds T ε = Unit {0}
Kinds T (ntok k i f) = (0 < k) × (k < T) × Kinds T f
Kinds T (nnod p i c f) = Kinds T c × Kinds T f

-- "A lent tree is in order when the row holds 2+3n words (more are ignored), it is a derivation tree by the productions, sizes are
-- right, token kinds are 1..T−1, and numbers are distinct, at least 1 and below the next number." "The root is the start symbol".
-- r is the tree of the row
pub record InOrder (t row : List ℕ) (r : NRow) : Type 0 where
  pub nodes : Between 1 (size (erase r)) 2048
  pub holds : take (2 + 3 * size (erase r)) row ≡ written r (get_or row 1 0)
  pub derives : Der (table_of t) (erase r) (nt (table_of t).start ∷ [])
  pub kinds : Kinds (T t) r
  pub numbers : Fit (get_or row 1 0) r
