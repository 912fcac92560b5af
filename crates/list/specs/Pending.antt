-- The reading list in the working room: words from 8,193 on, the next piece last. A word below 2,048 is the root of a piece of the old row;
-- 2,048 and k is the code k of the inserted row. From 10,241 on stand the counts of tokens among the first records of the old row.
use Rattle.std.specs.Prelude.{◌≡◌, refl, List, ℕ, suc, ◌+◌, ◌≤◌, ◌<◌, length, get_or}
use Rattle.std.proofs.Common.{sym, ◌∙◌, subst, arith}
use Rattle.definitions.specs.Tree.{mk, Row, ∅, tok, toks}
use Rattle.definitions.specs.Reading.{Tree, leaf, node, cons}
use Rattle.tree.specs.Tokens.{tokens}
use Rattle.list.specs.Pieces.{Piece}

abbrev pub list_at : ℕ
list_at = 8193

abbrev pub tokens_at : ℕ
tokens_at = 10241

-- the m words of the list hold the row f
pub data Pending (t old put r : List ℕ) : ℕ → Row → Type 0 where
  none : Pending t old put r 0 ∅
  piece : {m : ℕ} {f : Row} (v : ℕ) (x : Tree) → get_or r (list_at + m) 0 ≡ v → v < 2048 → Piece t old v x → 0 < toks (cons x ∅) → Pending t old put r m f
      → Pending t old put r (suc m) (cons x f)
  code : {m : ℕ} {f : Row} (k : ℕ) → get_or r (list_at + m) 0 ≡ 2048 + k → k < length put → Pending t old put r m f
      → Pending t old put r (suc m) (tok (mk (get_or put k 0) 0) f)

-- what is written elsewhere leaves it
pub pending_stands : {t old put r r' : List ℕ} {m : ℕ} {f : Row} → ((j : ℕ) → j < m → get_or r' (list_at + j) 0 ≡ get_or r (list_at + j) 0)
    → Pending t old put r m f → Pending t old put r' m f
pending_stands k none = none
pending_stands k (piece {m = m} v x e l p h q) = piece v x (k m (omega arith) ∙ e) l p h (pending_stands (λ j i. k j (omega arith)) q)
pending_stands k (code {m = m} c e l q) = code c (k m (omega arith) ∙ e) l (pending_stands (λ j i. k j (omega arith)) q)

-- each word has a token
pub toks_cons : (x : Tree) (f : Row) → toks (cons x f) ≡ toks (cons x ∅) + toks f
toks_cons (leaf x) f = omega arith
toks_cons (node q c) f = omega arith

pub pending_toks : {t old put r : List ℕ} {m : ℕ} {f : Row} → Pending t old put r m f → m ≤ toks f
pending_toks none = omega arith
pending_toks (piece {f = f} v x e l p h q) = omega (arith, toks_cons x f, pending_toks q)
pending_toks (code k e l q) = omega (arith, pending_toks q)

-- the counts of tokens among the first 0, 1, .. records
abbrev pub Counted : List ℕ → List ℕ → Type 0
Counted old r = (j : ℕ) → j ≤ get_or old 0 0 → get_or r (tokens_at + j) 0 ≡ tokens old j

-- the entry e on top of m words, and the row with it
pub data Next (t old put r : List ℕ) (m : ℕ) : ℕ → Row → Type 0 where
  old_piece : {v : ℕ} {f : Row} (x : Tree) → v < 2048 → Piece t old v x → 0 < toks (cons x ∅) → Pending t old put r m f → Next t old put r m v (cons x f)
  new_code : {f : Row} (k : ℕ) → k < length put → Pending t old put r m f → Next t old put r m (2048 + k) (tok (mk (get_or put k 0) 0) f)

pub next : {t old put r : List ℕ} {f : Row} (m : ℕ) → Pending t old put r (suc m) f → Next t old put r m (get_or r (list_at + m) 0) f
next {t} {old} {put} {r} m (piece {f = f} v x e l P h q) = subst (λ (i : ℕ). Next t old put r m i (cons x f)) (sym e) (old_piece x l P h q)
next {t} {old} {put} {r} m (code {f = f} k e l q) = subst (λ (i : ℕ). Next t old put r m i (tok (mk (get_or put k 0) 0) f)) (sym e) (new_code k l q)

pub nothing : {t old put r : List ℕ} {f : Row} → Pending t old put r 0 f → f ≡ ∅
nothing none = refl
