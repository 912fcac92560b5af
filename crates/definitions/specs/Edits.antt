-- Document 01, "Updating": edits and their rules (else refusal 6), the edited text, clean pieces and the reading list.
use Rattle.std.specs.Prelude.{◌≡◌, Bool, true, false, ◌&&◌, ◌||◌, not, cond, List, [], ◌∷◌, ◌++◌, ℕ, zero, suc, ◌+◌, ◌≤◌, ◌<◌, leb, ltb, eqb, length, take, drop}
use Rattle.definitions.specs.Sheet.{T}
use Rattle.definitions.specs.Tree.{Tok, mk, Row, ∅, tok, nod, ◌⧺◌, yield}

-- "Each edit is a record of place, tokens removed, tokens put in (32-bit numbers; lent as a row of words, a part of a record at the
-- end breaks the rules)."
pub record Edit : Type 0 where
  pub place : ℕ
  pub removed : ℕ
  pub put : ℕ

abbrev pub edit_words : List Edit → List ℕ
edit_words [] = []
edit_words (e ∷ es) = e.place ∷ e.removed ∷ e.put ∷ edit_words es

-- "Places count old tokens; a place is not below the previous place plus its removals; place plus removals stays within the old text."
abbrev pub Places : ℕ → ℕ → List Edit → Type 0
Places from n [] = Unit {0}
Places from n (e ∷ es) = (from ≤ e.place) × (e.place + e.removed ≤ n) × Places (e.place + e.removed) n es

abbrev pub put_in : List Edit → ℕ
put_in [] = 0
put_in (e ∷ es) = e.put + put_in es

-- "token codes (32-bit words, 1..T−1)"
abbrev pub Codes : ℕ → List ℕ → Type 0
Codes T [] = Unit {0}
Codes T (a ∷ codes) = (0 < a) × (a < T) × Codes T codes

-- tokens that no old tree has
abbrev pub inserted : List ℕ → List Tok
inserted [] = []
inserted (a ∷ codes) = mk a 0 ∷ inserted codes

-- ---- the edited text: the old tokens that no edit removes, each with what is put in at its place before it

abbrev pub gone : ℕ → List Edit → Bool
gone i [] = false
gone i (e ∷ es) = (leb e.place i && ltb i (e.place + e.removed)) || gone i es

-- the tokens put in at place i, in the order of the edits, of the inserted codes
abbrev pub put_at : ℕ → List Edit → List ℕ → List Tok
put_at i [] codes = []
put_at i (e ∷ es) codes = inserted (cond (eqb e.place i) (take e.put codes) []) ++ put_at i es (drop e.put codes)

-- of an old token: what is put in before it, and whether it remains
pub data Mark : Type 0 where
  mark : List Tok → Bool → Mark

-- the marks of n old tokens from place i on
abbrev pub marks : ℕ → ℕ → List Edit → List ℕ → List Mark
marks i zero es codes = []
marks i (suc n) es codes = mark (put_at i es codes) (not (gone i es)) ∷ marks (suc i) n es codes

abbrev pub edited : List Tok → List Mark → List Tok
edited [] ms = []
edited (x ∷ u) [] = x ∷ u
edited (x ∷ u) (mark i true ∷ ms) = i ++ (x ∷ edited u ms)
edited (x ∷ u) (mark i false ∷ ms) = i ++ edited u ms

abbrev pub new_text : List Tok → List Edit → List ℕ → List Tok
new_text old es codes = edited old (marks 0 (length old) es codes) ++ put_at (length old) es codes

-- the edits of the row, with the inserted codes, are in order. "The inserted codes are used up exactly. An edit of nothing is
-- allowed. At most 2,048 tokens result."
pub record EditsInOrder (t : List ℕ) (old : List Tok) (row codes : List ℕ) (es : List Edit) : Type 0 where
  pub records : edit_words es ≡ row
  pub places : Places 0 (length old) es
  pub used : put_in es ≡ length codes
  pub known : Codes (T t) codes
  pub few : length (new_text old es codes) ≤ 2048

-- ---- "A piece with tokens is *clean* if all its tokens remain and stand side by side in the new text."
pub record Clean (text u : List Tok) : Type 0 where
  pub some : 0 < length u
  pub before : List Tok
  pub behind : List Tok
  pub stand : text ≡ before ++ (u ++ behind)

-- "the largest clean pieces": of each piece the piece itself where it is clean, else those of its children
pub data Largest (text : List Tok) : Row → Row → Type 0 where
  none : Largest text ∅ ∅
  stays : {x : Tok} {f g : Row} → Clean text (x ∷ []) → Largest text f g → Largest text (tok x f) (tok x g)
  goes : {x : Tok} {f g : Row} → (Clean text (x ∷ []) → ⊥) → Largest text f g → Largest text (tok x f) g
  whole : {q : ℕ} {c f g : Row} → Clean text (yield c) → Largest text f g → Largest text (nod q c f) (nod q c g)
  parts : {q : ℕ} {c f g h : Row} → (Clean text (yield c) → ⊥) → Largest text c h → Largest text f g → Largest text (nod q c f) (h ⧺ g)

-- the list without its inserted tokens
abbrev pub olds : Row → Row
olds ∅ = ∅
olds (tok (mk k zero) f) = olds f
olds (tok (mk k (suc i)) f) = tok (mk k (suc i)) (olds f)
olds (nod q c f) = nod q c (olds f)

-- "The reading list is the largest clean pieces and the inserted tokens, in text order"
pub record ReadingList (text : List Tok) (old list : Row) : Type 0 where
  pub pieces : Largest text old (olds list)
  pub order : yield list ≡ text
