-- Pieces of the old row: what stands in the records from one to another, its last piece, and what stands inside a piece.
use Rattle.std.specs.Prelude.{◌≡◌, refl, List, ℕ, suc, ◌+◌, ◌≤◌, ◌<◌, get_or}
use Rattle.std.proofs.Common.{sym, ap, ◌∙◌, subst, arith}
use Rattle.definitions.specs.Sheet.{T}
use Rattle.definitions.specs.Table.{Table, table_of}
use Rattle.definitions.specs.Tree.{mk, Row, ∅, tok, nod, ◌⧺◌, size, toks, Prod, Der, NRow, ε, ntok, nnod, erase, Kinds, InOrder}
use Rattle.definitions.specs.Reading.{Tree, leaf, node, cons}
use Rattle.theory.specs.Machine.Rows.{size-append}
use Rattle.theory.specs.Machine.Update.{Valid, valid_der}
use Rattle.theory.specs.Tree.Build.{join, small}
use Rattle.tree.specs.Rows.{kind_at, number_at, size_at, Stands, holds_stands}
use Rattle.tree.specs.Tokens.{tokens, tokens-piece}

-- ---- rows side by side
pub erase-join : (f g : NRow) → erase (join f g) ≡ erase f ⧺ erase g
erase-join ε g = refl
erase-join (ntok k i f) g = ap (tok (mk k i)) (erase-join f g)
erase-join (nnod q i c f) g = ap (nod q (erase c)) (erase-join f g)

stands_split : (row : List ℕ) (a b : ℕ) (f g : NRow) → b ≡ a + size (erase f) → Stands row a (join f g) → Stands row a f × Stands row b g
stands_split row a b ε g e s = let z : b ≡ a = omega arith in (tt, rw z s)
stands_split row a b (ntok k i f) g e s = let r = stands_split row (suc a) b f g (omega arith) s.1 in ((s.0, r.0), r.1)
stands_split row a b (nnod q i c f) g e s =
    let r = stands_split row (suc (a + size (erase c))) b f g (omega arith) s.1 in ((s.0, r.0), r.1)

kinds_split : (n : ℕ) (f g : NRow) → Kinds n (join f g) → Kinds n f × Kinds n g
kinds_split n ε g k = (tt, k)
kinds_split n (ntok x i f) g k = let r = kinds_split n f g k.2 in ((k.0, k.1, r.0), r.1)
kinds_split n (nnod q i c f) g k = let r = kinds_split n f g k.1 in ((k.0, r.0), r.1)

valid_split : (G : Table) (f g : Row) → Valid G (f ⧺ g) → Valid G f × Valid G g
valid_split G ∅ g v = (tt, v)
valid_split G (tok x f) g v = valid_split G f g v
valid_split G (nod q c f) g v = let r = valid_split G f g v.2 in ((v.0, v.1, r.0), r.1)

-- ---- the pieces of f, by the table's productions, stand in the old row from record a on
pub record Forest (t old : List ℕ) (a : ℕ) (f : NRow) : Type 0 where
  pub stands : Stands old a f
  pub kinds : Kinds (T t) f
  pub valid : Valid (table_of t) (erase f)
  pub within : a + size (erase f) ≤ get_or old 0 0

-- the whole tree
pub all_old : {t old : List ℕ} {r : NRow} → InOrder t old r → Forest t old 0 r
all_old {t} {old} {r} o =
    let h = holds_stands old r o.holds in
    record { stands = h.1; kinds = o.kinds; valid = valid_der (table_of t) o.derives; within = omega (arith, h.0.0) }

pub split : {t old : List ℕ} {a : ℕ} (f g : NRow) (b : ℕ) → b ≡ a + size (erase f) → Forest t old a (join f g) → Forest t old a f × Forest t old b g
split {t} {old} {a} f g b e F =
    let s = stands_split old a b f g e F.stands in
    let k = kinds_split (T t) f g F.kinds in
    let v = valid_split (table_of t) (erase f) (erase g) (rw (erase-join f g) at F.valid) in
    let n : size (erase (join f g)) ≡ size (erase f) + size (erase g) = ap size (erase-join f g) ∙ size-append (erase f) (erase g) in (
      record { stands = s.0; kinds = k.0; valid = v.0; within = omega (arith, F.within) },
      record { stands = s.1; kinds = k.1; valid = v.1; within = omega (arith, F.within) },
    )

-- ---- one piece
abbrev pub root_kind : Tree → ℕ
root_kind (leaf (mk k i)) = k
root_kind (node q c) = 256 + q

-- the piece x ends with record v of the old row
pub record Piece (t old : List ℕ) (v : ℕ) (x : Tree) : Type 0 where
  pub row : NRow
  pub is : erase row ≡ cons x ∅
  pub start : ℕ
  pub ends : start + size (cons x ∅) ≡ suc v
  pub forest : Forest t old start row

-- the row's last piece
pub record Last (f : NRow) : Type 0 where
  pub rest : NRow
  pub piece : NRow
  pub tree : Tree
  pub one : erase piece ≡ cons tree ∅
  pub is : f ≡ join rest piece

pub last : (f : NRow) → 0 < size (erase f) → Last f
last ε h = absurd (omega arith)
last (ntok k i ε) h = record { rest = ε; piece = ntok k i ε; tree = leaf (mk k i); one = refl; is = refl }
last (ntok k i (ntok l j f)) h =
    let r = last (ntok l j f) (omega arith) in
    record { rest = ntok k i r.rest; piece = r.piece; tree = r.tree; one = r.one; is = ap (ntok k i) r.is }
last (ntok k i (nnod q j c f)) h =
    let r = last (nnod q j c f) (omega arith) in
    record { rest = ntok k i r.rest; piece = r.piece; tree = r.tree; one = r.one; is = ap (ntok k i) r.is }
last (nnod p i d ε) h = record { rest = ε; piece = nnod p i d ε; tree = node p (erase d); one = refl; is = refl }
last (nnod p i d (ntok l j f)) h =
    let r = last (ntok l j f) (omega arith) in
    record { rest = nnod p i d r.rest; piece = r.piece; tree = r.tree; one = r.one; is = ap (nnod p i d) r.is }
last (nnod p i d (nnod q j c f)) h =
    let r = last (nnod q j c f) (omega arith) in
    record { rest = nnod p i d r.rest; piece = r.piece; tree = r.tree; one = r.one; is = ap (nnod p i d) r.is }

-- ---- the last piece of what stands from record a up to record b
pub record Ending (t old : List ℕ) (a b : ℕ) (f : NRow) : Type 0 where
  pub rest : NRow
  pub tree : Tree
  pub is : erase f ≡ erase rest ⧺ cons tree ∅
  pub before : Forest t old a rest
  pub piece : Piece t old b tree
  pub starts : piece.start ≡ a + size (erase rest)

pub ending : {t old : List ℕ} {a : ℕ} (b : ℕ) (f : NRow) → a + size (erase f) ≡ suc b → a ≤ b → Forest t old a f → Ending t old a b f
ending {t} {old} {a} b f e l F =
    let r = last f (omega arith) in
    let z : erase f ≡ erase r.rest ⧺ cons r.tree ∅ = ap erase r.is ∙ erase-join r.rest r.piece ∙ ap (erase r.rest ⧺◌) r.one in
    let n : size (erase f) ≡ size (erase r.rest) + size (cons r.tree ∅) = ap size z ∙ size-append (erase r.rest) (cons r.tree ∅) in
    let s = split r.rest r.piece (a + size (erase r.rest)) refl (subst (λ (g : NRow). Forest t old a g) r.is F) in
    record {
      rest = r.rest;
      tree = r.tree;
      is = z;
      before = s.0;
      piece = record { row = r.piece; is = r.one; start = a + size (erase r.rest); ends = omega arith; forest = s.1 };
      starts = refl;
    }

-- ---- the words of a piece's root, and what stands inside
pub record Root (old : List ℕ) (v : ℕ) (x : Tree) : Type 0 where
  pub kind : kind_at old v ≡ root_kind x
  pub many : size_at old v ≡ size (cons x ∅)
  pub within : v < get_or old 0 0

pub root : {t old : List ℕ} {v : ℕ} {x : Tree} → Piece t old v x → Root old v x
root {t} {old} {v} {x} P = by x P.row P.is P.ends P.forest.stands P.forest.within
  where
    by : (x : Tree) (f : NRow) → erase f ≡ cons x ∅ → P.start + size (cons x ∅) ≡ suc v → Stands old P.start f → P.start + size (erase f) ≤ get_or old 0 0 → Root old v x
    by (leaf y) ε e l s w = let z : ◌≡◌ {A = ℕ} 0 1 = cc in absurd (omega arith)
    by (leaf (mk k i)) (ntok a b f) e l s w =
        let z : P.start ≡ v = omega arith in
        let r = s.0 in
        let u : a ≡ k = cc in
        record { kind = ap (kind_at old) (sym z) ∙ r.kind ∙ u; many = ap (size_at old) (sym z) ∙ r.size; within = omega (arith, ap size e) }
    by (leaf y) (nnod q i c f) e l s w = let z : ◌≡◌ {A = ℕ} 0 1 = cc in absurd (omega arith)
    by (node q c) ε e l s w = let z : ◌≡◌ {A = ℕ} 0 1 = cc in absurd (omega arith)
    by (node q c) (ntok a b f) e l s w = let z : ◌≡◌ {A = ℕ} 0 1 = cc in absurd (omega arith)
    by (node q c) (nnod p i d f) e l s w =
        let d' : erase d ≡ c = cc in
        let n : size (erase d) ≡ size c = ap size d' in
        let z : P.start + size (erase d) ≡ v = omega arith in
        let r = s.0.1 in
        let u : p ≡ q = cc in
        record { kind = ap (kind_at old) (sym z) ∙ r.kind ∙ ap (256 +◌) u; many = ap (size_at old) (sym z) ∙ r.size ∙ omega arith; within = omega (arith, ap size e) }

-- a token's number
pub root-number : {t old : List ℕ} {v k i : ℕ} → Piece t old v (leaf (mk k i)) → number_at old v ≡ i
root-number {t} {old} {v} {k} {i} P = by P.row P.is P.ends P.forest.stands
  where
    by : (f : NRow) → erase f ≡ tok (mk k i) ∅ → P.start + 1 ≡ suc v → Stands old P.start f → number_at old v ≡ i
    by ε e l s = let z : ◌≡◌ {A = ℕ} 0 1 = cc in absurd (omega arith)
    by (ntok a b f) e l s =
        let z : P.start ≡ v = omega arith in
        let u : b ≡ i = cc in ap (number_at old) (sym z) ∙ s.0.number ∙ u
    by (nnod q j c f) e l s = let z : ◌≡◌ {A = ℕ} 0 1 = cc in absurd (omega arith)

pub root_real : {t old : List ℕ} {v k i : ℕ} → Piece t old v (leaf (mk k i)) → (0 < k) × (k < T t)
root_real {t} {old} {v} {k} {i} P = by P.row P.is P.forest.kinds
  where
    by : (f : NRow) → erase f ≡ tok (mk k i) ∅ → Kinds (T t) f → (0 < k) × (k < T t)
    by ε e s = let z : ◌≡◌ {A = ℕ} 0 1 = cc in absurd (omega arith)
    by (ntok a b f) e s = let u : a ≡ k = cc in (rw u at s.0, rw u at s.1)
    by (nnod q j c f) e s = let z : ◌≡◌ {A = ℕ} 0 1 = cc in absurd (omega arith)

-- the children of the piece that ends with record v
pub record Inside (t old : List ℕ) (v q : ℕ) (c : Row) : Type 0 where
  pub kids : NRow
  pub is : erase kids ≡ c
  pub start : ℕ
  pub ends : start + size c ≡ v
  pub forest : Forest t old start kids
  pub prod : Prod (table_of t) q
  pub derives : Der (table_of t) c ((table_of t).rhs q)

pub inside : {t old : List ℕ} {v q : ℕ} {c : Row} → Piece t old v (node q c) → Inside t old v q c
inside {t} {old} {v} {q} {c} P = by P.row P.is P.forest
  where
    by : (f : NRow) → erase f ≡ nod q c ∅ → Forest t old P.start f → Inside t old v q c
    by ε e F = let z : ◌≡◌ {A = ℕ} 0 1 = cc in absurd (omega arith)
    by (ntok a b f) e F = let z : ◌≡◌ {A = ℕ} 0 1 = cc in absurd (omega arith)
    by (nnod p i d f) e F =
        let z : erase d ≡ c = cc in
        let y : p ≡ q = cc in
        let n = ap size z in
        let D : Der (table_of t) c ((table_of t).rhs q) = rw (z, y) at F.valid.1 in
        record {
          kids = d;
          is = z;
          start = P.start;
          ends = omega (arith, P.ends);
          forest = record { stands = F.stands.0.0; kinds = F.kinds.0; valid = rw z (valid_der (table_of t) D); within = omega (arith, F.within) };
          prod = rw y at F.valid.0;
          derives = D;
        }

-- ---- its tokens are the difference of two counts
pub tokens_forest : {t old : List ℕ} {a : ℕ} (b : ℕ) (f : NRow) → T t ≤ 256 → Forest t old a f → a + size (erase f) ≡ b → tokens old b ≡ tokens old a + toks (erase f)
tokens_forest {t} {old} {a} b f few F e = tokens-piece old a b f F.stands (small (T t) few f F.kinds) e

pub tokens_of : {t old : List ℕ} {v : ℕ} {x : Tree} → T t ≤ 256 → (P : Piece t old v x) → tokens old (suc v) ≡ tokens old P.start + toks (cons x ∅)
tokens_of {t} {old} {v} few P = tokens_forest (suc v) P.row few P.forest (omega (arith, P.ends, ap size P.is)) ∙ ap (λ (f : Row). tokens old P.start + toks f) P.is
