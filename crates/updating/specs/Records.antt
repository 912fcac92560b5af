-- The records of a run: what its words say of each.
use Rattle.std.specs.Prelude.{◌≡◌, refl, cond, List, [], ◌∷◌, ℕ, zero, suc, ◌+◌, ◌-◌, ◌*◌, ◌/◌, ◌≤◌, ◌<◌, ltb, length, get_or, drop}
use Rattle.std.specs.Simd.{first_chunks}
use Rattle.std.proofs.Common.{sym, ap, ◌∙◌, subst, arith, lt-ltb, le-ltb, get_or-take, get_or-drop}
use Rattle.std.proofs.Math.Option.{some}
use Rattle.std.proofs.Math.Decide.{dec_lt}
use Rattle.std.proofs.Math.ListN.{get_elem?}
use Rattle.definitions.specs.Sheet.{T, P}
use Rattle.definitions.specs.Table.{Sym, tm, nt, Table, table_of}
use Rattle.definitions.specs.Tree.{mk, kind, Row, ∅, size, NRow, ε, ntok, nnod, erase, words, Kinds}
use Rattle.definitions.specs.Reading.{Tree, cons}
use Rattle.theory.specs.Table.Sides.{prods_is}
use Rattle.theory.specs.Machine.Update.{Valid, valid_der}
use Rattle.theory.specs.Records.Flat.{Word, wtok, wnod, flat, length-flat}
use Rattle.theory.specs.Records.Stand.{at_left, at_right}
use Rattle.theory.specs.Records.Scan.{recs}
use Rattle.machine.specs.Room.{kind_w, ident_w, size_w}
use Rattle.tree.specs.Rows.{kind_at, number_at, size_at, Rec, Stands, cells, stands_words, length-words}
use Rattle.list.specs.Pieces.{Forest, Piece}

-- the symbol of a kind; the identity of a node by its kind and number
abbrev pub sym_k : Table → ℕ → Sym
sym_k G k = cond (ltb k 256) (tm k) (nt (G.lhs (k - 256)))

abbrev pub num_k : ℕ → ℕ → ℕ
num_k k i = cond (ltb k 256) i 0

-- a token's kind, a production of the table
abbrev pub Fine : Table → Word → Type 0
Fine G (wtok x) = (0 < kind x) × (kind x < 256)
Fine G (wnod q n) = q < G.prods

-- the records of a run, three words each
abbrev pub records_of : List ℕ → List (List ℕ)
records_of run = first_chunks 3 (length run / 3) run

-- word j of record i: its kind, its number, its size
abbrev pub cell : List (List ℕ) → ℕ → ℕ → ℕ
cell nodes i j = get_or (get_or nodes i []) j 0

-- record i is w
pub record Coded (G : Table) (nodes : List (List ℕ)) (i : ℕ) (w : Word) : Type 0 where
  pub fine : Fine G w
  pub kind : cell nodes i 0 ≡ kind_w w
  pub ident : num_k (kind_w w) (cell nodes i 1) ≡ ident_w w
  pub size : cell nodes i 2 ≡ size_w w

-- the records are ws
pub record Reads (G : Table) (nodes : List (List ℕ)) (ws : List Word) : Type 0 where
  pub many : length nodes ≡ length ws
  pub at : (i : ℕ) (w : Word) → get_elem? ws i ≡ some w → Coded G nodes i w

-- ---- the records of what stands in the old row
pub record Coded-old (G : Table) (old : List ℕ) (j : ℕ) (w : Word) : Type 0 where
  pub fine : Fine G w
  pub kind : kind_at old j ≡ kind_w w
  pub ident : num_k (kind_w w) (number_at old j) ≡ ident_w w
  pub size : size_at old j ≡ size_w w

stands_at : (G : Table) (n : ℕ) → n ≤ 256 → (old : List ℕ) (a : ℕ) (f : NRow) → Stands old a f → Kinds n f → Valid G (erase f)
    → (i j : ℕ) (w : Word) → j ≡ a + i → get_elem? (recs f) i ≡ some w → Coded-old G old j w
stands_at G n few old a ε s k v i j w z e = let y : ◌≡◌ {A = ℕ} 0 1 = cc in absurd (omega arith)
stands_at G n few old a (ntok x y f) s k v zero j w z e =
    let u : wtok (mk x y) ≡ w = cc in
    let q : a ≡ j = omega arith in
    let r = subst (λ (b : ℕ). Rec old b x y 1) q s.0 in
    subst (λ (b : Word). Coded-old G old j b) u (record { fine = (k.0, omega (arith, k.1)); kind = r.kind; ident = rw (lt-ltb x 256 (omega (arith, k.1))) r.number; size = r.size })
stands_at G n few old a (ntok x y f) s k v (suc i) j w z e = stands_at G n few old (suc a) f s.1 k.2 v i j w (omega arith) e
stands_at G n few old a (nnod p y c f) s k v i j w z e = by (dec_lt i (size (erase c))) (dec_lt (size (erase c)) i) (λ h. stands_at G n few old a c s.0.0 k.0 (valid_der G v.1) i j w z h) (λ m l h. stands_at G n few old (suc (a + size (erase c))) f s.1 k.1 v.2 m j w l h)
  where
    x : Word
    x = wnod p (suc (size (erase c)))

    by : Dec (i < size (erase c)) → Dec (size (erase c) < i) → (get_elem? (recs c) i ≡ some w → Coded-old G old j w)
        → ((m : ℕ) → j ≡ suc (a + size (erase c)) + m → get_elem? (recs f) m ≡ some w → Coded-old G old j w) → Coded-old G old j w
    by (yes h) g kc kf = kc (sym (at_left (recs c) (x ∷ recs f) i (omega (arith, length-flat (erase c)))) ∙ e)
    by (no h) (yes g) kc kf =
        let m : ℕ = i - suc (size (erase c)) in
        kf m (omega arith) (sym (at_right (recs c) (x ∷ recs f) i (suc m) (omega (arith, length-flat (erase c)))) ∙ e)
    by (no h) (no g) kc kf =
        let u = sym (at_right (recs c) (x ∷ recs f) i 0 (omega (arith, length-flat (erase c)))) ∙ e in
        let q : x ≡ w = cc in
        let b : a + size (erase c) ≡ j = omega arith in
        let r = subst (λ (d : ℕ). Rec old d (256 + p) y (suc (size (erase c)))) b s.0.1 in
        subst (λ (d : Word). Coded-old G old j d) q (record { fine = v.0.below; kind = r.kind; ident = rw (le-ltb (256 + p) 256 (omega arith)) refl; size = r.size })

pub old_at : {t old : List ℕ} {a : ℕ} {f : NRow} → T t ≤ 256 → Forest t old a f → (i j : ℕ) (w : Word) → j ≡ a + i → get_elem? (recs f) i ≡ some w → Coded-old (table_of t) old j w
old_at {t} {old} {a} {f} few F i j w z e = stands_at (table_of t) (T t) few old a f F.stands F.kinds F.valid i j w z e

get_d_cells : (row : List ℕ) (i n j : ℕ) → j < n → get_or (cells row i n) j 0 ≡ get_or row (i + j) 0
get_d_cells row i zero j h = absurd (omega arith)
get_d_cells row i (suc n) zero h = let z : i + 0 ≡ i = omega arith in rw z refl
get_d_cells row i (suc n) (suc j) h = let z : suc i + j ≡ i + suc j = omega arith in get_d_cells row (suc i) n j (omega arith) ∙ ap (λ (m : ℕ). get_or row m 0) z

within : (ws : List Word) (i : ℕ) {w : Word} → get_elem? ws i ≡ some w → i < length ws
within ws i e = Rattle.theory.specs.Records.Stand.at_beyond ws i e

-- ---- the words of a run's records
length-chunks : (n k : ℕ) (xs : List ℕ) → length (first_chunks n k xs) ≡ k
length-chunks n zero xs = refl
length-chunks n (suc k) xs = ap suc (length-chunks n k (drop n xs))

cell-chunks : (k i j : ℕ) (xs : List ℕ) → i < k → j < 3 → cell (first_chunks 3 k xs) i j ≡ get_or xs (3 * i + j) 0
cell-chunks zero i j xs h l = absurd (omega arith)
cell-chunks (suc k) zero j xs h l = let z : 3 * 0 + j ≡ j = omega arith in rw z (get_or-take 3 xs j 0 l)
cell-chunks (suc k) (suc i) j xs h l =
    let z : 3 * suc i + j ≡ 3 + (3 * i + j) = omega arith in
    cell-chunks k i j (drop 3 xs) (omega arith) l ∙ get_or-drop 3 xs (3 * i + j) 0 ∙ ap (λ (m : ℕ). get_or xs m 0) (sym z)

-- ---- a piece's run
pub piece_reads : {t old : List ℕ} {v : ℕ} {x : Tree} → T t ≤ 256 → (P : Piece t old v x) → Reads (table_of t) (records_of (words P.row)) (flat (cons x ∅))
piece_reads {t} {old} {v} {x} few P =
    let a = P.start in
    let f = P.row in
    let n = size (erase f) in
    let c = stands_words old a f P.forest.stands in
    let k : length (words f) / 3 ≡ n = omega (arith, length-words f) in
    record {
      many = length-chunks 3 (length (words f) / 3) (words f) ∙ k ∙ ap size P.is ∙ sym (length-flat (cons x ∅));
      at = λ i w e.
          let e' : get_elem? (recs f) i ≡ some w = ap (λ (g : Row). get_elem? (flat g) i) P.is ∙ e in
          let o = old_at few P.forest i (a + i) w refl e' in
          let h : i < n = omega (arith, within (recs f) i e', length-flat (erase f)) in
          let z0 : 2 + 3 * a + (3 * i + 0) ≡ 2 + 3 * (a + i) = omega arith in
          let z1 : 2 + 3 * a + (3 * i + 1) ≡ 2 + 3 * (a + i) + 1 = omega arith in
          let z2 : 2 + 3 * a + (3 * i + 2) ≡ 2 + 3 * (a + i) + 2 = omega arith in
          let g : (j : ℕ) → j < 3 → cell (records_of (words f)) i j ≡ get_or old (2 + 3 * a + (3 * i + j)) 0 =
          λ j l. cell-chunks (length (words f) / 3) i j (words f) (omega arith) l ∙ ap (λ (u : List ℕ). get_or u (3 * i + j) 0) (sym c) ∙ get_d_cells old (2 + 3 * a) (3 * n) (3 * i + j) (omega arith) in
          record {
            fine = o.fine;
            kind = g 0 (omega arith) ∙ ap (λ (m : ℕ). get_or old m 0) z0 ∙ o.kind;
            ident = ap (num_k (kind_w w)) (g 1 (omega arith) ∙ ap (λ (m : ℕ). get_or old m 0) z1) ∙ o.ident;
            size = g 2 (omega arith) ∙ ap (λ (m : ℕ). get_or old m 0) z2 ∙ o.size;
          };
    }

-- ---- of one record
pub word_at : (ws : List Word) (i : ℕ) → i < length ws → (w : Word) × (get_elem? ws i ≡ some w)
word_at [] i h = absurd (omega arith)
word_at (x ∷ ws) zero h = (x, refl)
word_at (x ∷ ws) (suc i) h = word_at ws i (omega arith)

-- a kind from 256 on is of a production of the table
pub known : (t : List ℕ) {nodes : List (List ℕ)} {i : ℕ} {w : Word} → Coded (table_of t) nodes i w → 256 ≤ cell nodes i 0 → cell nodes i 0 - 256 < P t
known t {nodes} {i} {w} c h = by w c.fine c.kind
  where
    by : (w : Word) → Fine (table_of t) w → cell nodes i 0 ≡ kind_w w → cell nodes i 0 - 256 < P t
    by (wtok x) f k = absurd (omega (arith, f.1))
    by (wnod q n) f k = omega (arith, prods_is t)
