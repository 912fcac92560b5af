-- Pieces that fill right records are a derivation with its words there; and the records of a derivation are right and its pieces fill them.
use Rattle.std.specs.Prelude.{◌≡◌, refl, List, [], ◌∷◌, ℕ, zero, suc, ◌+◌, ◌≤◌, ◌<◌}
use Rattle.std.proofs.Common.{sym, ap, ◌∙◌, arith}
use Rattle.std.proofs.Math.Decide.{dec_lt}
use Rattle.definitions.specs.Sheet.{T, left}
use Rattle.definitions.specs.Table.{Sym, tm, nt, sym_of, table_of}
use Rattle.definitions.specs.Tree.{size, Der, d∅, NRow, ε, ntok, nnod, erase, Kinds}
use Rattle.theory.specs.Table.Sides.{sym_tm, sym_nonterminal, prods_is, lhs_is}
use Rattle.theory.specs.Tree.Derive.{parts, whole}
use Rattle.tree.specs.Rows.{kind_at, number_at, size_at, Stands}
use Rattle.tree.specs.Shape.{code, Root, Pieces, Right, token, node, Rights, code_token, code_node, pieces_within}

module _ (t row : List ℕ) (few : T t ≤ 128) where
  -- a derivation of γ that stands in the records from e up to j
  pub record Grown (e j : ℕ) (γ : List Sym) : Type 0 where
    pub tree : NRow
    pub stands : Stands row e tree
    pub fills : e + size (erase tree) ≡ j
    pub derives : Der (table_of t) (erase tree) γ
    pub kinds : Kinds (T t) tree

  -- pieces that fill right records, by what fills the records before each of their roots
  forest : (j : ℕ) → Rights t row j → ((m : ℕ) → m < j → (e : ℕ) (γ : List Sym) → Pieces t row e m γ → Grown e m γ)
      → (e : ℕ) (γ : List Sym) → Pieces t row e j γ → Grown e j γ
  forest j R H e [] p = record { tree = ε; stands = tt; fills = omega arith; derives = d∅; kinds = tt }
  forest j R H e (X ∷ γ) p = by p.0 p.1.0 inside (R p.0 inside) (forest j R H (suc p.0) γ p.1.1)
    where
      inside : p.0 < j
      inside = pieces_within t row (suc p.0) j γ p.1.1

      by : (m : ℕ) → Root t row e m X → m < j → Right t row m → Grown (suc m) j γ → Grown e j (X ∷ γ)
      by m r h (token k) g =
          let z : m ≡ e = omega (arith, r.reach, k.alone) in
          let a = k.above in
          let b = k.below in
          let x : X ≡ tm (kind_at row m) = sym r.symbol ∙ ap sym_of (code_token t (kind_at row m) (omega arith)) ∙ sym_tm (kind_at row m) (omega arith) in
          record {
            tree = ntok (kind_at row m) (number_at row m) g.tree;
            stands = (record { kind = ap (kind_at row) (sym z); number = ap (number_at row) (sym z); size = ap (size_at row) (sym z) ∙ k.alone }, rw (← z) g.stands);
            fills = omega (arith, g.fills);
            derives = whole (table_of t) (erase (ntok (kind_at row m) (number_at row m) g.tree)) (X ∷ γ) (x, g.derives);
            kinds = (a, b, g.kinds);
          }
      by m r h (node q d k) g =
          let c = H m h d ((table_of t).rhs q) k.children in
          let z : d ≡ e = omega (arith, r.reach, k.whole) in
          let y : e + size (erase c.tree) ≡ m = omega (arith, c.fills) in
          let x : X ≡ nt ((table_of t).lhs q) =
          sym r.symbol ∙ ap (λ n. sym_of (code t n)) k.kind ∙ ap sym_of (code_node t q) ∙ sym_nonterminal (left t q) ∙ ap nt (sym (lhs_is t q)) in
          record {
            tree = nnod q (number_at row m) c.tree g.tree;
            stands = ((rw (← z) c.stands, rw y (record { kind = k.kind; number = refl; size = omega (arith, k.whole) })), rw y g.stands);
            fills = omega (arith, g.fills);
            derives = whole (table_of t) (erase (nnod q (number_at row m) c.tree g.tree)) (X ∷ γ) (x, ((record { above = k.above; below = rw (prods_is t) k.below }, c.derives), g.derives));
            kinds = (c.kinds, g.kinds);
          }

  grows : (n j : ℕ) → j ≤ n → Rights t row j → (e : ℕ) (γ : List Sym) → Pieces t row e j γ → Grown e j γ
  grows zero j h R = forest j R (λ m l. absurd (omega arith))
  grows (suc n) j h R = forest j R (λ m l. grows n m (omega arith) (λ i k. R i (omega arith)))

  -- pieces that fill right records are a derivation
  pub grown : (j : ℕ) → Rights t row j → (e : ℕ) (γ : List Sym) → Pieces t row e j γ → Grown e j γ
  grown j R = grows j j (omega arith) R

  -- the records of a derivation are right, and its pieces fill them
  pub reads : (a j : ℕ) (f : NRow) (γ : List Sym) → a + size (erase f) ≡ j → Stands row a f → Der (table_of t) (erase f) γ → Kinds (T t) f
      → ((m : ℕ) → a ≤ m → m < j → Right t row m) × Pieces t row a j γ
  reads a j ε [] e s D K = (λ m l h. absurd (omega arith), omega arith)
  reads a j ε (X ∷ γ) e s D K = absurd (parts (table_of t) D)
  reads a j (ntok k i f) [] e s D K = absurd (parts (table_of t) D)
  reads a j (ntok k i f) (X ∷ γ) e s D K =
      let g = reads (suc a) j f γ (omega arith) s.1 (parts (table_of t) D).1 K.2 in
      let r = s.0 in
      let u = r.kind in let v = r.size in
      let kl = K.0 in let kh = K.1 in
      let x : sym_of (code t (kind_at row a)) ≡ X =
      ap (λ n. sym_of (code t n)) u ∙ ap sym_of (code_token t k (omega arith)) ∙ sym_tm k (omega arith) ∙ sym (parts (table_of t) D).0 in
      let here : Right t row a = token (record { above = omega arith; below = omega arith; alone = v }) in
      (from a here g.0, (a, (record { symbol = x; reach = omega arith }, g.1)))
    where
      from : (a : ℕ) → Right t row a → ((m : ℕ) → suc a ≤ m → m < j → Right t row m) → (m : ℕ) → a ≤ m → m < j → Right t row m
      from a r g m l h = by (dec_lt a m)
        where
          by : Dec (a < m) → Right t row m
          by (yes k) = g m (omega arith) h
          by (no k) = let z : m ≡ a = omega arith in rw z r
  reads a j (nnod q i c f) [] e s D K = absurd (parts (table_of t) D)
  reads a j (nnod q i c f) (X ∷ γ) e s D K =
      let d = parts (table_of t) D in
      let n = a + size (erase c) in
      let gc = reads a n c ((table_of t).rhs q) refl s.0.0 d.1.0.1 K.0 in
      let gf = reads (suc n) j f γ (omega arith) s.1 d.1.1 K.1 in
      let r = s.0.1 in
      let v = r.size in
      let x : sym_of (code t (kind_at row n)) ≡ X =
      ap (λ n. sym_of (code t n)) r.kind ∙ ap sym_of (code_node t q) ∙ sym_nonterminal (left t q) ∙ ap nt (sym (lhs_is t q)) ∙ sym d.0 in
      let here : Right t row n = node q a (record { kind = r.kind; above = d.1.0.0.above; below = rw (prods_is t) at d.1.0.0.below; whole = omega arith; children = gc.1 }) in
      (from n gc.0 here gf.0, (n, (record { symbol = x; reach = omega arith }, gf.1)))
    where
      from : (n : ℕ) → ((m : ℕ) → a ≤ m → m < n → Right t row m) → Right t row n → ((m : ℕ) → suc n ≤ m → m < j → Right t row m) → (m : ℕ) → a ≤ m → m < j → Right t row m
      from n b r g m l h = by (dec_lt m n) (dec_lt n m)
        where
          by : Dec (m < n) → Dec (n < m) → Right t row m
          by (yes k) o = b m l k
          by (no k) (yes o) = g m o h
          by (no k) (no o) = let z : m ≡ n = omega arith in rw z r
