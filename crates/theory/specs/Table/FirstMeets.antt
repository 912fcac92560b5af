-- Derivations by a sheet's table: FIRST covers how they begin, every nonterminal has one, and their tokens' kinds are 1..T−1.
use Rattle.std.specs.Prelude.{◌≡◌, refl, List, [], ◌∷◌, ◌++◌, ◌⊎◌, ℕ, zero, suc, ◌+◌, ◌-◌, ◌≤◌, ◌<◌, drop}
use Rattle.std.proofs.Common.{inl, inr, arith}
use Rattle.std.proofs.Math.Decide.{ℕ_discrete, dec_lt}
use Rattle.definitions.specs.Sheet.{T, P, left, len, symbol, Layout}
use Rattle.definitions.specs.Grammar.{Derives, GrammarRules, Nullable, Null, Begins, Leads, InFirst}
use Rattle.definitions.specs.Table.{Sym, tm, nt, sym_of, symbols, table_of}
use Rattle.definitions.specs.Tree.{Tok, mk, kind, Row, ∅, tok, nod, yield, look, Prod, Der, d∅, dtok, dnod, NRow, ε, ntok, nnod, erase, Kinds}
use Rattle.theory.specs.Table.Lr.{After}
use Rattle.theory.specs.Table.Sides.{sym_tm, sym_nt, tm_sym, nt_sym, prods_is, lhs_is, rhs_is, after_terminal, after_nonterminal}
use Rattle.theory.specs.Machine.Rows.{look-append, drop_tail}

-- ---- kinds of tokens and terminals

-- the tokens' kinds are 1..T−1
abbrev pub RowKinds : ℕ → Row → Type 0
RowKinds T ∅ = Unit {0}
RowKinds T (tok x f) = (0 < kind x) × (kind x < T) × RowKinds T f
RowKinds T (nod q c f) = RowKinds T c × RowKinds T f

-- the terminals are 1..T−1
abbrev pub Fits : ℕ → List Sym → Type 0
Fits T [] = Unit {0}
Fits T (tm k ∷ γ) = (0 < k) × (k < T) × Fits T γ
Fits T (nt B ∷ γ) = Fits T γ

pub erased_kinds : (T : ℕ) (r : NRow) → RowKinds T (erase r) → Kinds T r
erased_kinds T ε h = tt
erased_kinds T (ntok k i f) h = (h.0, h.1, erased_kinds T f h.2)
erased_kinds T (nnod p i c f) h = (erased_kinds T c h.0, erased_kinds T f h.1)

pub kinds_erased : (T : ℕ) (r : NRow) → Kinds T r → RowKinds T (erase r)
kinds_erased T ε h = tt
kinds_erased T (ntok k i f) h = (h.0, h.1, kinds_erased T f h.2)
kinds_erased T (nnod p i c f) h = (kinds_erased T c h.0, kinds_erased T f h.1)

pub look_in : (T a : ℕ) (f : Row) → RowKinds T f → a < T → look a (yield f) < T
look_in T a ∅ h l = l
look_in T a (tok x f) h l = h.1
look_in T a (nod q c f) h l = rw (look-append a (yield c) (yield f)) (look_in T (look a (yield f)) c h.0 (look_in T a f h.1 l))

module _ (t : List ℕ) where
  pub prod_in : {q : ℕ} → Prod (table_of t) q → q < P t
  prod_in P = rw (prods_is t) at P.below

  pub prod_of : (q : ℕ) → 0 < q → q < P t → Prod (table_of t) q
  prod_of q h k = record { above = h; below = rw (prods_is t) k }

  -- ---- FIRST

  -- the symbols of production p from place d on may begin as the text u does
  abbrev pub Meets : List Tok → ℕ → ℕ → Type 0
  Meets [] p d = (j : ℕ) → j < len t p → d ≤ j → Null t (symbol t p j)
  Meets (x ∷ u) p d = (k : ℕ) × (k < len t p) × Leads t (kind x) p d k

  -- what a whole right side says of the left side
  pub null_left : (q : ℕ) → q < P t → Meets [] q 0 → Nullable t (left t q)
  null_left q h m = Nullable.by q h (λ k l. (m k l (omega arith)).0) (λ k l. (m k l (omega arith)).1)

  pub begins_left : (q : ℕ) (x : Tok) (u : List Tok) → q < P t → Meets (x ∷ u) q 0 → Begins t (kind x) (left t q)
  begins_left q x u h m = by m.2.it
    where
      by : (symbol t q m.0 ≡ kind x) ⊎ ((128 ≤ symbol t q m.0) × Begins t (kind x) (symbol t q m.0 - 128)) → Begins t (kind x) (left t q)
      by (inl e) = Begins.here q m.0 h m.1 e (λ j l. m.2.before j l (omega arith))
      by (inr b) = Begins.inside q m.0 h m.1 b.0 b.1 (λ j l. m.2.before j l (omega arith))

  -- a nonterminal of production q, and then what follows it
  meets_node : (p d q : ℕ) → d < len t p → q < P t → symbol t p d ≡ 128 + left t q → (u : List Tok) → Meets u q 0 → (v : List Tok) → Meets v p (suc d) → Meets (u ++ v) p d
  meets_node p d q h k e u m v n = by u m v n
    where
      same : left t q ≡ symbol t p d - 128
      same = omega arith

      before : Meets [] q 0 → (j : ℕ) → Dec (j ≡ d) → (suc d ≤ j → Null t (symbol t p j)) → d ≤ j → Null t (symbol t p j)
      before m j (yes z) n b = rw z (omega arith, rw same at (null_left q k m))
      before m j (no z) n b = n (omega arith)

      by : (u : List Tok) → Meets u q 0 → (v : List Tok) → Meets v p (suc d) → Meets (u ++ v) p d
      by [] m [] n = λ j l b. before m j (ℕ_discrete j d) (n j l) b
      by [] m (x ∷ v) n =
          let f = n.2.from in
          (n.0, n.1, record { from = omega arith; it = n.2.it; before = λ j l b. before m j (ℕ_discrete j d) (n.2.before j l) b })
      by (x ∷ u) m v n = (d, h, record { from = omega arith; it = inr (omega arith, rw same at (begins_left q x u k m)); before = λ j l b. absurd (omega arith) })

  -- a row that derives the n symbols of production p from place d to its end
  pub meets : {f : Row} {γ : List Sym} (p d n : ℕ) → p < P t → d + n ≡ len t p → γ ≡ symbols t p d n → Der (table_of t) f γ → Meets (yield f) p d
  meets p d zero h e z d∅ = λ j l b. absurd (omega arith)
  meets p d (suc n) h e z d∅ = let y : ◌≡◌ {A = ℕ} 0 1 = cc in absurd (omega arith)
  meets p d zero h e z (dtok D) = let y : ◌≡◌ {A = ℕ} 0 1 = cc in absurd (omega arith)
  meets p d (suc n) h e z (dtok {x = x} D) =
      let y : sym_of (symbol t p d) ≡ tm (kind x) = cc in
      (d, omega arith, record { from = omega arith; it = inl (tm_sym (symbol t p d) (kind x) y).0; before = λ j l b. absurd (omega arith) })
  meets p d zero h e z (dnod Q Dc D) = let y : ◌≡◌ {A = ℕ} 0 1 = cc in absurd (omega arith)
  meets p d (suc n) h e z (dnod {q = q} {c = c} {f = f} {γ = γ} Q Dc D) =
      let k = prod_in Q in
      let y : sym_of (symbol t p d) ≡ nt ((table_of t).lhs q) = cc in
      let y' : symbol t p d ≡ 128 + left t q = rw (lhs_is t q) at (nt_sym (symbol t p d) ((table_of t).lhs q) y) in
      let r : γ ≡ symbols t p (suc d) n = cc in
      meets_node p d q (omega arith) k y' (yield c) (meets q 0 (len t q) k (omega arith) (rhs_is t q k) Dc) (yield f) (meets p (suc d) n h (omega arith) r D)

  -- FIRST of what follows a dot, and then a, holds what stands next
  pub looks_first : (p d a : ℕ) {f : Row} → p < P t → d ≤ len t p → Der (table_of t) f (symbols t p d (len t p - d)) → InFirst t p d a (look a (yield f))
  looks_first p d a {f} h l D = by (yield f) (meets p d (len t p - d) h (omega arith) refl D)
    where
      by : (u : List Tok) → Meets u p d → InFirst t p d a (look a u)
      by [] m = inr (refl, m)
      by (x ∷ u) m = inl m

  -- ---- every nonterminal of a right side derives some string

  -- a derivation by a production with left side n
  pub record Yields (n : ℕ) : Type 0 where
    pub by : ℕ
    pub row : Row
    pub production : Prod (table_of t) by
    pub left : (table_of t).lhs by ≡ n
    pub derives : Der (table_of t) row ((table_of t).rhs by)

  pub record Derived (γ : List Sym) : Type 0 where
    pub row : Row
    pub derives : Der (table_of t) row γ

  module _ (l : Layout t) (g : GrammarRules t) where
    -- the symbols of p, where each of its nonterminals derives some string
    row_from : (p d n : ℕ) → p < P t → d + n ≡ len t p → ((k : ℕ) → k < len t p → 128 ≤ symbol t p k → Yields (symbol t p k - 128)) → Derived (symbols t p d n)
    row_from p d zero h e f = record { row = ∅; derives = d∅ }
    row_from p d (suc n) h e f = by (dec_lt (symbol t p d) 128) (row_from p (suc d) n h (omega arith) f)
      where
        by : Dec (symbol t p d < 128) → Derived (symbols t p (suc d) n) → Derived (symbols t p d (suc n))
        by (yes k) r = record { row = tok (mk (symbol t p d) 0) r.row; derives = rw (sym_tm (symbol t p d) k) (dtok r.derives) }
        by (no k) r =
            let y = f d (omega arith) (omega arith) in
            record { row = nod y.by y.row r.row; derives = rw (sym_nt (symbol t p d) (omega arith), ← y.left) (dnod y.production y.derives r.derives) }

    pub yields : {n : ℕ} → Derives t n → (n ≡ 0 → ⊥) → Yields n
    yields (Derives.by p h f) z =
        let r = row_from p 0 (len t p) h (omega arith) (λ k a b. yields (f k a b) (λ e. (g.inside p h k a).1 (omega arith))) in
        record { by = p; row = r.row; production = prod_of p (above p z) h; left = lhs_is t p; derives = rw (rhs_is t p h) r.derives }
      where
        above : (p : ℕ) → (left t p ≡ 0 → ⊥) → 0 < p
        above zero z = absurd (z g.top.0)
        above (suc p) z = omega arith

    pub productive : {p d B : ℕ} {γ : List Sym} → After (table_of t) p d (nt B) γ → Yields B
    productive {B = B} h = let r = after_nonterminal t l g h in yields (g.derive B r.1) (λ z. omega arith)

    -- ---- kinds

    -- the terminals after a dot are 1..T−1
    pub suffix_fits : (p d : ℕ) (γ : List Sym) → drop d ((table_of t).rhs p) ≡ γ → Fits (T t) γ
    suffix_fits p d [] e = tt
    suffix_fits p d (tm k ∷ γ) e =
        let A : After (table_of t) p d (tm k) γ = record { is = e } in
        let r = after_terminal t l g A in (r.0, r.1, suffix_fits p (suc d) γ (drop_tail ((table_of t).rhs p) d e))
    suffix_fits p d (nt B ∷ γ) e = suffix_fits p (suc d) γ (drop_tail ((table_of t).rhs p) d e)

    pub der_kinds : {f : Row} {γ : List Sym} → Der (table_of t) f γ → Fits (T t) γ → RowKinds (T t) f
    der_kinds d∅ h = tt
    der_kinds (dtok D) h = (h.0, h.1, der_kinds D h.2)
    der_kinds (dnod {q = q} Q Dc D) h = (der_kinds Dc (suffix_fits q 0 ((table_of t).rhs q) refl), der_kinds D h)

    pub after-kinds : {p d : ℕ} {X : Sym} {γ : List Sym} {f : Row} → After (table_of t) p d X γ → Der (table_of t) f γ → RowKinds (T t) f
    after-kinds {p} {d} {γ = γ} h D = der_kinds D (suffix_fits p (suc d) γ (drop_tail ((table_of t).rhs p) d h.is))

    pub tree-kinds : {B : ℕ} (r : NRow) → Der (table_of t) (erase r) (nt B ∷ []) → Kinds (T t) r
    tree-kinds r D = erased_kinds (T t) r (der_kinds D tt)
