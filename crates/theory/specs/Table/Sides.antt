-- The left and right sides of a sheet's table: what stands after a dot, and which symbols a right side has.
use Rattle.std.specs.Prelude.{◌≡◌, List, [], ◌∷◌, ℕ, zero, suc, ◌+◌, ◌-◌, ◌≤◌, ◌<◌, length, drop}
use Rattle.std.proofs.Math.Path.{refl}
use Rattle.std.proofs.Common.{ap, ◌∙◌, inl, inr, arith, length-drop, lt-ltb, le-ltb}
use Rattle.std.proofs.Math.Decide.{dec_lt}
use Rattle.definitions.specs.Sheet.{T, N, P, left, len, symbol, IsSymbol, Layout}
use Rattle.definitions.specs.Grammar.{GrammarRules}
use Rattle.definitions.specs.Table.{Sym, tm, nt, sym_of, symbols, table_of}
use Rattle.theory.specs.Table.Lr.{After}

-- ---- symbols by their numbers
pub sym_tm : (x : ℕ) → x < 128 → sym_of x ≡ tm x
sym_tm x h = rw (lt-ltb x 128 h)

pub sym_nt : (x : ℕ) → 128 ≤ x → sym_of x ≡ nt (x - 128)
sym_nt x h = rw (le-ltb x 128 h)

pub sym_nonterminal : (n : ℕ) → sym_of (128 + n) ≡ nt n
sym_nonterminal n = sym_nt (128 + n) (omega arith) ∙ ap nt (omega arith)

pub tm_sym : (x k : ℕ) → sym_of x ≡ tm k → (x ≡ k) × (k < 128)
tm_sym x k e = by (dec_lt x 128)
  where
    by : Dec (x < 128) → (x ≡ k) × (k < 128)
    by (yes h) = let r = sym_tm x h in let z : x ≡ k = cc in (z, omega arith)
    by (no h) = let r = sym_nt x (omega arith) in let z : ◌≡◌ {A = ℕ} 0 1 = cc in absurd (omega arith)

pub nt_sym : (x n : ℕ) → sym_of x ≡ nt n → x ≡ 128 + n
nt_sym x n e = by (dec_lt x 128)
  where
    by : Dec (x < 128) → x ≡ 128 + n
    by (yes h) = let r = sym_tm x h in let z : ◌≡◌ {A = ℕ} 0 1 = cc in absurd (omega arith)
    by (no h) = let r = sym_nt x (omega arith) in let z : x - 128 ≡ n = cc in omega arith

-- ---- the table's fields
module _ (t : List ℕ) where
  pub prods_is : (table_of t).prods ≡ P t
  unfolding table_of
  prods_is = refl

  pub start_is : (table_of t).start ≡ symbol t 0 0 - 128
  unfolding table_of
  start_is = refl

  pub lhs_is : (p : ℕ) → (table_of t).lhs p ≡ left t p
  unfolding table_of
  lhs_is p = refl

  pub rhs_is : (p : ℕ) → p < P t → (table_of t).rhs p ≡ symbols t p 0 (len t p)
  unfolding table_of
  rhs_is p h = rw (lt-ltb p (P t) h)

  pub rhs_out : (p : ℕ) → P t ≤ p → (table_of t).rhs p ≡ []
  unfolding table_of
  rhs_out p h = rw (le-ltb p (P t) h)

  pub length_symbols : (p k n : ℕ) → length (symbols t p k n) ≡ n
  length_symbols p k zero = refl
  length_symbols p k (suc n) = ap suc (length_symbols p (suc k) n)

  pub rhs_length : (p : ℕ) → p < P t → length ((table_of t).rhs p) ≡ len t p
  rhs_length p h = ap length (rhs_is p h) ∙ length_symbols p 0 (len t p)

  -- n symbols less the first d
  pub drop-symbols : (d p k n m : ℕ) → d + m ≡ n → drop d (symbols t p k n) ≡ symbols t p (d + k) m
  drop-symbols zero p k n m e = let z : n ≡ m = omega arith in let y : 0 + k ≡ k = omega arith in rw (z, y) refl
  drop-symbols (suc d) p k zero m e = absurd (omega arith)
  drop-symbols (suc d) p k (suc n) m e = let y : suc d + k ≡ d + suc k = omega arith in rw y (drop-symbols d p (suc k) n m (omega arith))

  -- the right side from place d on
  pub rhs_from : (p d m : ℕ) → p < P t → d + m ≡ len t p → drop d ((table_of t).rhs p) ≡ symbols t p d m
  rhs_from p d m h e = let y : d + 0 ≡ d = omega arith in rw (rhs_is p h) (drop-symbols d p 0 (len t p) m e ∙ ap (λ k. symbols t p k m) y)

  -- ---- what stands after a dot
  pub record Stands (p d : ℕ) (X : Sym) (γ : List Sym) : Type 0 where
    pub production : p < P t
    pub place : d < len t p
    pub it : sym_of (symbol t p d) ≡ X
    pub rest : symbols t p (suc d) (len t p - suc d) ≡ γ

  in_range : (p d : ℕ) {X : Sym} {γ : List Sym} → drop d ((table_of t).rhs p) ≡ X ∷ γ → (p < P t) × (d < len t p)
  in_range p d {X} {γ} e = by (dec_lt p (P t))
    where
      by : Dec (p < P t) → (p < P t) × (d < len t p)
      by (yes h) = (h, omega (arith, length-drop d ((table_of t).rhs p), ap length e, rhs_length p h))
      by (no h) = absurd (omega (arith, length-drop d ((table_of t).rhs p), ap length e, ap length (rhs_out p (omega arith))))

  pub after_is : {p d : ℕ} {X : Sym} {γ : List Sym} → After (table_of t) p d X γ → Stands p d X γ
  after_is {p} {d} {X} {γ} h =
      let r = in_range p d h.is in
      let f = rhs_from p d (suc (len t p - suc d)) r.0 (omega arith) in
      let e = h.is in
      record { production = r.0; place = r.1; it = cc; rest = cc }

  pub after_of : (p d : ℕ) → p < P t → d < len t p → After (table_of t) p d (sym_of (symbol t p d)) (symbols t p (suc d) (len t p - suc d))
  after_of p d h l = record { is = rhs_from p d (suc (len t p - suc d)) h (omega arith) }

  pub is_after_lem : {p d : ℕ} {X : Sym} {γ : List Sym} → Stands p d X γ → After (table_of t) p d X γ
  is_after_lem {p} {d} s = let r = (after_of p d s.production s.place).is in let e = s.it in let f = s.rest in record { is = cc }

  -- the rest of the right side stands after the dot
  pub after-drop : (p d : ℕ) → p < P t → d < len t p → After (table_of t) p d (sym_of (symbol t p d)) (drop (suc d) ((table_of t).rhs p))
  after-drop p d h l = rw (rhs_from p (suc d) (len t p - suc d) h (omega arith)) (after_of p d h l)

  -- ---- which symbols stand there
  module _ (l : Layout t) (g : GrammarRules t) where
    -- a place of a right side holds a terminal other than the end mark or a nonterminal other than 0
    pub terminal_at : (p d k : ℕ) → p < P t → d < len t p → sym_of (symbol t p d) ≡ tm k → (symbol t p d ≡ k) × (0 < k) × (k < T t)
    terminal_at p d k h m e = by (tm_sym (symbol t p d) k e) ((l.productions p h).used d m) (g.inside p h d m)
      where
        by : (symbol t p d ≡ k) × (k < 128) → IsSymbol t (symbol t p d) → (symbol t p d ≡ 0 → ⊥) × (symbol t p d ≡ 128 → ⊥) → (symbol t p d ≡ k) × (0 < k) × (k < T t)
        by z (inl b) n = (z.0, above (dec_lt 0 k), omega arith)
          where
            above : Dec (0 < k) → 0 < k
            above (yes h) = h
            above (no h) = absurd (n.0 (omega arith))
        by z (inr b) n = absurd (omega arith)

    pub nonterminal_at : (p d B : ℕ) → p < P t → d < len t p → sym_of (symbol t p d) ≡ nt B → (symbol t p d ≡ 128 + B) × (0 < B) × (B < N t)
    nonterminal_at p d B h m e = by (nt_sym (symbol t p d) B e) ((l.productions p h).used d m) (g.inside p h d m)
      where
        by : symbol t p d ≡ 128 + B → IsSymbol t (symbol t p d) → (symbol t p d ≡ 0 → ⊥) × (symbol t p d ≡ 128 → ⊥) → (symbol t p d ≡ 128 + B) × (0 < B) × (B < N t)
        by z (inl b) n = absurd (omega (arith, l.head.terminals.1))
        by z (inr b) n = (z, above (dec_lt 0 B), omega arith)
          where
            above : Dec (0 < B) → 0 < B
            above (yes h) = h
            above (no h) = absurd (n.1 (omega arith))

    pub after_terminal : {p d k : ℕ} {γ : List Sym} → After (table_of t) p d (tm k) γ → (0 < k) × (k < T t)
    after_terminal {p} {d} {k} h = let s = after_is h in let r = terminal_at p d k s.production s.place s.it in (r.1, r.2)

    pub after_nonterminal : {p d B : ℕ} {γ : List Sym} → After (table_of t) p d (nt B) γ → (0 < B) × (B < N t)
    after_nonterminal {p} {d} {B} h = let s = after_is h in let r = nonterminal_at p d B s.production s.place s.it in (r.1, r.2)
