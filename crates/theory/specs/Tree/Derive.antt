-- Derivations taken apart from outside, and decided: whether a row derives symbols, by a function that computes.
use Rattle.std.specs.Prelude.{◌≡◌, refl, List, [], ◌∷◌, ℕ}
use Rattle.std.proofs.Common.{sym, ap, arith}
use Rattle.std.proofs.Math.Decide.{ℕ_discrete, dec_lt}
use Rattle.definitions.specs.Table.{Sym, tm, nt, Table}
use Rattle.definitions.specs.Tree.{kind, Row, ∅, tok, nod, Prod, Der, d∅, dtok, dnod}
use Rattle.theory.specs.Decide.{map_d, and_d}

pub tm_tm : {a b : ℕ} → tm a ≡ tm b → a ≡ b
tm_tm e = cc

pub nt_nt : {a b : ℕ} → nt a ≡ nt b → a ≡ b
nt_nt e = cc

pub tm_nt : {a b : ℕ} → tm a ≡ nt b → ⊥
tm_nt e = let z : ◌≡◌ {A = ℕ} 0 1 = cc in omega arith

abbrev pub sym_d : (X Y : Sym) → Dec (X ≡ Y)
sym_d (tm a) (tm b) = map_d (λ e. ap tm e) tm_tm (ℕ_discrete a b)
sym_d (tm a) (nt b) = no tm_nt
sym_d (nt a) (tm b) = no (λ e. tm_nt (sym e))
sym_d (nt a) (nt b) = map_d (λ e. ap nt e) nt_nt (ℕ_discrete a b)

module _ (G : Table) where
  -- what a derivation of γ by the row consists of
  abbrev pub Parts : Row → List Sym → Type 0
  Parts ∅ [] = Unit {0}
  Parts ∅ (X ∷ γ) = ⊥
  Parts (tok x f) [] = ⊥
  Parts (tok x f) (X ∷ γ) = (X ≡ tm (kind x)) × Der G f γ
  Parts (nod q c f) [] = ⊥
  Parts (nod q c f) (X ∷ γ) = (X ≡ nt (G.lhs q)) × ((Prod G q × Der G c (G.rhs q)) × Der G f γ)

  pub parts : {f : Row} {γ : List Sym} → Der G f γ → Parts f γ
  parts d∅ = tt
  parts (dtok D) = (refl, D)
  parts (dnod P Dc D) = (refl, ((P, Dc), D))

  pub whole : (f : Row) (γ : List Sym) → Parts f γ → Der G f γ
  whole ∅ [] d = d∅
  whole ∅ (X ∷ γ) d = absurd d
  whole (tok x f) [] d = absurd d
  whole (tok x f) (X ∷ γ) d = rw d.0 (dtok d.1)
  whole (nod q c f) [] d = absurd d
  whole (nod q c f) (X ∷ γ) d = rw d.0 (dnod d.1.0.0 d.1.0.1 d.1.1)

  abbrev pub prod_d : (q : ℕ) → Dec (Prod G q)
  prod_d q = map_d (λ p. record { above = p.0; below = p.1 }) (λ P. (P.above, P.below)) (and_d (dec_lt 0 q) (dec_lt q G.prods))

  abbrev pub der_d : (f : Row) (γ : List Sym) → Dec (Der G f γ)
  der_d ∅ [] = yes d∅
  der_d ∅ (X ∷ γ) = no (λ D. parts D)
  der_d (tok x f) [] = no (λ D. parts D)
  der_d (tok x f) (X ∷ γ) = map_d (λ p. whole (tok x f) (X ∷ γ) p) (λ D. parts D) (and_d (sym_d X (tm (kind x))) (der_d f γ))
  der_d (nod q c f) [] = no (λ D. parts D)
  der_d (nod q c f) (X ∷ γ) =
      map_d (λ p. whole (nod q c f) (X ∷ γ) p) (λ D. parts D)
      (and_d (sym_d X (nt (G.lhs q))) (and_d (and_d (prod_d q) (der_d c (G.rhs q))) (der_d f γ)))
