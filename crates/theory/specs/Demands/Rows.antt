-- A derivation tree has one root; and the tree that a call writes over a lent row is in order there.
use Rattle.std.specs.Prelude.{◌≡◌, refl, List, [], ◌∷◌, ◌++◌, ℕ, suc, ◌+◌, ◌*◌, ◌≤◌, length}
use Rattle.std.proofs.Common.{ap, arith, length-append, take_at}
use Rattle.definitions.specs.States.{Accepted}
use Rattle.definitions.specs.Table.{nt, Sym, Table, table_of}
use Rattle.definitions.specs.Tree.{Row, ∅, nod, size, Prod, Der, d∅, dtok, dnod, Fit, NRow, ε, ntok, nnod, erase, words, written, InOrder}
use Rattle.theory.specs.Table.Bridge.{kinds_of}

-- ---- a derivation tree is one node of a production of the start symbol
only-∅ : {G : Table} {f : Row} {γ : List Sym} → Der G f γ → γ ≡ [] → f ≡ ∅
only-∅ d∅ e = refl
only-∅ (dtok D) e = let z : ◌≡◌ {A = ℕ} 0 1 = cc in absurd (omega arith)
only-∅ (dnod P Dc D) e = let z : ◌≡◌ {A = ℕ} 0 1 = cc in absurd (omega arith)

pub record Root (G : Table) (B : ℕ) (f : Row) : Type 0 where
  pub by : ℕ
  pub kids : Row
  pub is : f ≡ nod by kids ∅
  pub prod : Prod G by
  pub left : G.lhs by ≡ B
  pub der : Der G kids (G.rhs by)

pub root : {G : Table} {B : ℕ} {f : Row} {γ : List Sym} → Der G f γ → γ ≡ nt B ∷ [] → Root G B f
root d∅ e = let z : ◌≡◌ {A = ℕ} 0 1 = cc in absurd (omega arith)
root (dtok D) e = let z : ◌≡◌ {A = ℕ} 0 1 = cc in absurd (omega arith)
root (dnod {q = q} {c = c} {f = f} P Dc D) e =
    let z : f ≡ ∅ = only-∅ D (cc) in record { by = q; kids = c; is = ap (nod q c) z; prod = P; left = cc; der = Dc }

-- ---- the words of a tree; the tree written over a lent row
pub length-words : (r : NRow) → length (words r) ≡ 3 * size (erase r)
length-words ε = refl
length-words (ntok k i f) = omega (arith, length-words f)
length-words (nnod q i c f) = omega (arith, length-append (words c) ((256 + q) ∷ i ∷ suc (size (erase c)) ∷ words f), length-words c, length-words f)

pub in_row : (t : List ℕ) → Accepted t → (r : NRow) (n : ℕ) (rest : List ℕ) → size (erase r) ≤ 2048
    → Der (table_of t) (erase r) (nt (table_of t).start ∷ []) → Fit n r → InOrder t (written r n ++ rest) r
in_row t A r n rest l der fit =
    record {
      nodes = (some, l);
      holds = take_at (written r n) rest (2 + 3 * size (erase r)) (omega (arith, length-words r));
      derives = der;
      kinds = kinds_of t A r der;
      numbers = fit;
    }
  where
    some : 1 ≤ size (erase r)
    some = let z = root der refl in omega (arith, ap size z.is)
