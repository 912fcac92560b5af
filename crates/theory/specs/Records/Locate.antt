-- Each old token's record can be found: the premise of the bottom-up search holds of every tree in order.
use Rattle.std.specs.Prelude.{◌≡◌, refl, List, [], ◌∷◌, ◌++◌, ℕ, zero, suc, ◌+◌, ◌≤◌, ◌<◌}
use Rattle.std.proofs.Common.{ap, arith}
use Rattle.std.proofs.Math.Option.{Option, none, some}
use Rattle.std.proofs.Math.ListN.{get_elem?}
use Rattle.definitions.specs.Tree.{Tok, Row, ∅, tok, nod, size, NRow, erase, eqn, ident, Fit}
use Rattle.theory.specs.Numbers.Counting.{eqn_same, ids, toc-ids}
use Rattle.theory.specs.Records.Flat.{Word, wtok, wnod, flat}
use Rattle.theory.specs.Records.Scan.{recs, word_d, Located}

abbrev pub hit : Word → ℕ → ℕ
hit (wtok x) i = eqn i (ident x)
hit (wnod q n) i = 0

abbrev pub hits : ℕ → List Word → ℕ
hits i [] = 0
hits i (w ∷ l) = hit w i + hits i l

hits-append : (i : ℕ) (a b : List Word) → hits i (a ++ b) ≡ hits i a + hits i b
hits-append i [] b = omega arith
hits-append i (w ∷ a) b = omega (arith, hits-append i a b)

hits-flat : (i : ℕ) (f : Row) → hits i (flat f) ≡ ids i f
hits-flat i ∅ = refl
hits-flat i (tok x f) = omega (arith, hits-flat i f)
hits-flat i (nod q c f) = omega (arith, hits-append i (flat c) (wnod q (suc (size c)) ∷ flat f), hits-flat i c, hits-flat i f)

abbrev pub next? : Option ℕ → Option ℕ
next? none = none
next? (some p) = some (suc p)

abbrev pub first? : {A : Type 0} → Dec A → Option ℕ → Option ℕ
first? (yes h) o = some 0
first? (no h) o = next? o

abbrev pub find : List Word → Tok → Option ℕ
find [] x = none
find (w ∷ l) x = first? (word_d w (wtok x)) (find l x)

found : (W : List Word) (x : Tok) (p : ℕ) → find W x ≡ some p → get_elem? W p ≡ some (wtok x)
found [] x p e = let z : ◌≡◌ {A = ℕ} 0 1 = cc in absurd (omega arith)
found (w ∷ l) x p e = by (word_d w (wtok x)) (find l x) p (λ o z. found l x o z) e
  where
    by : (d : Dec (w ≡ wtok x)) (o : Option ℕ) (p : ℕ) → ((q : ℕ) → o ≡ some q → get_elem? l q ≡ some (wtok x)) → first? d o ≡ some p → get_elem? (w ∷ l) p ≡ some (wtok x)
    by (yes h) o zero k e = ap some h
    by (yes h) o (suc p) k e = let y : ◌≡◌ {A = ℕ} 0 (suc p) = cc in absurd (omega arith)
    by (no h) none p k e = let z : ◌≡◌ {A = ℕ} 0 1 = cc in absurd (omega arith)
    by (no h) (some q) zero k e = let y : ◌≡◌ {A = ℕ} (suc q) 0 = cc in absurd (omega arith)
    by (no h) (some q) (suc p) k e = let y : ◌≡◌ {A = ℕ} (suc q) (suc p) = cc in k p (let z : q ≡ p = omega arith in ap some z)

some-hit : (W : List Word) (x : Tok) (p : ℕ) → get_elem? W p ≡ some (wtok x) → 0 < hits (ident x) W
some-hit [] x p e = let z : ◌≡◌ {A = ℕ} 0 1 = cc in absurd (omega arith)
some-hit (w ∷ l) x zero e = let z : w ≡ wtok x = cc in rw z (omega (arith, eqn_same (ident x)))
some-hit (w ∷ l) x (suc p) e = omega (arith, some-hit l x p e)

finds : (W : List Word) (x : Tok) (p : ℕ) → hits (ident x) W ≤ 1 → get_elem? W p ≡ some (wtok x) → find W x ≡ some p
finds [] x p h e = let z : ◌≡◌ {A = ℕ} 0 1 = cc in absurd (omega arith)
finds (w ∷ l) x zero h e = by (word_d w (wtok x))
  where
    by : (d : Dec (w ≡ wtok x)) → first? d (find l x) ≡ some 0
    by (yes g) = refl
    by (no g) = absurd (g (cc))
finds (w ∷ l) x (suc p) h e = by (word_d w (wtok x)) (finds l x p (omega arith) e)
  where
    by : (d : Dec (w ≡ wtok x)) → find l x ≡ some p → first? d (find l x) ≡ some (suc p)
    by (yes g) z = absurd (omega (arith, some-hit l x p e, eqn_same (ident x), ap (λ v. hit v (ident x)) g))
    by (no g) z = ap next? z

pub located : {n : ℕ} (old : NRow) → Fit n old → Located (recs old) (find (recs old))
located old O = record {
  there = λ x p e. found (recs old) x p e;
  only = λ x p e. finds (recs old) x p (omega (arith, hits-flat (ident x) (erase old), toc-ids (ident x) old, O.apart (ident x))) e;
}
