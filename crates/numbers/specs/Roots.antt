-- Every record of a row is the root of a piece of the row, which stands just up to it.
use Rattle.std.specs.Prelude.{◌≡◌, refl, List, [], ◌∷◌, ◌++◌, ℕ, zero, suc, ◌+◌, ◌-◌, ◌≤◌, ◌<◌, length}
use Rattle.std.proofs.Common.{sym, ap, ◌∙◌, arith}
use Rattle.std.proofs.Math.Option.{some}
use Rattle.std.proofs.Math.Decide.{dec_lt}
use Rattle.std.proofs.Math.ListN.{get_elem?}
use Rattle.definitions.specs.Tree.{Tok, Row, ∅, tok, nod, size, toks}
use Rattle.definitions.specs.Reading.{Tree, leaf, node, cons}
use Rattle.theory.specs.Records.Flat.{Word, wtok, wnod, flat, length-flat, toks_of, toks_of_flat}
use Rattle.theory.specs.Records.Stand.{at_right, Agree, agree_in, agree_right, agree_join, agree_self, bound}
use Rattle.theory.specs.Numbers.Counting.{length-yield}
use Rattle.machine.specs.Room.{size_w}
use Rattle.machine.specs.Laws.{last, inside, length-inside}
use Rattle.numbers.specs.Pointwise.{agree_at}

pub record Root (W : List Word) (j : ℕ) : Type 0 where
  pub tree : Tree
  pub start : ℕ
  pub ends : start + size (cons tree ∅) ≡ suc j
  pub agree : Agree W start (flat (cons tree ∅))

pub root-at : (f : Row) (j : ℕ) → j < size f → Root (flat f) j
root-at ∅ j h = absurd (omega arith)
root-at (tok x f) zero h = record { tree = leaf x; start = 0; ends = refl; agree = (refl, tt) }
root-at (tok x f) (suc j) h =
    let r = root-at f j (omega arith) in
    record {
      tree = r.tree;
      start = suc r.start;
      ends = omega (arith, r.ends);
      agree = agree_right (wtok x ∷ []) (flat f) (suc r.start) r.start (flat (cons r.tree ∅)) (omega arith) r.agree;
    }
root-at (nod q c f) j h = by (dec_lt j (size c)) (dec_lt (size c) j) (λ l. root-at c j l) (λ l. root-at f (j - suc (size c)) l)
  where
    w : Word
    w = wnod q (suc (size c))

    by : Dec (j < size c) → Dec (size c < j) → (j < size c → Root (flat c) j) → (j - suc (size c) < size f → Root (flat f) (j - suc (size c))) → Root (flat (nod q c f)) j
    by (yes l) g kc kf = let r = kc l in record { tree = r.tree; start = r.start; ends = r.ends; agree = agree_in (flat c) (w ∷ flat f) r.start (flat (cons r.tree ∅)) r.agree }
    by (no l) (yes g) kc kf =
        let r = kf (omega arith) in
        let a = suc r.start in
        let t = flat (cons r.tree ∅) in
        record {
          tree = r.tree;
          start = size c + a;
          ends = omega (arith, r.ends);
          agree = agree_right (flat c) (w ∷ flat f) (size c + a) a t (omega (arith, length-flat c)) (agree_right (w ∷ []) (flat f) a r.start t (omega arith) r.agree);
        }
    by (no l) (no g) kc kf = record {
      tree = node q c;
      start = 0;
      ends = omega arith;
      agree = agree_join (flat c ++ (w ∷ flat f)) 0 (size c) (flat c) (w ∷ []) (omega (arith, length-flat c)) (agree_in (flat c) (w ∷ flat f) 0 (flat c) (agree_self (flat c))) (at_right (flat c) (w ∷ flat f) (size c) 0 (omega (arith, length-flat c)), tt);
    }

-- ---- a piece's records, and its own last
pub flat-cons : (t : Tree) → flat (cons t ∅) ≡ inside t ++ (last t ∷ [])
flat-cons (leaf x) = refl
flat-cons (node q c) = refl

pub size-some : (t : Tree) → 0 < size (cons t ∅)
size-some (leaf x) = omega arith
size-some (node q c) = omega arith

pub root-last : {W : List Word} {j : ℕ} (x : Root W j) → get_elem? W j ≡ some (last x.tree)
root-last {W} {j} x =
    let t = x.tree in
    let l = length-inside t in
    let e : get_elem? (flat (cons t ∅)) (length (inside t)) ≡ some (last t) = rw (flat-cons t) (at_right (inside t) (last t ∷ []) (length (inside t)) 0 (omega arith)) in
    let z : x.start + length (inside t) ≡ j = omega (arith, x.ends) in
    ap (λ (i : ℕ). get_elem? W i) (sym z) ∙ agree_at W x.start (flat (cons t ∅)) (length (inside t)) x.agree e

-- a record's size reaches back no further than the first record
pub bound_size : (f : Row) (t : ℕ) (x : Word) → get_elem? (flat f) t ≡ some x → size_w x ≤ suc t
bound_size f t (wtok x) e = omega arith
bound_size f t (wnod q n) e = bound f t e

-- ---- tokens among the records
pub none-toks : (l : List Word) → ((t : ℕ) (x : Tok) → get_elem? l t ≡ some (wtok x) → ⊥) → length (toks_of l) ≡ 0
none-toks [] h = refl
none-toks (wtok x ∷ l) h = absurd (h 0 x refl)
none-toks (wnod q n ∷ l) h = none-toks l (λ t x e. h (suc t) x e)

pub some-toks : (l : List Word) (t : ℕ) (x : Tok) → get_elem? l t ≡ some (wtok x) → 0 < length (toks_of l)
some-toks [] t x e = let z : ◌≡◌ {A = ℕ} 0 1 = cc in absurd (omega arith)
some-toks (wtok y ∷ l) t x e = omega arith
some-toks (wnod q n ∷ l) zero x e = let z : ◌≡◌ {A = ℕ} 0 1 = cc in absurd (omega arith)
some-toks (wnod q n ∷ l) (suc t) x e = some-toks l t x e

pub length-toks : (f : Row) → length (toks_of (flat f)) ≡ toks f
length-toks f = ap length (toks_of_flat f) ∙ length-yield f
