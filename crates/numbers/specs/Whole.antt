-- "or is the whole tree .. (the whole tree only the whole tree, if it has no tokens)": told record by record.
use Rattle.std.specs.Prelude.{◌≡◌, Bool, true, false, List, ℕ, ◌+◌, ◌≤◌, ◌<◌, length}
use Rattle.std.specs.Bool.{MatchBool}
use Rattle.std.specs.List.{AllWithin, HoldsAt, range_with_len}
use Rattle.std.proofs.lemmas.List.FromFn.{length-range_with_len, get_or-range_with_len}
use Rattle.theory.specs.Check.Says.{Says, says_yes, says_no}
use Rattle.std.proofs.Common.{zero-add, sym, ap, ◌∙◌, arith}
use Rattle.std.proofs.Math.Option.{some}
use Rattle.std.proofs.Math.ListN.{get_elem?}
use Rattle.definitions.specs.Tree.{Tok, Row, size, toks, NRow, erase}
use Rattle.theory.specs.Records.Flat.{Word, wtok, wnod, flat, length-flat}
use Rattle.theory.specs.Records.Stand.{at_beyond, agree_all, same_words}
use Rattle.theory.specs.Records.Scan.{recs}
use Rattle.numbers.specs.Pointwise.{at_some, agree_each}
use Rattle.numbers.specs.Roots.{none-toks, some-toks, length-toks}
use Rattle.numbers.specs.Records.{front, kind_of, Same}
use Rattle.numbers.specs.Given.{Given, is_at, new_low, same_at, at_same}

pub record Alike (old R : List ℕ) (j : ℕ) : Type 0 where
  pub bare : 256 ≤ kind_of R j
  pub same : Same old R j j

pub record Whole (old R : List ℕ) (m n : ℕ) : Type 0 where
  pub many : m ≡ n
  pub each : (j : ℕ) → j < n → Alike old R j

-- all of the n records are compared
pub whole_says : {old R : List ℕ} {m n : ℕ} (b : Bool) → m ≡ n
    → MatchBool b (AllWithin (λ j. Alike old R j) (range_with_len 0 n) 0 (length (range_with_len 0 n)))
    ((k : ℕ) × (k < length (range_with_len 0 n)) × HoldsAt (λ j. Alike old R j → ⊥) (range_with_len 0 n) k) → Says b (Whole old R m n)
whole_says {old} {R} {n = n} true e a = says_yes (record { many = e; each = λ j h. rw (get_or-range_with_len 0 n j 0 h, zero-add) at (a j 0 (omega arith) (omega (arith, length-range_with_len 0 n))) })
whole_says {old} {R} {n = n} false e a =
    let h : a.0 < n = omega (arith, a.1, length-range_with_len 0 n) in
    says_no (λ w. (rw (get_or-range_with_len 0 n a.0 0 h, zero-add) at (a.2 0)) (w.each a.0 h))

module _ {old room : List ℕ} {n : ℕ} {r : NRow} {f : Row} (G : Given old room n r f) where
  pub whole_same : Whole old (front room) (size (erase r)) n → (erase r ≡ f) × (toks f ≡ 0)
  whole_same w =
      let l : length (recs r) ≡ length (flat f) = omega (arith, length-flat (erase r), length-flat f, w.many, G.many) in
      let inside : (t : ℕ) (x : Word) → get_elem? (flat f) t ≡ some x → t < n = λ t x e. omega (arith, at_beyond (flat f) t e, length-flat f, G.many) in (
        same_words (erase r) f (agree_all (recs r) (flat f) l (agree_each (recs r) 0 (flat f) (λ t x e.
            let h = inside t x e in
            let z : 0 + t ≡ t = omega arith in
            rw z (same_at G t t e (omega (arith, w.many)) (w.each t h).same)))),
        omega (arith, length-toks f, none-toks (flat f) (λ t x e. low t x e (w.each t (inside t (wtok x) e)).bare)),
      )
    where
      low : (t : ℕ) (x : Tok) → get_elem? (flat f) t ≡ some (wtok x) → 256 ≤ kind_of (front room) t → ⊥
      low t x e b = let k = new_low G t e in omega (arith, (is_at G t e).kind)

  pub same_whole : erase r ≡ f → toks f ≡ 0 → Whole old (front room) (size (erase r)) n
  same_whole e z = record { many = ap size e ∙ sym G.many; each = λ j h. alike j h }
    where
      none : (w : Word) (j : ℕ) → get_elem? (flat f) j ≡ some w → 256 ≤ kind_of (front room) j
      none (wtok x) j g = absurd (omega (arith, some-toks (flat f) j x g, length-toks f))
      none (wnod q s) j g = omega (arith, (is_at G j g).kind)

      alike : (j : ℕ) → j < n → Alike old (front room) j
      alike j h =
          let x = at_some (flat f) j (omega (arith, length-flat f, G.many)) in
          record { bare = none x.0 j x.1; same = (at_same G j j x.1 (ap (λ (g : Row). get_elem? (flat g) j) e ∙ x.1)).1 }
