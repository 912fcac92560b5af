-- How long the edited text is: the old tokens less those removed, and the inserted ones.
use Rattle.std.specs.Prelude.{◌≡◌, refl, Bool, true, false, not, List, [], ◌∷◌, ℕ, suc, ◌+◌, ◌≤◌, length}
use Rattle.std.proofs.Common.{arith, length-append}
use Rattle.definitions.specs.Tree.{Tok}
use Rattle.definitions.specs.Edits.{Edit, Places, put_in, gone, put_at, mark, marks, edited, new_text}
use Rattle.edits.specs.Before.{put_before, gone_before, removals, put-none, put_all, length-put, removed_all}

module _ (n : ℕ) (es : List Edit) (codes : List ℕ) (P : Places 0 n es) (enough : put_in es ≤ length codes) where
  -- the tokens u from place i on, edited
  length-edited : (i : ℕ) (u : List Tok)
      → length (edited u (marks i (length u) es codes)) + gone_before (i + length u) es + put_before i es ≡ length u + gone_before i es + put_before (i + length u) es
  length-edited i [] = let z : i + 0 ≡ i = omega arith in rw z (omega arith)
  length-edited i (x ∷ u) = let z : i + suc (length u) ≡ suc i + length u = omega arith in rw z (by (gone i es) refl (length-edited (suc i) u))
    where
      rest : List Tok
      rest = edited u (marks (suc i) (length u) es codes)

      by : (b : Bool) → gone i es ≡ b
          → length (edited u (marks (suc i) (length u) es codes)) + gone_before (suc i + length u) es + put_before (suc i) es ≡ length u + gone_before (suc i) es + put_before (suc i + length u) es
          → length (edited (x ∷ u) (mark (put_at i es codes) (not (gone i es)) ∷ marks (suc i) (length u) es codes)) + gone_before (suc i + length u) es + put_before i es
          ≡ suc (length u) + gone_before i es + put_before (suc i + length u) es
      by true e r = let r' = rw e at r in rw e (omega (arith, length-append (put_at i es codes) rest, length-put i 0 n es codes P enough))
      by false e r = let r' = rw e at r in rw e (omega (arith, length-append (put_at i es codes) (x ∷ rest), length-put i 0 n es codes P enough))

pub length-text : (old : List Tok) (es : List Edit) (codes : List ℕ) → Places 0 (length old) es → put_in es ≤ length codes
    → length (new_text old es codes) + removals es ≡ length old + put_in es
length-text old es codes P h =
    let n = length old in
    let z : 0 + n ≡ n = omega arith in
    omega (
      arith,
      length-append (edited old (marks 0 n es codes)) (put_at n es codes),
      rw z at (length-edited n es codes P h 0 old),
      length-put n 0 n es codes P h,
      put_all (suc n) 0 n es P (omega arith),
      put-none 0 0 n es P (omega arith),
      removed_all n 0 n es P (omega arith),
    )
