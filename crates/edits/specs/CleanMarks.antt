-- A piece is clean exactly where no mark of its tokens grows: none of them is removed, and nothing is put in before any but the first.
use Rattle.std.specs.Prelude.{◌≡◌, refl, Bool, true, false, not, List, [], ◌∷◌, ℕ, zero, suc, ◌+◌, ◌≤◌, length}
use Rattle.std.proofs.Common.{arith}
use Rattle.definitions.specs.Tree.{Tok}
use Rattle.definitions.specs.Edits.{Edit, Places, put_in, gone, put_at, mark, marks}
use Rattle.theory.specs.Check.Says.{Says, says_as, says_yes, says_no}
use Rattle.theory.specs.Edits.FromMarks.{tight, clean, skip}
use Rattle.edits.specs.Before.{put_before, gone_before, put_grows, length-put}

gone_grows : (i m : ℕ) (es : List Edit) → gone_before i es ≤ gone_before (i + m) es
gone_grows i zero es = let z : i + 0 ≡ i = omega arith in rw z (omega arith)
gone_grows i (suc m) es = let z : i + suc m ≡ suc (i + m) = omega arith in rw z (omega (arith, gone_grows i m es))

pub skip-marks : (u : List Tok) (i k : ℕ) (es : List Edit) (codes : List ℕ) → skip u (marks i (length u + k) es codes) ≡ marks (i + length u) k es codes
skip-marks [] i k es codes = let z : 0 + k ≡ k = omega arith in let y : i + 0 ≡ i = omega arith in rw (z, y) refl
skip-marks (x ∷ u) i k es codes =
    let z : suc (length u) + k ≡ suc (length u + k) = omega arith in
    let y : i + suc (length u) ≡ suc i + length u = omega arith in
    rw (z, y) (skip-marks u (suc i) k es codes)

module _ (n : ℕ) (es : List Edit) (codes : List ℕ) (P : Places 0 n es) (enough : put_in es ≤ length codes) where
  -- none of the m tokens from place i on is removed
  abbrev pub Remain : ℕ → ℕ → Type 0
  Remain i m = gone_before (i + m) es ≡ gone_before i es

  -- nothing is put in at the places from i up to j
  abbrev pub Bare : ℕ → ℕ → Type 0
  Bare i j = put_before j es ≡ put_before i es

  tight-marks : (u : List Tok) (i k : ℕ) → Says (tight u (marks i (length u + k) es codes)) (Remain i (length u) × Bare i (i + length u))
  tight-marks [] i k = let y : i + 0 ≡ i = omega arith in says_yes (rw y refl, rw y refl)
  tight-marks (x ∷ u) i k =
      let z : suc (length u) + k ≡ suc (length u + k) = omega arith in
      let y : i + suc (length u) ≡ suc i + length u = omega arith in
      rw (z, y) (by (put_at i es codes) (length-put i 0 n es codes P enough) (gone i es) refl (tight-marks u (suc i) k))
    where
      by : (v : List Tok) → length v + put_before i es ≡ put_before (suc i) es → (b : Bool) → gone i es ≡ b → Says (tight u (marks (suc i) (length u + k) es codes)) (Remain (suc i) (length u) × Bare (suc i) (suc i + length u))
          → Says (tight (x ∷ u) (mark v (not b) ∷ marks (suc i) (length u + k) es codes)) ((gone_before (suc i + length u) es ≡ gone_before i es) × Bare i (suc i + length u))
      by [] l false g s =
          let o : gone_before (suc i) es ≡ gone_before i es = rw g (omega arith) in
          says_as s (λ r. let a = r.0 in let b = r.1 in (omega arith, omega arith)) (λ r. let a = r.0 in let b = r.1 in (omega arith, omega arith))
      by [] l true g s =
          let o : gone_before (suc i) es ≡ gone_before i es + 1 = rw g refl in
          says_no (λ r. let a = r.0 in omega (arith, gone_grows (suc i) (length u) es))
      by (w ∷ v) l b g s = says_no (λ r. let a = r.1 in omega (arith, put_grows (suc i) (suc i + length u) es (omega arith)))

  pub clean-marks : (x : Tok) (u : List Tok) (i k : ℕ)
      → Says (clean (x ∷ u) (marks i (suc (length u) + k) es codes)) (Remain i (suc (length u)) × Bare (suc i) (i + suc (length u)))
  clean-marks x u i k =
      let z : suc (length u) + k ≡ suc (length u + k) = omega arith in
      let y : i + suc (length u) ≡ suc i + length u = omega arith in
      rw (z, y) (by (gone i es) refl (tight-marks u (suc i) k))
    where
      by : (b : Bool) → gone i es ≡ b → Says (tight u (marks (suc i) (length u + k) es codes)) (Remain (suc i) (length u) × Bare (suc i) (suc i + length u))
          → Says (clean (x ∷ u) (mark (put_at i es codes) (not b) ∷ marks (suc i) (length u + k) es codes)) ((gone_before (suc i + length u) es ≡ gone_before i es) × Bare (suc i) (suc i + length u))
      by false g s =
          let o : gone_before (suc i) es ≡ gone_before i es = rw g (omega arith) in
          says_as s (λ r. let a = r.0 in (omega arith, r.1)) (λ r. let a = r.0 in (omega arith, r.1))
      by true g s =
          let o : gone_before (suc i) es ≡ gone_before i es + 1 = rw g refl in
          says_no (λ r. let a = r.0 in omega (arith, gone_grows (suc i) (length u) es))
