-- Bytes put into a row from a place on: what stands before the place stays, and the next place is behind the bytes.
use Rattle.std.specs.Prelude.{◌≡◌, List, [], ◌∷◌, ◌++◌, ℕ, ◌+◌, ◌<◌, length, get_or, take, set}
use Rattle.std.proofs.Common.{sym, ap, ◌∙◌, append_assoc, append-nil, arith, add-one, length-append, length-take, take-suc, take-suc-set}
use Rattle.io.specs.Counts.{IsPrefixLen}

pub record Put (row : List ℕ) (at : ℕ) (bytes : List ℕ) (row' : List ℕ) (next : ℕ) : Type 0 where
  pub ends : next ≡ at + length bytes
  pub holds : take next row' ≡ take at row ++ bytes

-- nothing
pub put-none : (row : List ℕ) (at : ℕ) → Put row at [] row at
put-none row at = record { ends = omega arith; holds = sym (append-nil (take at row)) }

-- one byte
pub put_one : (row : List ℕ) (at b : ℕ) → at < length row → Put row at (b ∷ []) (set row at b) (at + 1)
put_one row at b h = record { ends = omega arith; holds = rw add-one (take-suc-set row at b h) }

-- one run of bytes after another
pub put_then : {row row' row'' bytes more : List ℕ} {at next last : ℕ} → Put row at bytes row' next → Put row' next more row'' last → Put row at (bytes ++ more) row'' last
put_then {row} {bytes = bytes} {more = more} {at = at} p q =
    record {
      ends = omega (arith, p.ends, q.ends, length-append bytes more);
      holds = q.holds ∙ ap (λ (l : List ℕ). l ++ more) p.holds ∙ append_assoc (take at row) bytes more;
    }

-- one byte of another row after the ones before it
pub put_next : {row row' : List ℕ} {at : ℕ} (text : List ℕ) (i : ℕ) → Put row at (take i text) row' (at + i) → i < length text → at + i < length row'
    → Put row at (take (i + 1) text) (set row' (at + i) (get_or text i 0)) (at + (i + 1))
put_next {row} {row'} {at} text i p h k =
    let e : at + i + 1 ≡ at + (i + 1) = omega arith in
    let s : take (i + 1) text ≡ take i text ++ (get_or text i 0 ∷ []) = rw add-one (take-suc text i 0 h) in
    rw (s, ← e) (put_then p (put_one row' (at + i) (get_or text i 0) k))

-- one more element of another row, in the place that it has there
pub spread-more : (codes bytes : List ℕ) (i w : ℕ) → i < length codes → i < length bytes → w ≡ get_or bytes i 0 → take i codes ≡ take i bytes → take (i + 1) (set codes i w) ≡ take (i + 1) bytes
spread-more codes bytes i w h k e z = rw (add-one, e, take-suc-set codes i (get_or bytes i 0) h, z) (sym (take-suc bytes i 0 k))

-- what is put from the start is counted
pub put-counts : {row bytes row' : List ℕ} {next : ℕ} → Put row 0 bytes row' next → IsPrefixLen next row'
put-counts {bytes = bytes} {row' = row'} {next = next} p =
    let z : 0 + length bytes ≡ length bytes = omega arith in
    let e : length (take next row') ≡ next = ap length p.holds ∙ sym (p.ends ∙ z) in
    (omega (arith, length-take next row'), sym e)
