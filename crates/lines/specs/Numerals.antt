-- The decimal of a word of 32 bits is what the kit's `io::decimal` writes, in ten digits at most.
use Rattle.std.specs.Prelude.{◌≡◌, refl, Bool, true, false, cond, [], ◌∷◌, ◌++◌, ℕ, zero, suc, ◌+◌, ◌-◌, ◌/◌, ◌%◌, ◌^◌, ◌≤◌, ◌<◌, ltb, length}
use Rattle.std.proofs.Common.{ap, arith, mod-eq_of_lt, pow-suc, length-append, lt-ltb, le-ltb}
use Rattle.std.proofs.Math.Decide.{dec_le}
use Rattle.std.proofs.Math.Nat.{pow-le-pow_right, one-le-pow}
use Rattle.io.specs.Digits.{hex_digit_ascii, last_digits, IsDigitCount}
use Rattle.lines.specs.Program.{numeral, decimal, part, node_line}

-- the fewest digits are ten or fewer
pub ten_digits : (n k : ℕ) → n < 4294967296 → IsDigitCount 10 1 n k → k ≤ 10
ten_digits n k h f = by (dec_le k 10)
  where
    by : Dec (k ≤ 10) → k ≤ 10
    by (yes l) = l
    by (no l) =
        let a : 10000000000 ≤ 10 ^ (k - 1) = pow-le-pow_right {n = 10} (omega arith) {i = 10} {j = k - 1} (omega arith) in
        let b = f.2 (omega arith) in absurd (omega arith)

-- a digit's byte
glyph_of : (d : ℕ) → d < 10 → hex_digit_ascii d ≡ 48 + d
glyph_of d h = rw (lt-ltb d 10 h) refl

-- the fewest digits are the numeral
numeral_is : (most k n : ℕ) → k ≤ most → 1 ≤ k → n < 10 ^ k → (1 < k → 10 ^ (k - 1) ≤ n) → last_digits 10 k n ≡ numeral most n
unfolding numeral
numeral_is most zero n l p h m = absurd (omega arith)
numeral_is zero (suc k) n l p h m = absurd (omega arith)
numeral_is (suc most) (suc zero) n l p h m =
    let z : n < 10 = h in
    rw (lt-ltb n 10 z, mod-eq_of_lt z) (ap (λ (d : ℕ). d ∷ []) (glyph_of n z))
numeral_is (suc most) (suc (suc k)) n l p h m =
    let e : suc (suc k) - 1 ≡ suc k = omega arith in
    let d : suc k - 1 ≡ k = omega arith in
    let a : 10 ^ suc k ≤ n = rw e at (m (omega arith)) in
    let b = pow-suc 10 k in
    let c = pow-suc 10 (suc k) in
    let o = one-le-pow k 10 (omega arith) in
    let z : 10 ≤ n = omega arith in
    rw (le-ltb n 10 z, glyph_of (n % 10) (omega arith), numeral_is most (suc k) (n / 10) (omega arith) (omega arith) (omega arith) (λ i. rw d (omega arith))) refl

pub decimal_is : (n k : ℕ) → n < 4294967296 → IsDigitCount 10 1 n k → last_digits 10 k n ≡ decimal n
unfolding decimal
decimal_is n k h f = numeral_is 10 k n (ten_digits n k h f) f.0 f.1 f.2

-- ---- how long a numeral and a line are at most
numeral-length : (most n : ℕ) → length (numeral most n) ≤ most
unfolding numeral
numeral-length zero n = omega arith
numeral-length (suc most) n = by (ltb n 10) (numeral-length most (n / 10))
  where
    by : (b : Bool) → length (numeral most (n / 10)) ≤ most → length (cond b ((48 + n) ∷ []) (numeral most (n / 10) ++ ((48 + n % 10) ∷ []))) ≤ suc most
    by true h = omega arith
    by false h = omega (arith, length-append (numeral most (n / 10)) ((48 + n % 10) ∷ []))

pub decimal-length : (n : ℕ) → length (decimal n) ≤ 10
unfolding decimal
decimal-length n = numeral-length 10 n

pub part_length : (n b : ℕ) → length (part n b) ≤ 11
part_length n b = omega (arith, length-append (decimal n) (b ∷ []), decimal-length n)

pub node_length : (a b c : ℕ) → length (node_line a b c) ≤ 33
node_length a b c = omega (arith, length-append (part a 32) (part b 32 ++ part c 10), length-append (part b 32) (part c 10), part_length a 32, part_length b 32, part_length c 10)
