-- How the spot word of a token is found, by a search, one law for each way out; and the words of all records, written forward.
use Rattle.std.specs.Prelude.{◌≡◌, refl, Option, None, Some, MatchOption, List, ℕ, ◌+◌, ◌≤◌, ◌<◌, drop, set, length}
use Rattle.std.proofs.Common.{◌∙◌, arith, get_or-set_same, get_or-set_other, drop-set-lt}
use Rattle.std.proofs.Math.Decide.{dec_lt}
use Rattle.std.proofs.lemmas.List.{take-set-le}
use Rattle.machine.specs.Room.{states_at, states_end}
use Rattle.numbers.specs.Records.{front, kind_of, number_of, spot_of, In, Shape, OldRow, Same, Has, Told, lost, found, Spots, in_self}

-- r is the first old record from lo up to hi that is record j, if there is one
abbrev pub Finds : (old R : List ℕ) (j lo hi : ℕ) → Option ℕ → Type 0
Finds old R j lo hi r =
    MatchOption r ((i : ℕ) → lo ≤ i → i < hi → Same old R j i → ⊥)
    (λ k. (lo ≤ k) × (k < hi) × Same old R j k × ((i : ℕ) → lo ≤ i → i < k → Same old R j i → ⊥))

-- ---- a token's
module _ {old R : List ℕ} {n m : ℕ} (S : Shape R n) (O : OldRow old m) {j : ℕ} (h : j < n) (token : kind_of R j < 256) where
  alone : {i : ℕ} → In R j i → i ≡ j
  alone p = omega (arith, S.token j h token)

  has : Has R j
  has = record { token = j; inside = in_self S h; kind = token }

  pub token_found : (k w : ℕ) → k < m → w + j ≡ 2050 + k → Same old R j k → Told old R m j w
  token_found k w l e s =
      found (omega (arith, S.few)) has (record { each = λ i p. let z = alone p in rw z (record { place = k; at = omega arith; inside = l; same = s }) })

  pub token_lost : ((k : ℕ) → k < m → Same old R j k → ⊥) → Told old R m j 1
  token_lost none = lost refl has (λ v a. let p = a.each j (in_self S h) in none p.place p.inside p.same)

  -- sought from a place on, and before it where it is not found there
  pub token_told : {from : ℕ} (f g : Option ℕ) {w : ℕ} → from ≤ m → Finds old R j from m f → MatchOption f (Finds old R j 0 from g) (λ k. g ≡ Some k)
      → MatchOption g (w ≡ 1) (λ k. w + j ≡ 2050 + k) → Told old R m j w
  token_told (Some k) g {w} l F e v = let x : w + j ≡ 2050 + k = rw e at v in token_found k w F.1 x F.2
  token_told None (Some k) {w} l F G v = token_found k w (omega (arith, G.1)) v G.2
  token_told {from} None None l F G v = rw v (token_lost (λ x u s. by x u s (dec_lt x from)))
    where
      by : (x : ℕ) → x < m → Same old R j x → Dec (x < from) → ⊥
      by x u s (yes q) = G x (omega arith) q s
      by x u s (no q) = F x (omega arith) u s

  -- "an inserted token equals no old one"
  pub token_inserted : number_of R j ≡ 0 → Told old R m j 1
  token_inserted z = token_lost (λ k l s. omega (arith, s.number token, O.some k l))

-- ---- all of them, forward: the records stand, and the spot words before j are told
pub record Judging (old lent : List ℕ) (m : ℕ) (room : List ℕ) (j : ℕ) : Type 0 where
  pub records : front room ≡ front lent
  pub spots : Spots old (front lent) m room j
  pub rest : drop states_end room ≡ drop states_end lent

pub judge-more : {old lent room : List ℕ} {m j w : ℕ} → Judging old lent m room j → states_at + j < length room → j < 2048 → Told old (front lent) m j w → Judging old lent m (set room (states_at + j) w) (j + 1)
unfolding front
judge-more {old} {lent} {room} {m} {j} {w} J l u t = record {
  records = take-set-le states_at room (states_at + j) w (omega arith) ∙ J.records;
  spots = record { told = λ i h. by i h (dec_lt i j) };
  rest = drop-set-lt states_end room (states_at + j) w (omega arith) ∙ J.rest;
}
  where
    by : (i : ℕ) → i < j + 1 → Dec (i < j) → Told old (front lent) m i (spot_of (set room (states_at + j) w) i)
    by i h (yes g) = let z = get_or-set_other room (states_at + j) (states_at + i) w 0 (λ e. omega arith) in rw z (J.spots.told i g)
    by i h (no g) = let z : i ≡ j = omega arith in let y = get_or-set_same room (states_at + j) w 0 l in rw (z, y) t
