-- Of the places below n, how many pass a test: a count that goes on place by place is the length of what a filter keeps.
use Rattle.std.specs.Prelude.{◌≡◌, refl, Bool, true, false, cond, [], ◌∷◌, map, ℕ, zero, suc, ◌+◌, length}
use Rattle.std.specs.List.{filter, range_with_len}
use Rattle.std.proofs.Common.{sym, ap, arith, length-append}
use Rattle.std.proofs.lemmas.List.{map-id}
use Rattle.std.proofs.lemmas.List.FromFn.{filter_of_map_range_with_len_more}

one : (b : Bool) (x : ℕ) → length (cond b (x ∷ []) []) ≡ cond b 1 0
one true x = refl
one false x = refl

pub kept_below : (p : ℕ → Bool) (count : ℕ → ℕ) → count 0 ≡ 0 → ((n : ℕ) → count (n + 1) ≡ count n + cond (p n) 1 0) → (n : ℕ) → length (filter p (range_with_len 0 n)) ≡ count n
kept_below p count none more zero = sym none
kept_below p count none more (suc n) =
    let z : suc n ≡ n + 1 = omega arith in
    let a = ap (λ m. length (filter p (range_with_len 0 m))) z in
    let b = ap (λ l. length (filter p l)) (map-id (range_with_len 0 (n + 1))) in
    let m = ap length (filter_of_map_range_with_len_more p (λ j. j) 0 n n (omega arith)) in
    let l = length-append (filter p (map (λ j. j) (range_with_len 0 n))) (cond (p n) (n ∷ []) []) in
    let e = ap (λ l. length (filter p l)) (map-id (range_with_len 0 n)) in
    omega (arith, kept_below p count none more n, ap count z, more n, one (p n) n)
