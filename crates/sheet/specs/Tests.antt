-- What a test of every number below n, or of every element of a list, answers: `Says` of the fact for each of them. The premise is what
-- the library's lemma of `all` gives (`cases_from_all`).
use Rattle.std.specs.Prelude.{◌≡◌, Bool, true, false, List, ℕ, ◌<◌, length, get_or}
use Rattle.std.specs.Bool.{MatchBool}
use Rattle.std.specs.List.{range_with_len, AllWithin, HoldsAt}
use Rattle.std.proofs.Common.{subst, sym, arith}
use Rattle.std.proofs.lemmas.List.FromFn.{length-range_with_len, get_or-range_with_len}
use Rattle.theory.specs.Check.Says.{Says, says_yes, says_no}

-- A holds of each element, or fails at some place
abbrev pub Tried : (ℕ → Type 0) → List ℕ → Bool → Type 0
Tried A xs r = MatchBool r (AllWithin A xs 0 (length xs)) ((k : ℕ) × (k < length xs) × HoldsAt (λ x. A x → ⊥) xs k)

pub says_list : (A : ℕ → Type 0) (xs : List ℕ) (r : Bool) → Tried A xs r → Says r ((k : ℕ) → k < length xs → A (get_or xs k 0))
says_list A xs true f = says_yes (λ k h. f k 0 (omega arith) h)
says_list A xs false f = says_no (λ g. f.2 0 (g f.0 f.1))

at : (n k : ℕ) → k < n → get_or (range_with_len 0 n) k 0 ≡ k
at n k h = omega (arith, get_or-range_with_len 0 n k 0 h)

pub says_range : (A : ℕ → Type 0) (n : ℕ) (r : Bool) → Tried A (range_with_len 0 n) r → Says r ((k : ℕ) → k < n → A k)
says_range A n true f =
    says_yes (λ k h. subst A (at n k h) (f k 0 (omega arith) (omega (arith, length-range_with_len 0 n))))
says_range A n false f =
    says_no (λ g.
    let h : f.0 < n = let l = f.1 in omega (arith, length-range_with_len 0 n) in
    f.2 0 (subst A (sym (at n f.0 h)) (g f.0 h)))
