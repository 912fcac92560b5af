-- What `all` over the numbers below n answers, where the closure says A of each.
use Prim.Native.Nat.{ℕ, ◌<◌}
use Rattle.std.proofs.Common.{arith, subst, ◌≡◌, refl}
use Rattle.std.proofs.iter.Yields.{nat_range_steps}
use Rattle.std.proofs.lemmas.Iterator.{cases_from_all, YieldsList-from_range}
use Rattle.std.proofs.lemmas.List.FromFn.{length-range_with_len, get_or-range_with_len}
use Rattle.std.specs.Bool.{MatchBool}
use Rattle.std.specs.Fn.{Called}
use Rattle.std.specs.Iterator.{YieldsThen}
use Rattle.std.specs.List.{range_with_len, FoldsTo, AllWithin, HoldsAt}
use Rattle.std.specs.Option.{MatchOption}
use Rattle.std.specs.Prelude.{List, Bool, true, false, Option, length, get_or}
use Rattle.std.specs.declared.ops.Range.{Range}
use Rattle.theory.specs.Check.Says.{Says, says_yes, says_no, refused}
use denote.Param.Members.{Mut}

module _ {F : Type 0} {g : Mut F (ℕ × Unit {0}) Bool} {s : Range ℕ} (u : Range ℕ) (f : F) (r : Bool) (n : ℕ) (A : ℕ → Type 0) where
  pub says_from_all : (xs : List ℕ) × (o : Option ℕ) × (j : F) × YieldsThen nat_range_steps s xs o u × FoldsTo (λ p x q. Called g p (x, tt) true q) f xs j
      × MatchOption o (r ≡ true) (λ x. (r ≡ false) × ((h : F) × Called g j (x, tt) false h)) → s ≡ record { start = 0; end = n }
      → ((x : ℕ) (b : Bool) (q : F) → Called g f (x, tt) b q → (q ≡ f) × Says b (A x)) → Says r ((i : ℕ) → i < n → A i)
  says_from_all ran e k = go r
      (cases_from_all u f r A (λ x. A x → ⊥) ran (YieldsList-from_range 0 n n e (omega arith)) (λ x q c. let h = k x true q c in (h.0, h.1.to refl))
      (λ x q c. refused (k x false q c).1 refl))
    where
      at : (i : ℕ) → i < n → (d : ℕ) → get_or (range_with_len 0 n) i d ≡ i
      at i h d = omega (arith, get_or-range_with_len 0 n i d h)

      go : (b : Bool) → MatchBool b (AllWithin A (range_with_len 0 n) 0 (length (range_with_len 0 n)))
          ((k : ℕ) × (k < length (range_with_len 0 n)) × HoldsAt (λ x. A x → ⊥) (range_with_len 0 n) k) → Says b ((i : ℕ) → i < n → A i)
      go true h = says_yes (λ i l. subst A (at i l 0) (h i 0 (omega arith) (omega (arith, length-range_with_len 0 n))))
      go false h =
          let l : h.0 < n = omega (arith, length-range_with_len 0 n, h.1) in
          says_no (λ w. subst (λ (x : ℕ). A x → ⊥) (at h.0 l 0) (h.2 0) (w h.0 l))
