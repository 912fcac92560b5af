-- The invariants of the loops over states and items, each with the law of one more turn. Assumes nothing.
use mathlib.Core.Path.{◌≡◌, refl, ◌∙◌}
use mathlib.Core.Bool.{Bool, true, false}
use mathlib.Core.List.{List}
use Prim.Native.Nat.{ℕ, ◌+◌, ◌*◌, ◌≤◌, ◌<◌}
use native.Mathlib.Omega.{arith}
use borrow.Author.Count.{below_more}
use borrow.Author.Tests.{ltb-true, ltb-false}
use lib.Dec.{ltb}
use lib.ListN.{length, get_or, set}
use lib.Seq.{get_or-set_same, get_or-set_other}
use Rattle.definitions.specs.Sheet.{state_at, count}
use Rattle.definitions.specs.States.{HasItem}
use Rattle.states.specs.Places.{Lies, IsItem, key, key_rise, short}

-- the search by halves: the items before lo have a lower number, those from hi on a higher one
pub record Halves (t : List ℕ) (s n want lo hi : ℕ) : Type 0 where
  pub order : lo ≤ hi
  pub end : hi ≤ n
  pub low : (i : ℕ) → i < lo → key t s i < want
  pub high : (i : ℕ) → hi ≤ i → i < n → want < key t s i

module _ {t : List ℕ} {s at n want lo hi : ℕ} (l : Lies t s at n) (h : Halves t s n want lo hi) (mid : ℕ) (a : lo ≤ mid) (b : mid < hi) where
  many : n ≡ count t s
  many = l.many

  -- item mid is too low, too high
  pub halves_up : key t s mid < want → Halves t s n want (mid + 1) hi
  halves_up k = let e = many in let u = h.end in
      record {
        order = omega arith;
        end = u;
        low = below_more _ _ (λ i m. let r = key_rise t l.laid s l.state i mid m (omega arith) in omega arith) k;
        high = h.high;
      }

  pub halves_down : want < key t s mid → Halves t s n want lo mid
  halves_down k = let u = h.end in
      record { order = a; end = omega arith; low = h.low; high = λ i m o. above i m o (ltb mid i) refl }
    where
      above : (i : ℕ) → mid ≤ i → i < n → (c : Bool) → ltb mid i ≡ c → want < key t s i
      above i m o true q =
          let e = many in
          let r = key_rise t l.laid s l.state mid i (ltb-true mid i q) (omega arith) in omega arith
      above i m o false q =
          let e : mid ≡ i = omega (arith, ltb-false mid i q) in
          rw e at k

-- where nothing is left, (p,d) is not there; where the numbers are the same, it is
module _ {t : List ℕ} {s at n : ℕ} (l : Lies t s at n) (p d : ℕ) (small : d < 16) where
  pub none_left : {lo hi : ℕ} → Halves t s n (16 * p + d) lo hi → hi ≤ lo → HasItem t s p d → ⊥
  none_left {lo} {hi} h g r = go (ltb r.item lo) refl
    where
      same : key t s r.item ≡ 16 * p + d
      same = let a = r.production in let b = r.place in omega arith

      go : (c : Bool) → ltb r.item lo ≡ c → ⊥
      go true q = let a = h.low r.item (ltb-true r.item lo q) in let e = same in omega arith
      go false q =
          let m = l.many in let o = r.listed in let f = ltb-false r.item lo q in
          let a = h.high r.item (omega arith) (omega arith) in let e = same in omega arith

  pub same_item : (i : ℕ) → i < n → key t s i ≡ 16 * p + d → IsItem t s i p d
  same_item i h e = let a = short l i h in record { production = omega arith; place = omega arith }

-- the places of the states up to s are stored
pub record Passed (t : List ℕ) (n : ℕ) (starts : List ℕ) (at s : ℕ) : Type 0 where
  pub most : s ≤ n
  pub size : length starts ≡ 201
  pub place : at ≡ state_at t s
  pub stored : (k : ℕ) → k < s + 1 → get_or starts k 0 ≡ state_at t k

-- one more element of a list that is filled from the front
pub fill_more : {A : Type 0} (d : A) (f : ℕ → A) (xs : List A) (i : ℕ) (v : A) → i < length xs → v ≡ f i
    → ((k : ℕ) → k < i → get_or xs k d ≡ f k) → (k : ℕ) → k < i + 1 → get_or (set xs i v) k d ≡ f k
fill_more d f xs i v h e g =
    below_more _ _ (λ k l. get_or-set_other xs i k v d (λ q. omega arith) ∙ g k l) (get_or-set_same xs i v d h ∙ e)
