-- The laws that the proofs share: that a part refused is the whole refused; tests joined; what `all` says; cells counted in one run; and
-- the walk over the states. Assumes nothing.
use mathlib.Core.Path.{◌≡◌, refl, sym, ap, subst, ◌∙◌}
use mathlib.Core.Bool.{Bool, true, false}
use mathlib.Core.List.{List}
use Prim.Native.Nat.{ℕ, zero, suc, ◌+◌, ◌-◌, ◌*◌, ◌/◌, ◌%◌, ◌≤◌, ◌<◌}
use native.Mathlib.Nat.{zero-add, not-suc-le-zero, mul-zero, mod-lt, div-add-mod', div-lt_iff_lt-mul}
use native.Mathlib.Omega.{arith}
use lib.Dec.{eqb}
use lib.ListN.{length, get_or}
use borrow.Author.Count.{below_more}
use Rattle.std.specs.Bool.{MatchBool}
use Rattle.std.specs.declared.ops.Range.{Range}
use Rattle.std.specs.Fn.{Called}
use Rattle.std.specs.Iterator.{ChecksAll}
use Rattle.std.specs.List.{range_with_len, AllWithin, HoldsAt}
use Rattle.std.proofs.iter.Yields.{nat_range_steps}
use Rattle.std.proofs.lemmas.Iterator.{YieldsList-from_range, cases_from_all}
use Rattle.std.proofs.lemmas.List.FromFn.{length-range_with_len, get_or-range_with_len}
use denote.Param.Members.{Mut}
use Rattle.definitions.specs.Sheet.{word, N, left, len, symbol, S, items_at, state_at, items, count, Production, Item, Rises, State}
use Rattle.theory.specs.Check.Says.{Says, says_yes, says_no, refused, says_as, says_eq}
use Rattle.sheet.specs.Places.{items_next, count_at, next_at, items_rise, state_before}
use Rattle.sheet.specs.Sizes.{cell_within}
use Rattle.layout.specs.Parts.{Placed, Fits, States}

-- ---- refusals

-- what has a part that is refused is refused
pub part_refused : {a : Bool} {A B : Type 0} → Says a A → a ≡ false → (B → A) → Says a B
part_refused x e f = rw e (says_no (λ h. refused x e (f h)))

-- ---- tests joined by `&&`: the second is made only where the first passed

pub joined : {a b v : Bool} {A B : Type 0} → Says a A → a ≡ true → v ≡ b → Says b B → Says v (A × B)
joined x t e y = says_as (rw e y) (λ h. (x.to t, h)) (λ h. h.1)

pub stopped : {a v : Bool} {A B : Type 0} → Says a A → a ≡ false → v ≡ a → Says v (A × B)
stopped x f e = rw (e, f) (says_no (λ h. refused x f h.0))

-- ---- `all` over a list, and over the numbers below a bound

-- what `all` says of a list, item by item
module _ (A : ℕ → Type 0) (xs : List ℕ) where
  says_listed : (b : Bool) → MatchBool b (AllWithin A xs 0 (length xs)) ((k : ℕ) × (k < length xs) × HoldsAt (λ x. A x → ⊥) xs k) →
      Says b ((k : ℕ) → k < length xs → A (get_or xs k 0))
  says_listed true h = says_yes (λ k l. h k 0 (omega arith) l)
  says_listed false h = says_no (λ g. h.2 0 (g h.0 h.1))

-- what `all` says of the numbers 0..m, where each of its calls says whether its own number is right
pub says_each : {F : Type 0} {g : Mut F (ℕ × Unit {0}) Bool} {s u : Range ℕ} {f : F} {r : Bool} {A : ℕ → Type 0} (m : ℕ) {n : ℕ} → s ≡ record { start = 0; end = m } → m ≡ n →
    ChecksAll nat_range_steps g s f r u → ((k : ℕ) (b : Bool) (q : F) → Called g f (k, tt) b q → (q ≡ f) × Says b (A k)) →
    Says r ((k : ℕ) → k < n → A k)
says_each {u = u} {f = f} {r = r} {A = A} m e z ran calls =
    let many = length-range_with_len 0 m in
    says_as
    (says_listed A (range_with_len 0 m) r
    (cases_from_all u f r A (λ k. A k → ⊥) ran (YieldsList-from_range 0 m m e (omega arith))
    (λ k q c. let y = calls k true q c in (y.0, y.1.to refl)) (λ k q c. refused (calls k false q c).1 refl)))
    (λ h k l. subst A (get_or-range_with_len 0 m k 0 (omega arith) ∙ zero-add k) (h k (omega (arith, many))))
    (λ h k l. let o : k < m = omega (arith, many) in subst A (sym (get_or-range_with_len 0 m k 0 o ∙ zero-add k)) (h k (omega arith)))

-- n rows of w cells, as one run
some_wide : (n w k : ℕ) → k < n * w → 0 < w
some_wide n zero k h = absurd (omega (arith, mul-zero n))
some_wide n (suc w) k h = omega arith

pub by_rows : (A : ℕ → Type 0) (n w : ℕ) {b : Bool} → Says b ((k : ℕ) → k < n * w → A k) →
    Says b ((s : ℕ) → s < n → (a : ℕ) → a < w → A (s * w + a))
by_rows A n w x =
    says_as x (λ f s h a g. f (s * w + a) (cell_within s a n w h g))
    (λ f k h. let pos = some_wide n w k h in subst A (div-add-mod' k w) (f (k / w) ((div-lt_iff_lt-mul pos).1 h) (k % w) (mod-lt k pos)))

-- ---- productions

-- production p, by what is read of it
pub says_production : (t : List ℕ) (p n : ℕ) {b : Bool} → left t p < N t → n ≡ len t p → n ≤ 8 →
    Says b ((k : ℕ) → k < 8 → Placed t (symbol t p k) k n) → Says b (Production t p)
says_production t p n l en s x =
    says_as x
    (λ h. record {
      of = l;
      short = omega arith;
      used = λ k g. (h k (omega arith)).0 (omega arith);
      unused = λ k g f. (h k g).1 (omega arith);
    })
    (λ h k g. (λ f. h.used k (omega arith), λ f. h.unused k g (omega arith)))

-- ---- items

module _ (t : List ℕ) where
  first : (s : ℕ) → Item t s 0 → ((j : ℕ) → j < count t s - 1 → Item t s (j + 1)) → (i : ℕ) → i < count t s → Item t s i
  first s x f zero l = x
  first s x f (suc j) l = subst (Item t s) (omega arith) (f j (omega arith))

  -- the state's items: the first, and behind each but the last the next one, which comes after it
  pub says_items : (s : ℕ) {b : Bool} → 1 ≤ count t s → Item t s 0 →
      Says b ((i : ℕ) → i < count t s - 1 → Item t s (i + 1) × Rises t s i) → Says b (State t s)
  says_items s l x y =
      says_as y
      (λ h. record { some = l; items = first s x (λ j o. (h j o).0); rise = λ i k. (h i k).1 })
      (λ h i k. (h.items (i + 1) (omega arith), h.rise i k))

  -- ---- the walk over the states

  -- the walk has come to state s at place `at`, past so many items, and all was right
  pub record Walked (s at passed : ℕ) : Type 0 where
    pub place : at ≡ state_at t s
    pub sum : passed ≡ items t s
    pub few : passed ≤ 2400
    pub within : at ≤ length t
    pub right : (r : ℕ) → r < s → State t r

  pub walked_none : (at : ℕ) → at ≡ items_at t → items_at t ≤ length t → Walked 0 at 0
  walked_none at e h =
      record { place = e; sum = refl; few = omega arith; within = omega arith; right = λ r l. absurd (not-suc-le-zero l) }

  pub walked_more : (s at passed next sum : ℕ) → Walked s at passed → Fits t at passed → State t s → next ≡ at + (2 + 10 * word t at) →
      sum ≡ passed + word t at → Walked (s + 1) next sum
  walked_more s at passed next sum w f x e g =
      record {
        place = e ∙ next_at t at s w.place;
        sum = omega (arith, items_next t s, count_at t at s w.place);
        few = omega arith;
        within = omega arith;
        right = below_more (State t) s w.right x;
      }

  -- where all states are right, so is the one that the walk has come to
  pub walked_on : (s at passed : ℕ) → Walked s at passed → s < S t → States t → Fits t at passed × State t s
  walked_on s at passed w l x =
      let n = count_at t at s w.place in
      let some = (x.states s l).some in
      let few = items_rise t (s + 1) (S t) (omega arith) in
      ((((omega arith, omega (arith, items_next t s)), omega (arith, state_before t s (S t) l))), x.states s l)

  pub walked_all : (s at passed : ℕ) → s ≡ S t → Walked s at passed → Says (eqb at (length t)) (States t)
  walked_all s at passed e w =
      let i = ap (items t) e in
      let p = ap (state_at t) e in
      says_as (says_eq at (length t))
      (λ h. record { states = λ r l. w.right r (omega arith); few = omega arith; exact = omega arith })
      (λ h. let x = h.exact in omega arith)
