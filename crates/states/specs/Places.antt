-- Where a state of a sheet well laid out lies, and the order of its items: they rise by one number, 16 · production + dot, so that
-- (p,d) stands at one item at most.
use Rattle.std.specs.Prelude.{◌≡◌, refl, Bool, true, false, List, ℕ, zero, suc, ◌+◌, ◌-◌, ◌*◌, ◌≤◌, ◌<◌, ltb, length, get_or}
use Rattle.std.proofs.Props.{props}
use Rattle.std.proofs.Common.{inl, inr, arith, ltb-true, ltb-false}
use Rattle.definitions.specs.Sheet.{P, S, len, state_at, count, item_at, prod, dot, Rises, Layout}
use Rattle.sheet.specs.Within.{item_within}
use Rattle.sheet.specs.Once.{Layout-prop}

-- state s of the sheet t, well laid out, stands at place at and has n items
pub record Lies (t : List ℕ) (s at n : ℕ) : Type 0 where
  pub laid : Layout t
  pub state : s < S t
  pub place : at ≡ state_at t s
  pub many : n ≡ count t s

-- in one way, so that a type can hold it
pub Lies-prop : (t : List ℕ) (s at n : ℕ) → IsProp (Lies t s at n)
Lies-prop t s at n = Prim.hlevel (props, Layout-prop)

-- the places of the states, and the sheet's end
abbrev pub Starts : List ℕ → List ℕ → Type 0
Starts t starts = (s : ℕ) → s ≤ S t → get_or starts s 0 ≡ state_at t s

-- what item i of s is: production, dot
pub record IsItem (t : List ℕ) (s i p d : ℕ) : Type 0 where
  pub production : p ≡ prod t s i
  pub place : d ≡ dot t s i

-- where item i of the state stands, within the sheet
pub item_place : {t : List ℕ} {s at n : ℕ} → Lies t s at n → (i : ℕ) → i < n → (at + (2 + 10 * i) ≡ item_at t s i) × (item_at t s i + 10 ≤ length t)
item_place {t} {s} l i h =
    let a = l.place in let b = l.many in
    (omega arith, item_within t l.laid s i l.state (omega arith))

-- the number by which items rise
abbrev pub key : List ℕ → ℕ → ℕ → ℕ
key t s i = 16 * prod t s i + dot t s i

module _ (t : List ℕ) (laid : Layout t) (s : ℕ) (state : s < S t) where
  pub named : (i : ℕ) → i < count t s → prod t s i < P t
  named i h = ((laid.states s state).items i h).named

  pub dot_short : (i : ℕ) → i < count t s → dot t s i ≤ 8
  dot_short i h =
      let it = (laid.states s state).items i h in
      let a = it.place in
      let b = (laid.productions (prod t s i) it.named).short in
      omega arith

  key_next : (i : ℕ) → i + 1 < count t s → key t s i < key t s (i + 1)
  key_next i h = go ((laid.states s state).rise i (omega arith))
    where
      go : Rises t s i → key t s i < key t s (i + 1)
      go (inl r) = omega (arith, dot_short i (omega arith))
      go (inr r) = let a = r.0 in let b = r.1 in omega arith

  key-by : (k i : ℕ) → i + suc k < count t s → key t s i < key t s (i + suc k)
  key-by zero i h = key_next i h
  key-by (suc k) i h =
      let e : (i + suc k) + 1 ≡ i + suc (suc k) = omega arith in
      let a = key-by k i (omega arith) in
      let b : key t s (i + suc k) < key t s ((i + suc k) + 1) = key_next (i + suc k) (omega arith) in
      let c : key t s (i + suc k) < key t s (i + suc (suc k)) = rw e at b in
      omega arith

  pub key_rise : (i j : ℕ) → i < j → j < count t s → key t s i < key t s j
  key_rise i j h l =
      let e : i + suc (j - suc i) ≡ j = omega arith in
      rw e at (key-by (j - suc i) i (rw e l))

  -- (p,d) stands at one item at most
  pub once : (i j : ℕ) → i < count t s → j < count t s → key t s i ≡ key t s j → i ≡ j
  once i j h l e = go (ltb i j) refl (ltb j i) refl
    where
      go : (a : Bool) → ltb i j ≡ a → (b : Bool) → ltb j i ≡ b → i ≡ j
      go true p b q = let r = key_rise i j (ltb-true i j p) l in absurd (omega arith)
      go false p true q = let r = key_rise j i (ltb-true j i q) h in absurd (omega arith)
      go false p false q = omega (arith, ltb-false i j p, ltb-false j i q)

-- what is known of item i of the state that lies at a place
module _ {t : List ℕ} {s at n : ℕ} (l : Lies t s at n) (i : ℕ) (h : i < n) where
  pub listed : i < count t s
  listed = let e = l.many in omega arith

  pub below : (prod t s i < P t) × (P t ≤ 200)
  below = (named t l.laid s l.state i listed, l.laid.head.productions.1)

  pub within_length : dot t s i ≤ len t (prod t s i)
  within_length = ((l.laid.states s l.state).items i listed).place

  pub short : dot t s i ≤ 8
  short = dot_short t l.laid s l.state i listed
