-- The new tree's records in the room and the lent old tree's, by their places, and what the spot word of a record says of the piece that
-- ends with it: it has no token (0); it stands nowhere in the old tree (1); or each of its records stands there at one shift.
use Rattle.std.specs.Prelude.{◌≡◌, List, ℕ, ◌+◌, ◌*◌, ◌≤◌, ◌<◌, length, get_or, take}
use Rattle.std.proofs.Common.{sym, ◌∙◌, arith, get_or-take}
use Rattle.machine.specs.Room.{states_at}
use Rattle.tree.specs.Rows.{kind_at, number_at, size_at}

-- the room's words that hold the records
unfoldable pub front : List ℕ → List ℕ
front room = take states_at room

-- kind, number and size of record j
abbrev pub kind_of : List ℕ → ℕ → ℕ
kind_of R j = get_or R (3 * j) 0

abbrev pub number_of : List ℕ → ℕ → ℕ
number_of R j = get_or R (3 * j + 1) 0

abbrev pub size_of : List ℕ → ℕ → ℕ
size_of R j = get_or R (3 * j + 2) 0

-- its spot word
abbrev pub spot_of : List ℕ → ℕ → ℕ
spot_of room j = get_or room (states_at + j) 0

-- record i is in the piece that ends with record j
pub record In (R : List ℕ) (j i : ℕ) : Type 0 where
  pub up : i ≤ j
  pub low : j < i + size_of R j

-- what the first n records must be for a walk back by sizes: a piece holds the pieces of its records
pub record Shape (R : List ℕ) (n : ℕ) : Type 0 where
  pub few : n ≤ 2048
  pub some : (j : ℕ) → j < n → 0 < size_of R j
  pub back : (j : ℕ) → j < n → size_of R j ≤ j + 1
  pub nest : (j i : ℕ) → j < n → In R j i → j + size_of R i ≤ i + size_of R j
  pub token : (j : ℕ) → j < n → kind_of R j < 256 → size_of R j ≡ 1

-- what the m records of the old tree must be: their numbers are distinct and at least 1
pub record OldRow (old : List ℕ) (m : ℕ) : Type 0 where
  pub long : 2 + 3 * m ≤ length old
  pub few : m ≤ 2048
  pub some : (k : ℕ) → k < m → 0 < number_at old k
  pub apart : (k l : ℕ) → k < m → l < m → number_at old k ≡ number_at old l → k ≡ l

-- "Pieces are equal when kinds, shape and token numbers agree": of two records
pub record Same (old R : List ℕ) (j k : ℕ) : Type 0 where
  pub kind : kind_at old k ≡ kind_of R j
  pub size : size_at old k ≡ size_of R j
  pub number : kind_of R j < 256 → number_at old k ≡ number_of R j

-- record j is the old record at the shift w: old place and 2,050 make new place and w
pub record Met (old R : List ℕ) (m w j : ℕ) : Type 0 where
  pub place : ℕ
  pub at : place + 2050 ≡ j + w
  pub inside : place < m
  pub same : Same old R j place

-- so is each record of the piece that ends with record j
pub record At (old R : List ℕ) (m w j : ℕ) : Type 0 where
  pub each : (i : ℕ) → In R j i → Met old R m w i

-- the piece has a token; it has none
pub record Has (R : List ℕ) (j : ℕ) : Type 0 where
  pub token : ℕ
  pub inside : In R j token
  pub kind : kind_of R token < 256

pub record Bare (R : List ℕ) (j : ℕ) : Type 0 where
  pub none : (i : ℕ) → In R j i → 256 ≤ kind_of R i

-- what the spot word w says of the piece that ends with record j
pub data Told (old R : List ℕ) (m j w : ℕ) : Type 0 where
  bare : w ≡ 0 → Bare R j → Told old R m j w
  lost : w ≡ 1 → Has R j → ((v : ℕ) → At old R m v j → ⊥) → Told old R m j w
  found : 2 ≤ w → Has R j → At old R m w j → Told old R m j w

-- the spot words of the first j records are told
pub record Spots (old R : List ℕ) (m : ℕ) (room : List ℕ) (j : ℕ) : Type 0 where
  pub told : (i : ℕ) → i < j → Told old R m i (spot_of room i)

pub told_none : {old R : List ℕ} {m j w : ℕ} → Told old R m j w → w ≡ 0 → Bare R j
told_none (bare e b) z = b
told_none (lost e h n) z = absurd (omega arith)
told_none (found e h a) z = absurd (omega arith)

pub told_lost : {old R : List ℕ} {m j w : ℕ} → Told old R m j w → w ≡ 1 → Has R j × ((v : ℕ) → At old R m v j → ⊥)
told_lost (bare e b) z = absurd (omega arith)
told_lost (lost e h n) z = (h, n)
told_lost (found e h a) z = absurd (omega arith)

pub told-found : {old R : List ℕ} {m j w : ℕ} → Told old R m j w → 2 ≤ w → Has R j × At old R m w j
told-found (bare e b) z = absurd (omega arith)
told-found (lost e h n) z = absurd (omega arith)
told-found (found e h a) z = (h, a)

-- ---- pieces in pieces
module _ {R : List ℕ} {n : ℕ} (S : Shape R n) {j : ℕ} (h : j < n) where
  pub in_self : In R j j
  in_self = record { up = omega arith; low = omega (arith, S.some j h) }

  pub in_in : {i x : ℕ} → In R j i → In R i x → In R j x
  in_in {i} {x} p q = record { up = omega arith; low = omega (arith, S.nest j i h p) }

  pub at_in : {old : List ℕ} {m v i : ℕ} → In R j i → At old R m v j → At old R m v i
  at_in p a = record { each = λ x q. a.each x (in_in p q) }

-- a piece with a token stands at one shift at most
pub one_shift : {old R : List ℕ} {m j v w : ℕ} → OldRow old m → Has R j → At old R m v j → At old R m w j → v ≡ w
one_shift {v = v} {w = w} O t a b =
    let p = a.each t.token t.inside in
    let q = b.each t.token t.inside in
    let e : p.place ≡ q.place = O.apart p.place q.place p.inside q.inside (p.same.number t.kind ∙ sym (q.same.number t.kind)) in
    omega (arith, p.at, q.at)

-- ---- the records are the room's
pub front_at : (room : List ℕ) (i : ℕ) → i < states_at → get_or (front room) i 0 ≡ get_or room i 0
unfolding front
front_at room i h = get_or-take states_at room i 0 h
