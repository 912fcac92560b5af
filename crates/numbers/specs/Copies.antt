-- A row of old numbers copied into the room's records, and one step of the backward pass: over one record, or over a piece that takes its
-- old numbers.
use Rattle.std.specs.Prelude.{◌≡◌, refl, List, ℕ, ◌+◌, ◌-◌, ◌*◌, ◌≤◌, ◌<◌, length, get_or, drop, set}
use Rattle.std.proofs.Common.{ap, ◌∙◌, arith, length-set, get_or-set_same, get_or-set_other, drop-set-lt, length-take-le}
use Rattle.std.proofs.Math.Decide.{dec_lt}
use Rattle.std.proofs.Math.Seq.{take-set-lt}
use Rattle.machine.specs.Room.{states_at, states_end}
use Rattle.tree.specs.Rows.{number_at}
use Rattle.numbers.specs.Records.{front, kind_of, number_of, size_of, spot_of, Shape, OldRow, Told, told-found}

-- the old records that the shift w leads to from records a up to b are in the row
pub record Reaches (old : List ℕ) (w a b : ℕ) : Type 0 where
  pub each : (i : ℕ) → a ≤ i → i < b → (k : ℕ) × (k + 2050 ≡ i + w) × (2 + 3 * k + 3 ≤ length old)

-- kinds, sizes and spot words stand, and the words past them; so do the numbers of the records before e
pub record Frame (lent room : List ℕ) (e : ℕ) : Type 0 where
  pub long : length room ≡ length lent
  pub kinds : (i : ℕ) → kind_of (front room) i ≡ kind_of (front lent) i
  pub sizes : (i : ℕ) → size_of (front room) i ≡ size_of (front lent) i
  pub spots : (i : ℕ) → spot_of room i ≡ spot_of lent i
  pub rest : drop states_end room ≡ drop states_end lent
  pub before : (i : ℕ) → i < e → number_of (front room) i ≡ number_of (front lent) i

-- records a up to b have the old numbers at the shift w
pub record Copies (old lent : List ℕ) (a b w : ℕ) (room : List ℕ) : Type 0 where
  pub frame : Frame lent room a
  pub after : (i : ℕ) → b ≤ i → number_of (front room) i ≡ number_of (front lent) i
  pub numbers : (i k : ℕ) → a ≤ i → i < b → k + 2050 ≡ i + w → number_of (front room) i ≡ number_at old k

pub frame_same : (lent : List ℕ) (e : ℕ) → Frame lent lent e
frame_same lent e = record { long = refl; kinds = λ i. refl; sizes = λ i. refl; spots = λ i. refl; rest = refl; before = λ i h. refl }

pub copies_none : (old lent : List ℕ) (a w : ℕ) → Copies old lent a a w lent
copies_none old lent a w = record { frame = frame_same lent a; after = λ i h. refl; numbers = λ i k p q e. absurd (omega arith) }

pub frame_frame : {lent room room' : List ℕ} {e a : ℕ} → Frame lent room e → Frame room room' a → a ≤ e → Frame lent room' a
frame_frame F F' h = record {
  long = F'.long ∙ F.long;
  kinds = λ i. F'.kinds i ∙ F.kinds i;
  sizes = λ i. F'.sizes i ∙ F.sizes i;
  spots = λ i. F'.spots i ∙ F.spots i;
  rest = F'.rest ∙ F.rest;
  before = λ i l. F'.before i l ∙ F.before i (omega arith);
}

front-set : (room : List ℕ) (p v : ℕ) → p < states_at → front (set room p v) ≡ set (front room) p v
unfolding front
front-set room p v h = take-set-lt states_at room p v h

length_front : (room : List ℕ) → 16384 ≤ length room → length (front room) ≡ states_at
unfolding front
length_front room h = length-take-le states_at room (omega arith)

pub copy_more : {old lent room : List ℕ} {a b w : ℕ} → Copies old lent a b w room → 16384 ≤ length room → b < 2048 → a ≤ b → (k : ℕ) → k + 2050 ≡ b + w
    → Copies old lent a (b + 1) w (set room (3 * b + 1) (number_at old k))
copy_more {old} {lent} {room} {a} {b} {w} C l h u k z = record {
  frame = record {
    long = length-set room (3 * b + 1) v ∙ C.frame.long;
    kinds = λ i. other (3 * i) (λ e. omega arith) ∙ C.frame.kinds i;
    sizes = λ i. other (3 * i + 2) (λ e. omega arith) ∙ C.frame.sizes i;
    spots = λ i. get_or-set_other room (3 * b + 1) (states_at + i) v 0 (λ e. omega arith) ∙ C.frame.spots i;
    rest = drop-set-lt states_end room (3 * b + 1) v (omega arith) ∙ C.frame.rest;
    before = λ i p. other (3 * i + 1) (λ e. omega arith) ∙ C.frame.before i p;
  };
  after = λ i p. other (3 * i + 1) (λ e. omega arith) ∙ C.after i (omega arith);
  numbers = λ i x p q e. by i x p q e (dec_lt i b);
}
  where
    v : ℕ
    v = number_at old k

    other : (x : ℕ) → (x ≡ 3 * b + 1 → ⊥) → get_or (front (set room (3 * b + 1) v)) x 0 ≡ get_or (front room) x 0
    other x n = ap (λ (m : List ℕ). get_or m x 0) (front-set room (3 * b + 1) v (omega arith)) ∙ get_or-set_other (front room) (3 * b + 1) x v 0 n

    by : (i x : ℕ) → a ≤ i → i < b + 1 → x + 2050 ≡ i + w → Dec (i < b) → number_of (front (set room (3 * b + 1) v)) i ≡ number_at old x
    by i x p q e (yes g) = other (3 * i + 1) (λ e. omega arith) ∙ C.numbers i x p g e
    by i x p q e (no g) =
        let y : i ≡ b = omega arith in
        let t : k ≡ x = omega arith in
        rw (y, ← t) (ap (λ (m : List ℕ). get_or m (3 * b + 1) 0) (front-set room (3 * b + 1) v (omega arith)) ∙ get_or-set_same (front room) (3 * b + 1) v 0 (omega (arith, length_front room l)))

-- one step back from e to e'
pub data Stepped (old room : List ℕ) (e : ℕ) (room' : List ℕ) (e' : ℕ) : Type 0 where
  one : spot_of room (e - 1) < 2 → e' + 1 ≡ e → room' ≡ room → Stepped old room e room' e'
  whole : 2 ≤ spot_of room (e - 1) → e' + size_of (front room) (e - 1) ≡ e → Copies old room e' e (spot_of room (e - 1)) room' → Stepped old room e room' e'

pub step_less : {old room room' : List ℕ} {e e' : ℕ} → Stepped old room e room' e' → 0 < size_of (front room) (e - 1) → e' < e
step_less (one h z q) l = omega arith
step_less (whole h z C) l = omega arith

pub step_frame : {old lent room room' : List ℕ} {e e' : ℕ} → Frame lent room e → Stepped old room e room' e' → Frame lent room' e'
step_frame {lent = lent} {room = room} {e' = e'} F (one h z q) = rw q (frame_frame F (frame_same room e') (omega arith))
step_frame F (whole h z C) = frame_frame F C.frame (omega arith)

-- a piece that stands in the old tree reaches only records of it
pub reaches : {old lent room : List ℕ} {m n e : ℕ} → Shape (front lent) n → OldRow old m → Frame lent room e → 0 < e → e ≤ n → Told old (front lent) m (e - 1) (spot_of lent (e - 1)) → 2 ≤ spot_of room (e - 1)
    → Reaches old (spot_of room (e - 1)) (e - size_of (front room) (e - 1)) e
reaches {lent = lent} {room = room} {e = e} S O F p l t h =
    let a = (told-found (rw (← F.spots (e - 1)) at t) h).1 in
    record {
      each = λ i u v.
          let q = a.each i (record { up = omega arith; low = omega (arith, F.sizes (e - 1), S.back (e - 1) (omega arith)) }) in
          (q.place, q.at, omega (arith, q.inside, O.long));
    }
