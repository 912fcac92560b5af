-- Runs: records side by side that stand in the old tree at one shift, and the spot words that follow from them. A piece with tokens stands in
-- the old tree exactly where it is in the run of its last token.
use Rattle.std.specs.Prelude.{◌≡◌, refl, Option, None, Some, MatchOption, unwrap_or, List, ℕ, ◌+◌, ◌-◌, ◌≤◌, ◌<◌, set, length}
use Rattle.std.proofs.Common.{arith}
use Rattle.std.proofs.Math.Decide.{dec_lt}
use Rattle.machine.specs.Room.{states_at}
use Rattle.numbers.specs.Records.{front, kind_of, size_of, In, Shape, OldRow, Met, At, Has, Told, bare, lost, found, told-found, in_self, at_in, one_shift}
use Rattle.numbers.specs.Spots.{Judging, judge-more, token_found}
use Rattle.numbers.specs.declared.runs.Run.{Run}

-- the last token before record j stands before `last`
pub record Last (R : List ℕ) (j last : ℕ) : Type 0 where
  pub up : last ≤ j
  pub token : 0 < last → kind_of R (last - 1) < 256
  pub none : (i : ℕ) → last ≤ i → i < j → 256 ≤ kind_of R i

pub last_more : {R : List ℕ} {j last next : ℕ} → Last R j last → (kind_of R j < 256 → next ≡ j + 1) × (256 ≤ kind_of R j → next ≡ last) → Last R (j + 1) next
last_more {R} {j} {last} {next} L c = by (dec_lt (kind_of R j) 256)
  where
    by : Dec (kind_of R j < 256) → Last R (j + 1) next
    by (yes h) =
        let e = c.0 h in
        let z : next - 1 ≡ j = omega arith in
        record { up = omega arith; token = λ p. rw z h; none = λ i a b. absurd (omega arith) }
    by (no h) =
        let e = c.1 (omega arith) in
        rw e (record { up = omega (arith, L.up); token = L.token; none = λ i a b. at i a b (dec_lt i j) })
      where
        at : (i : ℕ) → last ≤ i → i < j + 1 → Dec (i < j) → 256 ≤ kind_of R i
        at i a b (yes g) = L.none i a g
        at i a b (no g) = let z : i ≡ j = omega arith in rw z (omega arith)

-- where the run at the shift w that ends before record j starts; where the one that starts with record j ends, of n records
pub record Starts (old R : List ℕ) (m w j start : ℕ) : Type 0 where
  pub up : start ≤ j
  pub met : (i : ℕ) → start ≤ i → i < j → Met old R m w i
  pub before : 0 < start → Met old R m w (start - 1) → ⊥

pub record Stops (old R : List ℕ) (m w n j end : ℕ) : Type 0 where
  pub low : j ≤ end
  pub high : end ≤ n
  pub met : (i : ℕ) → j ≤ i → i < end → Met old R m w i
  pub stop : end < n → Met old R m w end → ⊥

-- it ends before the first record that is not of it
pub stops_first : {old R : List ℕ} {m w n j e : ℕ} (r : Option ℕ) → j ≤ n → MatchOption r ((i : ℕ) → j ≤ i → i < n → Met old R m w i)
    (λ k. (j ≤ k) × (k < n) × (Met old R m w k → ⊥) × ((i : ℕ) → j ≤ i → i < k → Met old R m w i)) → e ≡ unwrap_or r n → Stops old R m w n j e
stops_first None h F z = rw z (record { low = h; high = omega arith; met = F; stop = λ l. absurd (omega arith) })
stops_first (Some k) h F z = rw z (record { low = F.0; high = omega (arith, F.1); met = F.3; stop = λ l. F.2 })

pub starts_more : {old R : List ℕ} {m w j start : ℕ} → Starts old R m w j start → Met old R m w j → Starts old R m w (j + 1) start
starts_more {old} {R} {m} {w} {j} {start} S t = record { up = omega (arith, S.up); met = λ i a b. at i a b (dec_lt i j); before = S.before }
  where
    at : (i : ℕ) → start ≤ i → i < j + 1 → Dec (i < j) → Met old R m w i
    at i a b (yes g) = S.met i a g
    at i a b (no g) = let z : i ≡ j = omega arith in rw z t

-- while a run is followed back: its records so far
pub record Met-all (old R : List ℕ) (m w a b : ℕ) : Type 0 where
  pub met : (i : ℕ) → a ≤ i → i < b → Met old R m w i

pub none_met : {old R : List ℕ} {m w a : ℕ} → Met-all old R m w a a
none_met = record { met = λ i x y. absurd (omega arith) }

pub met_back : {old R : List ℕ} {m w e j : ℕ} → Met-all old R m w e j → 0 < e → Met old R m w (e - 1) → Met-all old R m w (e - 1) j
met_back {old} {R} {m} {w} {e} {j} A p t = record { met = λ i x y. at i x y (dec_lt i e) }
  where
    at : (i : ℕ) → e - 1 ≤ i → i < j → Dec (i < e) → Met old R m w i
    at i x y (yes g) = let z : i ≡ e - 1 = omega arith in rw z t
    at i x y (no g) = A.met i (omega arith) y

-- the word that is chosen for a piece from record `first` on
abbrev pub Chosen : ℕ → ℕ → ℕ → ℕ → ℕ → Type 0
Chosen first start last w v = (last ≤ first → v ≡ 0) × (first < last → start ≤ first → v ≡ w) × (first < last → first < start → v ≡ 1)

-- it is the piece's
module _ {old R : List ℕ} {n m : ℕ} (S : Shape R n) (O : OldRow old m) {j : ℕ} (h : j < n) where
  pub judged : {first start last w v : ℕ} → first + size_of R j ≡ j + 1 → Last R (j + 1) last → (0 < last → Told old R m (last - 1) w) → start ≤ j + 1 → (start ≤ j → 2 ≤ w)
      → ((i : ℕ) → start ≤ i → i ≤ j → Met old R m w i) → (2 ≤ w → 0 < start → Met old R m w (start - 1) → ⊥) → Chosen first start last w v → Told old R m j v
  judged {first} {start} {last} {w} {v} e L T u g met before c = by (dec_lt first last)
    where
      inside : first < last → In R j (last - 1)
      inside l = record { up = omega (arith, L.up); low = omega arith }

      has : first < last → Has R j
      has l = record { token = last - 1; inside = inside l; kind = L.token (omega arith) }

      own : first < last → Has R (last - 1)
      own l = record { token = last - 1; inside = in_self S (omega (arith, L.up)); kind = L.token (omega arith) }

      nowhere : first < last → first < start → Told old R m (last - 1) w → (a : ℕ) → At old R m a j → ⊥
      nowhere l s (bare z b) a A = omega (arith, b.none (last - 1) (own l).inside, (own l).kind)
      nowhere l s (lost z t k) a A = k a (at_in S h (inside l) A)
      nowhere l s (found z t B) a A =
          let y = one_shift O (own l) (at_in S h (inside l) A) B in
          before z (omega arith) ((rw y at A).each (start - 1) (record { up = omega arith; low = omega arith }))

      with_token : first < last → Dec (first < start) → Told old R m j v
      with_token l (yes s) = rw (c.2 l s) (lost refl (has l) (nowhere l s (T (omega arith))))
      with_token l (no s) =
          rw (c.1 l (omega arith)) (found (g (omega (arith, S.some j h))) (has l) (record { each = λ i p. met i (omega (arith, p.low)) p.up }))

      by : Dec (first < last) → Told old R m j v
      by (yes l) = with_token l (dec_lt first start)
      by (no l) = rw (c.0 (omega arith)) (bare refl (record { none = λ i p. L.none i (omega (arith, p.low)) (omega (arith, p.up)) }))

-- ---- the words of a run

-- up to record j they are written; the last token stands before `last`
pub record Filling (old R : List ℕ) (m w start j last : ℕ) : Type 0 where
  pub tok : Last R j last
  pub some : 0 < last
  pub told : Told old R m (last - 1) w
  pub run : Starts old R m w j start

abbrev pub Filled : List ℕ → List ℕ → ℕ → ℕ → ℕ → ℕ → ℕ → ℕ → Type 0
Filled room room' a e start before w last =
    (old lent : List ℕ) (m : ℕ) → OldRow old m → 2 ≤ w → Judging old lent m room a → Filling old (front lent) m w start a before → ((i : ℕ) → a ≤ i → i < e → Met old (front lent) m w i)
    → Judging old lent m room' e × Filling old (front lent) m w start e last

pub fill_more : {old R : List ℕ} {n m : ℕ} (S : Shape R n) (O : OldRow old m) {j : ℕ} (h : j < n) {w start last next first v : ℕ} → 2 ≤ w → Filling old R m w start j last → Met old R m w j
    → (kind_of R j < 256 → next ≡ j + 1) × (256 ≤ kind_of R j → next ≡ last) → first + size_of R j ≡ j + 1 → Chosen first start next w v → Told old R m j v × Filling old R m w start (j + 1) next
fill_more {old} {R} {n} {m} S O {j} h {w} {start} {last} {next} {first} {v} g F t c e k =
    let L = last_more F.tok c in
    let s = starts_more F.run t in
    let T = by (dec_lt (kind_of R j) 256) in
    (judged S O h e L (λ p. T.1) s.up (λ p. g) (λ i a b. s.met i a (omega arith)) (λ p q. s.before q) k, record { tok = L; some = T.0; told = T.1; run = s })
  where
    by : Dec (kind_of R j < 256) → (0 < next) × Told old R m (next - 1) w
    by (yes q) =
        let y = c.0 q in
        let z : next - 1 ≡ j = omega arith in
        (omega arith, rw z (token_found S O h q t.place w t.inside (omega (arith, t.at)) t.same))
    by (no q) = let y = c.1 (omega arith) in rw y (F.some, F.told)

-- ---- the walk over all records

-- before a record that is not of the run before it
pub record Walking (old lent : List ℕ) (m n : ℕ) (room : List ℕ) (r : Run) : Type 0 where
  pub judging : Judging old lent m room r.at
  pub high : r.at ≤ n
  pub from : r.from ≤ m
  pub last : Last (front lent) r.at r.last
  pub some : 2 ≤ r.shift → 0 < r.last
  pub told : 0 < r.last → Told old (front lent) m (r.last - 1) r.shift
  pub stop : r.at < n → 2 ≤ r.shift → Met old (front lent) m r.shift r.at → ⊥

-- behind it
pub record Started (old lent : List ℕ) (m n : ℕ) (room : List ℕ) (r : Run) : Type 0 where
  pub judging : Judging old lent m room r.at
  pub high : r.at ≤ n
  pub from : r.from ≤ m
  pub last : Last (front lent) r.at r.last
  pub some : 2 ≤ r.shift → 0 < r.last
  pub told : 0 < r.last → Told old (front lent) m (r.last - 1) r.shift
  pub run : 2 ≤ r.shift → Starts old (front lent) m r.shift r.at r.start

module _ {old lent room : List ℕ} {m n : ℕ} {r : Run} (S : Shape (front lent) n) (O : OldRow old m) where
  module _ (W : Walking old lent m n room r) (h : r.at < n) (long : 16384 ≤ length room) where
    small : r.at < 2048
    small = omega (arith, S.few)

    -- a token
    pub pass_token : {w s : ℕ} → kind_of (front lent) r.at < 256 → Told old (front lent) m r.at w → Starts old (front lent) m w r.at s
        → Started old lent m n (set room (states_at + r.at) w) (record { at = r.at + 1; last = r.at + 1; shift = w; start = s; from = r.from })
    pass_token {w} k t s =
        let z : r.at + 1 - 1 ≡ r.at = omega arith in
        record {
          judging = judge-more W.judging (omega (arith, small)) small t;
          high = omega arith;
          from = W.from;
          last = last_more W.last (λ q. refl, λ q. absurd (omega arith));
          some = λ q. omega arith;
          told = λ q. rw z t;
          run = λ q. starts_more s ((told-found t q).1.each r.at (in_self S h));
        }

    -- a node
    pub pass_node : {first v : ℕ} → 256 ≤ kind_of (front lent) r.at → first + size_of (front lent) r.at ≡ r.at + 1 → Chosen first (r.at + 1) r.last r.shift v
        → Started old lent m n (set room (states_at + r.at) v) (record { at = r.at + 1; last = r.last; shift = r.shift; start = r.at + 1; from = r.from })
    pass_node {first} {v} k e c =
        let z : r.at + 1 - 1 ≡ r.at = omega arith in
        let L = last_more W.last (λ q. absurd (omega arith), λ q. refl) in
        let stop : 2 ≤ r.shift → Met old (front lent) m r.shift (r.at + 1 - 1) → ⊥ = λ q. rw z (W.stop h q) in
        let t = judged S O h e L W.told (omega arith) (λ q. absurd (omega arith)) (λ i a b. absurd (omega arith)) (λ q p. stop q) c in
        record {
          judging = judge-more W.judging (omega (arith, small)) small t;
          high = omega arith;
          from = W.from;
          last = L;
          some = W.some;
          told = W.told;
          run = λ q. record { up = omega arith; met = λ i a b. absurd (omega arith); before = λ p. stop q };
        }

  module _ (B : Started old lent m n room r) where
    -- no run
    pub fill_none : r.shift < 2 → Walking old lent m n room r
    fill_none l = record { judging = B.judging; high = B.high; from = B.from; last = B.last; some = B.some; told = B.told; stop = λ p q. absurd (omega arith) }

    -- the old place of the record behind the run's last is a number
    pub shift-low : 2 ≤ r.shift → 2050 ≤ r.at + r.shift
    shift-low l =
        let p = B.some l in
        let t = (told-found (B.told p) l).1.each (r.last - 1) (in_self S (omega (arith, B.last.up, B.high))) in
        omega (arith, t.at, B.last.up)

    pub filling : 2 ≤ r.shift → Filling old (front lent) m r.shift r.start r.at r.last
    filling l = record { tok = B.last; some = B.some l; told = B.told (B.some l); run = B.run l }

    pub fill_run : {room' : List ℕ} {e last from : ℕ} → Stops old (front lent) m r.shift n r.at e → Judging old lent m room' e × Filling old (front lent) m r.shift r.start e last → from ≤ m
        → Walking old lent m n room' (record { at = e; last = last; shift = r.shift; start = r.start; from = from })
    fill_run E F l = record { judging = F.0; high = E.high; from = l; last = F.1.tok; some = λ q. F.1.some; told = λ q. F.1.told; stop = λ p q. E.stop p }
