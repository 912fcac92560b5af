-- What the code's turns and its end say of the definitions' reading.
use Rattle.std.specs.Prelude.{◌≡◌, refl, Result, Ok, Err, List, ℕ, zero, suc, ◌+◌, ◌-◌, ◌≤◌, ◌<◌, length, get_or, drop}
use Rattle.std.proofs.Common.{sym, ap, ◌∙◌, subst, arith}
use Rattle.definitions.specs.Sheet.{T}
use Rattle.definitions.specs.Table.{Table, table_of}
use Rattle.definitions.specs.Tree.{mk, Row, row, size}
use Rattle.definitions.specs.Reading.{leaf, Stack, bot, push, shifted, taken, refused, Counts, Move, reduction, token_shift, on, stop}
use Rattle.definitions.specs.Reading as Reading
use Rattle.definitions.specs.Moves.{tally, cost, turn, Done, after, read, reading}
use Rattle.definitions.specs.Edits.{Codes, inserted}
use Rattle.theory.specs.Machine.Room.{moved}
use Rattle.answers.specs.declared.Refusal.{Refusal}
use Rattle.answers.specs.Values.{refusal_of, number_of, place_of}
use Rattle.machine.specs.Room.{Holds, states_end}
use Rattle.machine.specs.Back.{Landed}
use Rattle.machine.specs.Steps.{Stands, Took, Did}
use Rattle.machine.specs.declared.Move as Code
use Rattle.machine.specs.declared.Stuck.{Stuck}
use Rattle.reading.specs.Text.{unread, unread_next, stands}

-- the counts of a fresh reading that holds n nodes and has shifted i tokens: each other node is one reduction
abbrev pub counted : ℕ → ℕ → Counts
counted n i = record { lefts = 0; rights = 0; wholes = 0; shifts = i; reductions = n - i }

-- ---- how a reading ends, by the code's answer
pub record Accepts (r : List ℕ) (d : Done) (n i : ℕ) : Type 0 where
  pub stack : Stack
  pub is : d.end ≡ taken stack
  pub counts : d.counts ≡ counted n i
  pub small : n ≤ 2048
  pub low : i ≤ n
  pub holds : Holds r n stack

-- the definitions' end of a refusal: its number and place
abbrev pub end_of : Refusal → Reading.End
end_of e = refused (number_of (refusal_of e)) (place_of (refusal_of e))

abbrev pub Ends : List ℕ → Done → Result (ℕ × ℕ) Refusal → Type 0
Ends r d (Ok (n, i)) = Accepts r d n i
Ends r d (Err e) = d.end ≡ end_of e

-- ---- what a turn does, over n nodes and i tokens shifted
pub record Going (codes r : List ℕ) (n i : ℕ) (o : Reading.Turn) (i' : ℕ) : Type 0 where
  pub move : Move
  pub stack : Stack
  pub is : o ≡ on move stack (unread codes i')
  pub holds : Holds r (n + 1) stack
  pub tokens : shifted stack ≡ i'
  pub room : n < 2048
  pub one : cost move ≡ 1
  pub tallied : tally move (counted n i) ≡ counted (n + 1) i'
  pub within : i' ≤ length codes
  pub low : i' ≤ n + 1

-- ---- a turn that goes on
module _ (codes : List ℕ) (n : ℕ) (σ : Stack) (i : ℕ) (k : shifted σ ≡ i) (low : i ≤ n) (l : n < 2048) where
  pub shift-goes : {r : List ℕ} {a : ℕ} {o : Reading.Turn} → Took r n σ (unread codes i) a 0 o → Going codes r n i o (i + 1)
  shift-goes {a = a} T =
      let d : i + 1 ≡ suc i = omega arith in
      let b : n + 1 - suc i ≡ n - i = omega arith in
      let u = unread_next codes i T.next in
      record {
        move = token_shift;
        stack = push σ T.state (leaf (mk a 0));
        is = T.is ∙ rw (d, u.1) refl;
        holds = T.holds;
        tokens = omega arith;
        room = l;
        one = refl;
        tallied = rw (d, b) refl;
        within = omega (arith, u.0);
        low = omega arith;
      }

  pub reduce-goes : {r : List ℕ} (G : Table) → i ≤ length codes → Landed r n (unread codes i) (turn G (2048 - n) σ (unread codes i)) → Going codes r n i (turn G (2048 - n) σ (unread codes i)) i
  reduce-goes G m L =
      let b : suc (n - i) ≡ n + 1 - i = omega arith in
      record {
        move = reduction;
        stack = L.stack;
        is = L.is;
        holds = L.holds;
        tokens = omega (arith, (moved G (2048 - n) σ (unread codes i) L.is).tokens);
        room = l;
        one = refl;
        tallied = rw (← b) refl;
        within = m;
        low = omega arith;
      }

-- ---- the loop: what is left of the reading comes to what the whole comes to
pub record Running (t codes r₀ r : List ℕ) (n i : ℕ) : Type 0 where
  pub small : n ≤ 2048
  pub within : i ≤ length codes
  pub low : i ≤ n
  pub rest : drop states_end r ≡ drop states_end r₀
  pub stack : Stack
  pub holds : Holds r n stack
  pub tokens : shifted stack ≡ i
  pub moves : ℕ
  pub enough : 2048 < moves + n
  pub left : read (table_of t) moves (2048 - n) (counted n i) stack (unread codes i) ≡ reading (table_of t) 2048 (row (inserted codes))

pub begins : (t codes r : List ℕ) → Holds r 0 bot → Running t codes r r 0 0
begins t codes r h =
    record {
      small = omega arith;
      within = omega arith;
      low = omega arith;
      rest = refl;
      stack = bot;
      holds = h;
      tokens = refl;
      moves = suc (2048 + size (row (inserted codes)));
      enough = omega arith;
      left = refl;
    }

pub read-on : (G : Table) (m r : ℕ) (k : Counts) (σ : Stack) (f : Row) {v : Move} {σ' : Stack} {f' : Row} → turn G r σ f ≡ on v σ' f' → read G (suc m) r k σ f ≡ read G m (r - cost v) (tally v k) σ' f'
unfolding read
read-on G m r k σ f e = ap (after _ k) e

pub read_stop : (G : Table) (m r : ℕ) (k : Counts) (σ : Stack) (f : Row) {e : Reading.End} → turn G r σ f ≡ stop e → read G (suc m) r k σ f ≡ record { end = e; counts = k }
unfolding read
read_stop G m r k σ f e = ap (after _ k) e

module _ (t codes : List ℕ) {r₀ r : List ℕ} {n i : ℕ} (R : Running t codes r₀ r n i) where
  one_more : (m : ℕ) × (R.moves ≡ suc m)
  one_more = by R.moves R.enough
    where
      by : (m : ℕ) → 2048 < m + n → (k : ℕ) × (m ≡ suc k)
      by zero l = absurd (omega (arith, R.small))
      by (suc m) l = (m, refl)

  -- what the machine's turn did over what stands next, by the case that the code finds
  pub turned : (r' : List ℕ) {k : ℕ} {o o' : Result Code.Move Stuck} → Codes (T t) codes → k ≡ get_or codes i 0
      → ((σ : Stack) → Holds r n σ → (f : Row) → Stands f k 0 → Did r' n σ f k 0 (turn (table_of t) (2048 - n) σ f) o)
      → o ≡ o' → Did r' n R.stack (unread codes i) k 0 (turn (table_of t) (2048 - n) R.stack (unread codes i)) o'
  turned r' {k} K e d q =
      let f = unread codes i in
      subst (λ (o : Result Code.Move Stuck). Did r' n R.stack f k 0 (turn (table_of t) (2048 - n) R.stack f) o) q
      (d R.stack R.holds f (subst (λ (x : ℕ). Stands f x 0) (sym e) (stands (T t) codes i K)))

  pub goes : {r' : List ℕ} {i' : ℕ} → drop states_end r' ≡ drop states_end r → Going codes r' n i (turn (table_of t) (2048 - n) R.stack (unread codes i)) i' → Running t codes r₀ r' (n + 1) i'
  goes {r' = r'} {i' = i'} d g =
      let m = one_more.0 in
      let z = one_more.1 in
      let c : 2048 - n - cost g.move ≡ 2048 - (n + 1) = omega (arith, g.one) in
      let e = read-on (table_of t) m (2048 - n) (counted n i) R.stack (unread codes i) g.is in
      record {
        small = omega (arith, g.room);
        within = g.within;
        low = g.low;
        rest = d ∙ R.rest;
        stack = g.stack;
        holds = g.holds;
        tokens = g.tokens;
        moves = m;
        enough = omega (arith, R.enough);
        left = sym (rw (c, g.tallied) at e) ∙ (rw z at R.left);
      }

  pub ends : {x : Reading.End} → turn (table_of t) (2048 - n) R.stack (unread codes i) ≡ stop x → reading (table_of t) 2048 (row (inserted codes)) ≡ record { end = x; counts = counted n i }
  ends e = sym (rw one_more.1 at R.left) ∙ read_stop (table_of t) one_more.0 (2048 - n) (counted n i) R.stack (unread codes i) e
