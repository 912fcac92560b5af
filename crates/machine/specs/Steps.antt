-- The turn of a token or the end mark: what stands next, and what each outcome of the code says of the definitions' turn.
use Rattle.std.specs.Prelude.{◌≡◌, refl, Result, Ok, Err, List, ℕ, suc, ◌+◌, ◌-◌, ◌≤◌, ◌<◌, length}
use Rattle.std.proofs.Common.{◌∙◌, arith}
use Rattle.definitions.specs.Table.{Act, err, acc, sh, red, Table, table_of}
use Rattle.definitions.specs.Tree.{mk, Row, ∅, tok}
use Rattle.definitions.specs.Reading.{leaf, Stack, push, top, shifted, pop, taken, refused, token_shift, Turn, on, stop, settle, plain}
use Rattle.definitions.specs.Moves.{turn}
use Rattle.machine.specs.Room.{Holds}
use Rattle.machine.specs.Back.{stuck_of, Landed}
use Rattle.machine.specs.declared.Stuck.{Stuck}
use Rattle.machine.specs.declared.Move.{Move}
use Rattle.machine.specs.declared.Move.TheVariants.{Shifted, Reduced, Taken}

-- what stands next in f: a token with its terminal and its identity, or the end mark, whose terminal is 0
pub data Stands : Row → ℕ → ℕ → Type 0 where
  token : {k i : ℕ} {f : Row} → 0 < k → Stands (tok (mk k i) f) k i
  end : {i : ℕ} → Stands ∅ 0 i

-- the token (k, i) shifted off f over n nodes
pub record Took (r : List ℕ) (n : ℕ) (σ : Stack) (f : Row) (k i : ℕ) (o : Turn) : Type 0 where
  pub state : ℕ
  pub rest : Row
  pub next : f ≡ tok (mk k i) rest
  pub is : o ≡ on token_shift (push σ state (leaf (mk k i))) rest
  pub holds : Holds r (n + 1) (push σ state (leaf (mk k i)))

-- the turn o over n nodes, by the code's outcome
abbrev pub Did : List ℕ → ℕ → Stack → Row → ℕ → ℕ → Turn → Result Move Stuck → Type 0
Did r n σ f k i o (Ok Shifted) = Took r n σ f k i o × (n < 2048)
Did r n σ f k i o (Ok Reduced) = Landed r n f o × (n < 2048)
Did r n σ f k i o (Ok Taken) = (o ≡ stop (taken σ)) × Holds r n σ
Did r n σ f k i o (Err e) = o ≡ stop (stuck_of (shifted σ) e)

turn-plain : {f : Row} {k i : ℕ} (G : Table) (m : ℕ) (σ : Stack) → Stands f k i → turn G m σ f ≡ plain G m (G.act (top σ) k) σ f
turn-plain G m σ (token h) = refl
turn-plain G m σ end = refl

-- a shift on the end mark, and of a token
at_end : {f : Row} {k i : ℕ} (G : Table) (m s : ℕ) (σ : Stack) → Stands f k i → k ≡ 0 → plain G (suc m) (sh s) σ f ≡ stop (refused 10 0)
at_end G m s σ (token h) e = absurd (omega arith)
at_end G m s σ end e = refl

at_token : {f : Row} {k i : ℕ} (G : Table) (m s : ℕ) (σ : Stack) → Stands f k i → (k ≡ 0 → ⊥) → (g : Row) × (f ≡ tok (mk k i) g) × (plain G (suc m) (sh s) σ f ≡ on token_shift (push σ s (leaf (mk k i))) g)
at_token G m s σ (token {f = f} h) n = (f, refl, refl)
at_token G m s σ end n = absurd (n refl)

-- ---- the turn, by the action x that the code finds
module _ (G : Table) (n : ℕ) (σ : Stack) {f : Row} {k i : ℕ} (N : Stands f k i) {x : Act} (q : x ≡ G.act (top σ) k) where
  by_act : (m : ℕ) → turn G m σ f ≡ plain G m x σ f
  by_act m = turn-plain G m σ N ∙ rw (← q) refl

  pub no_action : x ≡ err → (m : ℕ) → turn G m σ f ≡ stop (refused 7 (shifted σ))
  no_action z m = by_act m ∙ rw z refl

  pub accepts : x ≡ acc → (m : ℕ) → turn G m σ f ≡ stop (taken σ)
  accepts z m = by_act m ∙ rw z refl

  pub full_shift : {s : ℕ} → x ≡ sh s → 2048 ≤ n → turn G (2048 - n) σ f ≡ stop (refused 8 0)
  full_shift z l = let e : 2048 - n ≡ 0 = omega arith in by_act (2048 - n) ∙ rw (z, e) refl

  pub full_reduce : {p : ℕ} → x ≡ red p → 2048 ≤ n → turn G (2048 - n) σ f ≡ stop (refused 8 0)
  full_reduce z l = let e : 2048 - n ≡ 0 = omega arith in by_act (2048 - n) ∙ rw (z, e) refl

  pub end_shift : {s : ℕ} → x ≡ sh s → n < 2048 → k ≡ 0 → turn G (2048 - n) σ f ≡ stop (refused 10 0)
  end_shift {s} z l m = let e : 2048 - n ≡ suc (2047 - n) = omega arith in by_act (2048 - n) ∙ rw (z, e) (at_end G (2047 - n) s σ N m)

  pub takes : {r : List ℕ} {s : ℕ} → x ≡ sh s → n < 2048 → (k ≡ 0 → ⊥) → Holds r (n + 1) (push σ s (leaf (mk k i))) → Took r n σ f k i (turn G (2048 - n) σ f)
  takes {s = s} z l m h =
      let e : 2048 - n ≡ suc (2047 - n) = omega arith in
      let a = at_token G (2047 - n) s σ N m in
      record { state = s; rest = a.0; next = a.1; is = by_act (2048 - n) ∙ rw (z, e) a.2; holds = h }

  pub reduces : {p : ℕ} → x ≡ red p → n < 2048 → turn G (2048 - n) σ f ≡ settle G p f (pop (length (G.rhs p)) σ ∅)
  reduces z l = let e : 2048 - n ≡ suc (2047 - n) = omega arith in by_act (2048 - n) ∙ rw (z, e) refl

  pub lands : {r : List ℕ} {p : ℕ} → x ≡ red p → n < 2048 → Landed r n f (settle G p f (pop (length (G.rhs p)) σ ∅)) → Landed r n f (turn G (2048 - n) σ f)
  lands z l L = record { stack = L.stack; is = reduces z l ∙ L.is; holds = L.holds }

-- what the action x, which is no reduction, comes to on the terminal k, of identity i, over the rows r and, after it, r'
abbrev pub Takes : List ℕ → List ℕ → ℕ → Act → ℕ → ℕ → Result Move Stuck → Type 0
Takes r r' n x k i o =
    (t : List ℕ) (σ : Stack) (f : Row) → Holds r n σ → Stands f k i → x ≡ (table_of t).act (top σ) k → ((p : ℕ) → x ≡ red p → ⊥) → Did r' n σ f k i (turn (table_of t) (2048 - n) σ f) o
