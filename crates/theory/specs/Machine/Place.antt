-- The place of refusal 7 in the grammar's own words: the tokens before it begin some derived text, and with what stands there they
-- begin none.
use Rattle.std.proofs.Math.Path.{◌≡◌, refl, sym, ap}
use Rattle.std.proofs.Common.{◌∙◌, take-append-drop}
use mathlib.Core.List.{List, [], ◌∷◌, ◌++◌, append-nil}
use Rattle.std.proofs.Math.Option.{Option, none, some}
use Rattle.std.specs.Prelude.{ℕ, zero, suc, ◌+◌, ◌≤◌, ◌<◌, drop, take}
use native.Mathlib.Omega.{arith}
use Rattle.std.proofs.Math.Decide.{dec_lt}
use Rattle.std.proofs.Math.ListN.{length, length-append}
use Rattle.definitions.specs.Table.{Act, err, acc, sh, red, Table}
use Rattle.definitions.specs.Tree.{Tok, Row, ∅, size, look, row}
use Rattle.definitions.specs.Reading.{leaf, Stack, bot, push, top, Popped, under, popped, pop, refused, land, settle, plain}
use Rattle.theory.specs.Table.Lr.{Rules, Conditions}
use Rattle.theory.specs.Machine.Rows.{yield-row, look-append, Real}
use Rattle.theory.specs.Machine.Steps.{next, strip, step, run, Steps, here, more, run_enough, run_error}
use Rattle.theory.specs.Machine.Sound.{text, Failed, Fault, large, wrong, Fine, at_place, sound}
use Rattle.theory.specs.Machine.Answer.{Parse, parsed}
use Rattle.theory.specs.Machine.Begun.{kinds, kinds-append, reparse, Begun, begun}

-- ---- the machine sees one token ahead
module _ (G : Table) where
  -- the same step over another text behind u, with the same terminal next
  Along : Stack → List Tok → List Tok → List Tok → Stack → List Tok → Type 0
  Along σ u v v' τ z = (u' : List Tok) × (z ≡ u' ++ v) × (step G σ (u ++ v') ≡ next τ (u' ++ v')) × (length u' ≤ length u)

  along : (σ τ : Stack) (u v v' z : List Tok) → look 0 v ≡ look 0 v' → length v ≤ length z → step G σ (u ++ v) ≡ next τ z → Along σ u v v' τ z
  unfolding Along
  along σ τ u v v' z l h e = by (G.act (top σ) (look 0 (u ++ v))) u v h (ap (G.act (top σ)) (look-append 0 u v' ∙ ap (λ a. look a u) (sym l) ∙ sym (look-append 0 u v))) e
    where
      by : (a : Act) (u v : List Tok) → length v ≤ length z → G.act (top σ) (look 0 (u ++ v')) ≡ a → strip (plain G 1 a σ (row (u ++ v))) ≡ next τ z
          → Along σ u v v' τ z
      by err u v h a e = let n : ◌≡◌ {A = ℕ} 0 1 = cc in absurd (omega arith)
      by acc u v h a e = let n : ◌≡◌ {A = ℕ} 0 1 = cc in absurd (omega arith)
      by (sh s) [] [] h a e = let n : ◌≡◌ {A = ℕ} 0 1 = cc in absurd (omega arith)
      by (sh s) [] (x ∷ v) h a e = let n : v ≡ z = cc (yield-row v) in absurd (omega (arith, ap length n))
      by (sh s) (x ∷ u) v h a e =
          let n : push σ s (leaf x) ≡ τ = cc in
          (u, cc (yield-row (u ++ v)), ap (λ b. strip (plain G 1 b σ (row (x ∷ (u ++ v'))))) a ∙ rw (n, yield-row (u ++ v')) refl, omega arith)
      by (red p) u v h a e = of (pop (length (G.rhs p)) σ ∅) e (ap (λ b. strip (plain G 1 b σ (row (u ++ v')))) a)
        where
          of : (o : Popped) → strip (settle G p (row (u ++ v)) o) ≡ next τ z → step G σ (u ++ v') ≡ strip (settle G p (row (u ++ v')) o)
              → Along σ u v v' τ z
          of under e k = let n : ◌≡◌ {A = ℕ} 0 1 = cc in absurd (omega arith)
          of (popped c υ) e k = at (G.goto (top υ) (G.lhs p)) e k
            where
              at : (o : Option ℕ) → strip (land G p (row (u ++ v)) c υ o) ≡ next τ z → step G σ (u ++ v') ≡ strip (land G p (row (u ++ v')) c υ o)
                  → Along σ u v v' τ z
              at none e k = let n : ◌≡◌ {A = ℕ} 0 1 = cc in absurd (omega arith)
              at (some s) e k = (u, cc (yield-row (u ++ v)), cc (yield-row (u ++ v')), omega arith)

  shrinks : {n : ℕ} {σ τ : Stack} {z v : List Tok} → Steps G n σ z τ v → length v ≤ length z
  unfolding Along
  shrinks here = omega arith
  shrinks {σ = σ} {z = z} (more {σ₁ = σ₁} {w₁ = z₁} e f) =
      let k = along σ σ₁ z [] [] z₁ refl (omega arith) (rw append-nil e) in
      omega (arith, shrinks f, k.3, ap length (k.1 ∙ append-nil k.0))

  -- and so are chains of steps
  swap : {n : ℕ} {σ τ : Stack} {w v : List Tok} (u v' : List Tok) → Steps G n σ w τ v → w ≡ u ++ v → look 0 v ≡ look 0 v' → Steps G n σ (u ++ v') τ v'
  unfolding Along
  swap [] v' here e l = here
  swap {v = v} (x ∷ u) v' here e l = absurd (omega (arith, ap length e, length-append u v))
  swap {σ = σ} {v = v} u v' (more {σ₁ = σ₁} {w₁ = z} s f) e l =
      let k = along σ σ₁ u v v' z l (shrinks f) (rw e at s) in
      more k.2 (swap k.0 v' f k.1 l)

-- ---- the place
same_start : (i j : ℕ) (w g : List Tok) → i < j → j ≤ length w → (take i (take j w ++ g) ≡ take i w) × (look 0 (drop i (take j w ++ g)) ≡ look 0 (drop i w))
same_start i zero w g h l = absurd (omega arith)
same_start i (suc j) [] g h l = absurd (omega arith)
same_start zero (suc j) (x ∷ w) g h l = (refl, refl)
same_start (suc i) (suc j) (x ∷ w) g h l = let k = same_start i j w g (omega arith) (omega arith) in (ap (x ∷◌) k.0, k.1)

module _ (G : Table) where
  -- i is the place in w where no derived text goes on
  pub record Place (w : List Tok) (i : ℕ) : Type 0 where
    pub within : i ≤ length w
    -- its first i tokens begin a derived text
    pub before : Begun G (take i w)
    -- no derived text begins with their terminals and has the same terminal (or the end) next
    pub beyond : (v : List Tok) → kinds (take i v) ≡ kinds (take i w) → look 0 (drop i v) ≡ look 0 (drop i w) → (q : ℕ) (c : Row) → Parse G v q c → ⊥

  module _ (R : Rules G) (C : Conditions G) where
    failed_place : {w : List Tok} {i : ℕ} → Failed G bot w i → Place w i
    failed_place {w} {i} f = record { within = k.0; before = rw k.1 at (begun G R C f.stack f.good); beyond = λ v e l q c p. beyond v e l q c p }
      where
        k : (i ≤ length w) × (text f.stack [] ≡ take i w) × (f.rest ≡ drop i w)
        k = at_place G f

        beyond : (v : List Tok) → kinds (take i v) ≡ kinds (take i w) → look 0 (drop i v) ≡ look 0 (drop i w) → (q : ℕ) (c : Row) → Parse G v q c → ⊥
        beyond v e l q c p =
            let z : look 0 f.rest ≡ look 0 (drop i v) = ap (look 0) (at_place G f).2 ∙ sym l in
            let t = swap G (take i w) (drop i v) f.steps (rw (at_place G f).2 (sym (take-append-drop i w))) z in
            let k = reparse G (take i w ++ drop i v) (sym (kinds-append (take i v) (take i w) (drop i v) e) ∙ ap kinds (take-append-drop i v)) p in
            let n = suc (size k.0) in
            let u = run_enough G n t ∙ run_error G n f.stack (drop i v) (rw (← z) f.none-on) in
            let y : ◌≡◌ {A = ℕ} 0 1 = cc (parsed G R C (f.count + n) k.1 (omega arith)) in omega arith

    -- refusal 7 tells the place
    pub place : (r : ℕ) {i : ℕ} (w : List Tok) → Real w → run G r bot w ≡ refused 7 i → Place w i
    unfolding Fine
    place r w h e = by refl (rw e at (sound G R C r w h))
      where
        by : {n j : ℕ} → n ≡ 7 → Fault G bot w n j → Place w j
        by z large = absurd (omega arith)
        by z (wrong f) = failed_place f

  earlier : {w : List Tok} {i j : ℕ} → Place w i → Place w j → i < j → ⊥
  earlier {w} {i} {j} a b h =
      let p = b.before in
      a.beyond (take j w ++ p.after) (ap kinds (same_start i j w p.after h b.within).0) (same_start i j w p.after h b.within).1 p.prod p.kids p.parse

  -- there is one place at most
  pub one_place : {w : List Tok} {i j : ℕ} → Place w i → Place w j → i ≡ j
  one_place {w} {i} {j} a b = by (dec_lt i j) (dec_lt j i)
    where
      by : Dec (i < j) → Dec (j < i) → i ≡ j
      by (yes h) e = absurd (earlier a b h)
      by (no h) (yes l) = absurd (earlier b a l)
      by (no h) (no l) = omega arith
