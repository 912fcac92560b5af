-- What the machine accepts is a derivation of the text, no reduction fails (refusal 10 never arises), and refusal 7 says how many
-- tokens stand on the stack.
use Rattle.std.proofs.Math.Path.{◌≡◌, refl, ap}
use Rattle.std.proofs.Common.{sym, ◌∙◌, length-append, take_at, drop_at}
use mathlib.Core.List.{List, [], ◌∷◌, ◌++◌, append_assoc, append-nil}
use Rattle.std.proofs.Math.Option.{some}
use Prim.Native.Nat.{ℕ, zero, suc, ◌+◌, ◌≤◌, ◌<◌}
use native.Mathlib.Omega.{arith}
use Rattle.std.specs.Prelude.{length, drop, take}
use Rattle.std.proofs.Math.Seq.{drop-length}
use Rattle.definitions.specs.Table.{Sym, tm, nt, Act, err, acc, sh, red, Table, trans, shift_of}
use Rattle.definitions.specs.Tree.{Tok, kind, Row, ∅, tok, nod, yield, look, Prod, Der, d∅, dtok, dnod, row}
use Rattle.definitions.specs.Reading.{leaf, node, Stack, bot, push, top, shifted, popped, pop, End, taken, refused, plain}
use Rattle.theory.specs.Table.Lr.{Chain, origin, kernel, link, Rules, Conditions}
use Rattle.theory.specs.Machine.Rows.{yield-row, toks-length, Real, real_end}
use Rattle.theory.specs.Machine.Steps.{Out, next, halt, strip, go, step_at, step, run, Steps, here, more, any_room}

-- the tokens of the stack, and then w
abbrev pub text : Stack → List Tok → List Tok
text bot w = w
text (push σ s (leaf x)) w = text σ (x ∷ w)
text (push σ s (node p c)) w = text σ (yield c ++ w)

pub text-append : (σ : Stack) (a b : List Tok) → text σ (a ++ b) ≡ text σ a ++ b
text-append bot a b = refl
text-append (push σ s (leaf x)) a b = text-append σ (x ∷ a) b
text-append (push σ s (node p c)) a b = rw (← append_assoc (yield c) a b) (text-append σ (yield c ++ a) b)

-- "the count of tokens shifted"
pub text-shifted : (σ : Stack) → shifted σ ≡ length (text σ [])
text-shifted σ = omega (arith, by σ [])
  where
    by : (σ : Stack) (w : List Tok) → length (text σ w) ≡ shifted σ + length w
    by bot w = omega arith
    by (push σ s (leaf x)) w = omega (arith, by σ (x ∷ w))
    by (push σ s (node p c)) w = omega (arith, by σ (yield c ++ w), length-append (yield c) w, toks-length c)

module _ (G : Table) where
  pub data Good : Stack → Type 0 where
    gbot : Good bot
    gleaf : {σ : Stack} {x : Tok} {s : ℕ} → Good σ → trans G (top σ) (tm (kind x)) ≡ some s → Good (push σ s (leaf x))
    gnode : {σ : Stack} {p s : ℕ} {c : Row} → Good σ → trans G (top σ) (nt (G.lhs p)) ≡ some s → Prod G p → Der G c (G.rhs p) → Good (push σ s (node p c))

  pub record Based (p d : ℕ) (σ : Stack) (f : Row) : Type 0 where
    pub row : Row
    pub base : Stack
    pub is : pop d σ f ≡ popped row base
    pub good : Good base
    pub ahead : ℕ
    pub item : G.Item (top base) p 0 ahead
    pub der : Der G row (G.rhs p)
    pub same : (w : List Tok) → text base (yield row ++ w) ≡ text σ (yield f ++ w)

  -- the stack is one tree, a derivation of the start with the text u
  pub record Whole (σ : Stack) (u : List Tok) : Type 0 where
    pub prod : ℕ
    pub kids : Row
    pub state : ℕ
    pub is_stack : σ ≡ push bot state (node prod kids)
    pub is_prod : Prod G prod
    pub is_start : G.lhs prod ≡ G.start
    pub derives : Der G kids (G.rhs prod)
    pub is_text : yield kids ≡ u

  -- from σ with w ahead the machine comes to a stack with i tokens where the next token has no move
  pub record Failed (σ : Stack) (w : List Tok) (i : ℕ) : Type 0 where
    pub count : ℕ
    pub stack : Stack
    pub rest : List Tok
    pub steps : Steps G count σ w stack rest
    pub good : Good stack
    pub none-on : G.act (top stack) (look 0 rest) ≡ err
    pub place : shifted stack ≡ i
    pub same : text stack rest ≡ text σ w

  -- the refusals that there are
  pub data Fault (σ : Stack) (w : List Tok) : ℕ → ℕ → Type 0 where
    large : Fault σ w 8 0
    wrong : {i : ℕ} → Failed σ w i → Fault σ w 7 i

  unfoldable pub Fine : Stack → List Tok → End → Type 0
  Fine σ w (taken τ) = Whole τ (text σ w)
  Fine σ w (refused n i) = Fault σ w n i

  Ok : Stack → List Tok → Out → Type 0
  Ok σ w (next τ v) = Good τ × Real v × (text τ v ≡ text σ w)
  Ok σ w (halt e) = Fine σ w e

  -- the place: the stack holds the first i tokens
  pub at_place : {w : List Tok} {i : ℕ} (f : Failed bot w i) → (i ≤ length w) × (text f.stack [] ≡ take i w) × (f.rest ≡ drop i w)
  at_place {w} {i} f =
      let e : text f.stack [] ++ f.rest ≡ w = sym (text-append f.stack [] f.rest) ∙ f.same in
      let l : length (text f.stack []) ≡ i = sym (text-shifted f.stack) ∙ f.place in (
        omega (arith, length-append (text f.stack []) f.rest, ap length e, l),
        sym (take_at (text f.stack []) f.rest i l) ∙ ap (take i) e,
        sym (drop_at (text f.stack []) f.rest i l) ∙ ap (drop i) e,
      )

  module _ (R : Rules G) (C : Conditions G) where
    pub based : {p : ℕ} (d : ℕ) {a : ℕ} (σ : Stack) (f : Row) → Good σ → G.Item (top σ) p d a → Der G f (drop d (G.rhs p)) → Based p d σ f
    based zero σ f g i D = record { row = f; base = σ; is = refl; good = g; ahead = _; item = i; der = D; same = λ w. refl }
    based (suc d) bot f g i D = absurd (C.c1_dot i)
    based (suc d) (push σ s (leaf x)) f (gleaf g e) i D =
        let k = C.c6 (top σ) (tm (kind x)) i e in
        let r = based d σ (tok x f) g k.1.1 (rw k.0.is (dtok D)) in
        record { row = r.row; base = r.base; is = r.is; good = r.good; ahead = r.ahead; item = r.item; der = r.der; same = λ w. r.same w }
    based (suc d) (push σ s (node q c)) f (gnode g e P Dc) i D =
        let k = C.c6 (top σ) (nt (G.lhs q)) i e in
        let r = based d σ (nod q c f) g k.1.1 (rw k.0.is (dnod P Dc D)) in
        record { row = r.row; base = r.base; is = r.is; good = r.good; ahead = r.ahead; item = r.item; der = r.der; same = λ w. rw (← append_assoc (yield c) (yield f) w) (r.same w) }

    chained : {s p d : ℕ} → Chain G s p d → (a : ℕ) × G.Item s p d a
    chained (origin i) = (_, i)
    chained (kernel i) = (_, i)
    chained (link c h i) = (_, i)

    -- where (p,0) stands, so does a transition on the left side of p
    leads : {s p a : ℕ} → G.Item s p 0 a → 0 < p → (t : ℕ) × (G.goto s (G.lhs p) ≡ some t)
    leads i h = from (C.c7 i h) h
      where
        from : {s p : ℕ} → Chain G s p 0 → 0 < p → (t : ℕ) × (G.goto s (G.lhs p) ≡ some t)
        from (origin i) h = absurd (omega arith)
        from (link c a i) h = let r = C.c3 (chained c).1 a in (r.0, r.1)

    -- nothing leads to state 0
    not_zero : (s : ℕ) (X : Sym) → trans G s X ≡ some 0 → ⊥
    not_zero s X e =
        let k = C.c5_trans s X e in
        let m = C.c3 k.4 k.5 in
        let z : m.0 ≡ 0 = cc m.1 in
        C.c1_dot (rw z at m.2)

    pub at_bottom : {σ : Stack} → Good σ → top σ ≡ 0 → σ ≡ bot
    at_bottom gbot e = refl
    at_bottom (gleaf {σ = σ} {x = x} g t) e = absurd (not_zero (top σ) (tm (kind x)) (rw e at t))
    at_bottom (gnode {σ = σ} {p = p} g t P D) e = absurd (not_zero (top σ) (nt (G.lhs p)) (rw e at t))

    whole : {σ : Stack} → Good σ → G.Item (top σ) 0 1 0 → Whole σ (text σ [])
    whole gbot i = absurd (C.c1_dot i)
    whole (gleaf {σ = σ} {x = x} g e) i =
        let k = C.c6 (top σ) (tm (kind x)) i e in
        let z : ◌≡◌ {A = ℕ} 0 1 = cc (k.0.is, R.rhs0) in absurd (omega arith)
    whole (gnode {σ = σ} {p = p} {s = s} {c = c} g e P D) i =
        let k = C.c6 (top σ) (nt (G.lhs p)) i e in
        let z : σ ≡ bot = at_bottom g (C.c1_only k.1.1) in
        record { prod = p; kids = c; state = s; is_stack = rw z refl; is_prod = P; is_start = cc (k.0.is, R.rhs0); derives = D; is_text = rw (z, append-nil) refl }

    reduce_ok : {p : ℕ} (r : ℕ) (σ : Stack) (w : List Tok) → Good σ → Real w → G.act (top σ) (look 0 w) ≡ red p → Ok σ w (strip (plain G r (red p) σ (row w)))
    unfolding Ok Fine
    reduce_ok zero σ w g h e = large
    reduce_ok {p} (suc r) σ w g h e =
        let i = C.c5_red e in
        let l : 0 < p = pos p refl e i in
        let b = based (length (G.rhs p)) σ ∅ g i (rw drop-length d∅) in
        let t = leads b.item l in
        rw (b.is, t.1, yield-row) (gnode b.good t.1 (record { above = l; below = R.exist i }) b.der, h, b.same w)
      where
        pos : (n : ℕ) → p ≡ n → G.act (top σ) (look 0 w) ≡ red p → G.Item (top σ) p (length (G.rhs p)) (look 0 w) → 0 < p
        pos zero q e i =
            let i' : G.Item (top σ) 0 1 (look 0 w) = rw (q, R.rhs0) at i in
            let z : ◌≡◌ {A = ℕ} 0 1 = cc (C.c4_acc i') in absurd (omega arith)
        pos (suc n) q e i = omega arith

    step_ok : (r : ℕ) (σ : Stack) (w : List Tok) → Good σ → Real w → Ok σ w (step_at G r σ w)
    unfolding Ok Fine
    step_ok r σ w g h = by r (G.act (top σ) (look 0 w)) w h refl
      where
        by : (r : ℕ) (a : Act) (w : List Tok) → Real w → G.act (top σ) (look 0 w) ≡ a → Ok σ w (strip (plain G r a σ (row w)))
        by r err w h e = wrong (record { count = 0; stack = σ; rest = w; steps = here; good = g; none-on = e; place = refl; same = refl })
        by r acc w h e =
            let k = C.c5_acc e in
            let z : w ≡ [] = real_end w h k.0 in rw z (whole g k.1)
        by zero (sh s) w h e = large
        by (suc r) (sh s) [] h e =
            let t : trans G (top σ) (tm 0) ≡ some s = rw e refl in
            let k = C.c5_trans (top σ) (tm 0) t in absurd (R.no_end k.5)
        by (suc r) (sh s) (x ∷ w) h e = (gleaf {s = s} g (ap shift_of e), rw (yield-row w) h.1, ap (λ v. text σ (x ∷ v)) (yield-row w))
        by r (red p) w h e = reduce_ok r σ w g h e

    -- what holds after a step holds before it
    before : (σ τ : Stack) (w v : List Tok) (e : End) → step G σ w ≡ next τ v → text τ v ≡ text σ w → Fine τ v e → Fine σ w e
    unfolding Fine
    before σ τ w v (taken υ) s t f = rw t at f
    before σ τ w v (refused n i) s t large = large
    before σ τ w v (refused n i) s t (wrong f) =
        wrong (record { count = suc f.count; stack = f.stack; rest = f.rest; steps = more s f.steps; good = f.good; none-on = f.none-on; place = f.place; same = f.same ∙ t })

    run_ok : (n : ℕ) (σ : Stack) (w : List Tok) → Good σ → Real w → Fine σ w (run G n σ w)
    unfolding run Ok Fine
    run_ok zero σ w g h = by (step_at G zero σ w) (step_ok zero σ w g h)
      where
        by : (o : Out) → Ok σ w o → Fine σ w (go (λ _ _. refused 8 0) o)
        by (next τ v) k = large
        by (halt e) k = k
    run_ok (suc n) σ w g h = by (λ τ v g' h'. run_ok n τ v g' h') (step_at G (suc n) σ w) refl (step_ok (suc n) σ w g h)
      where
        by : ((τ : Stack) (v : List Tok) → Good τ → Real v → Fine τ v (run G n τ v)) → (o : Out) → step_at G (suc n) σ w ≡ o → Ok σ w o → Fine σ w (go (λ τ v. run G n τ v) o)
        by ih (next τ v) e k = before σ τ w v (run G n τ v) (sym (ap strip (any_room G n (G.act (top σ) (look 0 w)) σ (row w))) ∙ e) k.2 (ih τ v k.0 k.1)
        by ih (halt e) z k = k

    pub sound : (n : ℕ) (w : List Tok) → Real w → Fine bot w (run G n bot w)
    sound n w h = run_ok n bot w gbot h

    -- no reduction pops below the bottom or finds no goto
    pub never_ten : (n : ℕ) (w : List Tok) {i : ℕ} → Real w → run G n bot w ≡ refused 10 i → ⊥
    unfolding Fine
    never_ten n w {i} h e = by (rw e at (sound n w h)) refl
      where
        by : {m j : ℕ} → Fault bot w m j → m ≡ 10 → ⊥
        by large z = omega arith
        by (wrong f) z = omega arith
