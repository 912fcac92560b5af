-- The moves of a sheet's table: what an action or a goto says of its word or byte, and what a transition says of its target.
use Rattle.std.specs.Prelude.{◌≡◌, Bool, ◌&&◌, List, ◌⊎◌, ℕ, ◌+◌, ◌-◌, ◌≤◌, ◌<◌, leb}
use Rattle.std.proofs.Math.Path.{refl}
use Rattle.std.proofs.Common.{sym, ap, ◌∙◌, subst, inl, inr, arith}
use Rattle.std.proofs.Math.Bool.{true, false, cond}
use Rattle.std.proofs.Math.Option.{none, some}
use Rattle.std.proofs.Math.Decide.{ℕ_discrete, dec_lt, dec_le}
use Rattle.std.proofs.Math.Dec.{ltb}
use borrow.Author.Tests.{lt-ltb, le-ltb, le-leb, lt-leb, ne_eqb}
use Rattle.definitions.specs.Sheet.{T, N, P, S, action, IsAction, IsGoto, IsSymbol, Layout}
use Rattle.definitions.specs.Sheet as Sheet
use Rattle.definitions.specs.States.{Symbol, target, Goes}
use Rattle.definitions.specs.Table.{Sym, tm, nt, sym_of, Act, err, acc, sh, red, act_of, goto_of, table_of, shift_of, trans}
use Rattle.theory.specs.Table.Sides.{sym_tm, sym_nonterminal}

-- ---- action words and goto bytes by their numbers
pub word-accept : act_of 1 ≡ acc
word-accept = refl

pub word-reduce : (p : ℕ) → act_of (512 + p) ≡ red p
word-reduce p = rw (ne_eqb (512 + p) 1 (λ e. omega arith), le-leb 512 (512 + p) (omega arith)) (ap red (omega arith))

pub word-shift : (s : ℕ) → s < 256 → act_of (256 + s) ≡ sh s
word-shift s h =
    rw (ne_eqb (256 + s) 1 (λ e. omega arith), lt-leb 512 (256 + s) (omega arith), le-leb 256 (256 + s) (omega arith)) (ap sh (omega arith))

-- what a word is, by the action that it says
abbrev pub Says : ℕ → Act → Type 0
Says w err = Unit {0}
Says w acc = w ≡ 1
Says w (sh s) = (w ≡ 256 + s) × (s < 256)
Says w (red p) = w ≡ 512 + p

pub says : (w : ℕ) → Says w (act_of w)
says w = by (ℕ_discrete w 1) (dec_le 512 w) (dec_le 256 w)
  where
    by : Dec (w ≡ 1) → Dec (512 ≤ w) → Dec (256 ≤ w) → Says w (act_of w)
    by (yes e) b c = subst (λ (x : ℕ). Says x (act_of x)) (sym e) refl
    by (no n) (yes h) c = rw (ne_eqb w 1 n, le-leb 512 w h) (omega arith)
    by (no n) (no h) (yes k) = rw (ne_eqb w 1 n, lt-leb 512 w (omega arith), le-leb 256 w k) (omega arith, omega arith)
    by (no n) (no h) (no k) = rw (ne_eqb w 1 n, lt-leb 512 w (omega arith), lt-leb 256 w (omega arith)) tt

pub goto-some : (g : ℕ) → (g ≡ 255 → ⊥) → goto_of g ≡ some g
goto-some g n = rw (ne_eqb g 255 n)

pub some-goto : (g u : ℕ) → goto_of g ≡ some u → (g ≡ u) × (g ≡ 255 → ⊥)
some-goto g u e = by (ℕ_discrete g 255)
  where
    by : Dec (g ≡ 255) → (g ≡ u) × (g ≡ 255 → ⊥)
    by (yes h) = let r : goto_of g ≡ none = rw h refl in let z : ◌≡◌ {A = ℕ} 0 1 = cc in absurd (omega arith)
    by (no n) = let r = goto-some g n in let z : g ≡ u = cc in (z, n)

module _ (t : List ℕ) where
  -- ---- actions
  pub act_is_lem : (s a : ℕ) → s < S t → a < T t → (table_of t).act s a ≡ act_of (action t s a)
  unfolding table_of
  act_is_lem s a h k = rw (lt-ltb s (S t) h, lt-ltb a (T t) k)

  act_out : (s a : ℕ) → (S t ≤ s) ⊎ (T t ≤ a) → (table_of t).act s a ≡ err
  unfolding table_of
  act_out s a (inl h) = rw (le-ltb s (S t) h)
  act_out s a (inr h) = by (ltb s (S t))
    where
      by : (b : Bool) → cond (b && ltb a (T t)) (act_of (action t s a)) err ≡ err
      by true = rw (le-ltb a (T t) h)
      by false = refl

  pub act_in : (s a : ℕ) {x : Act} → (table_of t).act s a ≡ x → (x ≡ err → ⊥) → (s < S t) × (a < T t) × Says (action t s a) x
  act_in s a {x} e n = by (dec_lt s (S t)) (dec_lt a (T t))
    where
      by : Dec (s < S t) → Dec (a < T t) → (s < S t) × (a < T t) × Says (action t s a) x
      by (yes h) (yes k) = (h, k, subst (λ (y : Act). Says (action t s a) y) (sym (act_is_lem s a h k) ∙ e) (says (action t s a)))
      by (yes h) (no k) = absurd (n (sym e ∙ act_out s a (inr (omega arith))))
      by (no h) k = absurd (n (sym e ∙ act_out s a (inl (omega arith))))

  pub act_red : {s a p : ℕ} → (table_of t).act s a ≡ red p → (s < S t) × (a < T t) × (action t s a ≡ 512 + p)
  act_red {s} {a} e = act_in s a e (λ k. let z : ◌≡◌ {A = ℕ} 0 1 = cc in omega arith)

  pub act_acc : {s a : ℕ} → (table_of t).act s a ≡ acc → (s < S t) × (a < T t) × (action t s a ≡ 1)
  act_acc {s} {a} e = act_in s a e (λ k. let z : ◌≡◌ {A = ℕ} 0 1 = cc in omega arith)

  pub act_sh : {s a u : ℕ} → (table_of t).act s a ≡ sh u → (s < S t) × (a < T t) × ((action t s a ≡ 256 + u) × (u < 256))
  act_sh {s} {a} e = act_in s a e (λ k. let z : ◌≡◌ {A = ℕ} 0 1 = cc in omega arith)

  pub red_act : (s a p : ℕ) → s < S t → a < T t → action t s a ≡ 512 + p → (table_of t).act s a ≡ red p
  red_act s a p h k e = act_is_lem s a h k ∙ ap act_of e ∙ word-reduce p

  pub acc_act : (s a : ℕ) → s < S t → a < T t → action t s a ≡ 1 → (table_of t).act s a ≡ acc
  acc_act s a h k e = act_is_lem s a h k ∙ ap act_of e

  pub sh_act : (s a u : ℕ) → s < S t → a < T t → action t s a ≡ 256 + u → u < 256 → (table_of t).act s a ≡ sh u
  sh_act s a u h k e l = act_is_lem s a h k ∙ ap act_of e ∙ word-shift u l

  -- ---- gotos
  pub goto_is_lem : (s n : ℕ) → s < S t → n < N t → (table_of t).goto s n ≡ goto_of (Sheet.goto t s n)
  unfolding table_of
  goto_is_lem s n h k = rw (lt-ltb s (S t) h, lt-ltb n (N t) k)

  goto_out : (s n : ℕ) → (S t ≤ s) ⊎ (N t ≤ n) → (table_of t).goto s n ≡ none
  unfolding table_of
  goto_out s n (inl h) = rw (le-ltb s (S t) h)
  goto_out s n (inr h) = by (ltb s (S t))
    where
      by : (b : Bool) → cond (b && ltb n (N t)) (goto_of (Sheet.goto t s n)) none ≡ none
      by true = rw (le-ltb n (N t) h)
      by false = refl

  pub goto_in : {s n u : ℕ} → (table_of t).goto s n ≡ some u → (s < S t) × (n < N t) × ((Sheet.goto t s n ≡ u) × (u ≡ 255 → ⊥))
  goto_in {s} {n} {u} e = by (dec_lt s (S t)) (dec_lt n (N t))
    where
      by : Dec (s < S t) → Dec (n < N t) → (s < S t) × (n < N t) × ((Sheet.goto t s n ≡ u) × (u ≡ 255 → ⊥))
      by (yes h) (yes k) =
          let r = some-goto (Sheet.goto t s n) u (sym (goto_is_lem s n h k) ∙ e) in
          (h, k, (r.0, λ z. r.1 (r.0 ∙ z)))
      by (yes h) (no k) = let r = goto_out s n (inr (omega arith)) in let z : ◌≡◌ {A = ℕ} 0 1 = cc in absurd (omega arith)
      by (no h) k = let r = goto_out s n (inl (omega arith)) in let z : ◌≡◌ {A = ℕ} 0 1 = cc in absurd (omega arith)

  pub goto_of_lem : (s n u : ℕ) → s < S t → n < N t → Sheet.goto t s n ≡ u → (u ≡ 255 → ⊥) → (table_of t).goto s n ≡ some u
  goto_of_lem s n u h k e l = goto_is_lem s n h k ∙ goto-some (Sheet.goto t s n) (λ z. l (sym e ∙ z)) ∙ ap some e

  -- ---- transitions
  pub symbol_is : (x : ℕ) → IsSymbol t x → Symbol t x
  symbol_is x (inl h) = inl h
  symbol_is x (inr h) = inr (x - 128, omega arith, omega arith)

  pub target_tm : (s a : ℕ) → a < 128 → target t s a ≡ cond (leb 256 (action t s a) && ltb (action t s a) 512) (action t s a - 256) 255
  target_tm s a h = rw (lt-ltb a 128 h)

  pub target_nt : (s n : ℕ) → target t s (128 + n) ≡ Sheet.goto t s n
  target_nt s n = let z : 128 + n - 128 ≡ n = omega arith in rw (le-ltb (128 + n) 128 (omega arith), z)

  -- a shift's target, and a word that gives none
  pub target-shift : (s a u : ℕ) → a < 128 → action t s a ≡ 256 + u → u < 256 → target t s a ≡ u
  target-shift s a u h e l =
      let z : 256 + u - 256 ≡ u = omega arith in
      target_tm s a h ∙ rw (e, le-leb 256 (256 + u) (omega arith), lt-ltb (256 + u) 512 (omega arith)) z

  pub shift-target : (s a : ℕ) → a < 128 → Goes t s a → (action t s a ≡ 256 + target t s a) × (target t s a < 256)
  shift-target s a h n = by (dec_le 256 (action t s a)) (dec_lt (action t s a) 512)
    where
      by : Dec (256 ≤ action t s a) → Dec (action t s a < 512) → (action t s a ≡ 256 + target t s a) × (target t s a < 256)
      by (yes k) (yes l) = let r = target-shift s a (action t s a - 256) h (omega arith) (omega arith) in (omega arith, omega arith)
      by (yes k) (no l) = absurd (n (target_tm s a h ∙ rw (le-leb 256 (action t s a) k, le-ltb (action t s a) 512 (omega arith))))
      by (no k) l = absurd (n (target_tm s a h ∙ rw (lt-leb 256 (action t s a) (omega arith))))

  -- s has a transition on X to u, in the sheet's numbers
  pub record Moves (s u : ℕ) (X : Sym) : Type 0 where
    pub state : s < S t
    pub number : ℕ
    pub symbol : Symbol t number
    pub name : sym_of number ≡ X
    pub goes : Goes t s number
    pub leads : target t s number ≡ u
    pub next : u < S t

  module _ (l : Layout t) where
    pub shift_in : {s a u : ℕ} → s < S t → a < T t → action t s a ≡ 256 + u → u < 256 → u < S t
    shift_in {s} {a} {u} h k e b = by (l.actions s h a k)
      where
        by : IsAction t (action t s a) → u < S t
        by (inl (inl c)) = absurd (omega arith)
        by (inl (inr c)) = omega arith
        by (inr c) = absurd (omega arith)

    -- what a move names exists
    pub sh_next : (s a u : ℕ) → (table_of t).act s a ≡ sh u → u < S t
    sh_next s a u e = let r = act_sh e in shift_in r.0 r.1 r.2.0 r.2.1

    pub red_prod : (s a p : ℕ) → (table_of t).act s a ≡ red p → p < P t
    red_prod s a p e = by (l.actions s r.0 a r.1)
      where
        r : (s < S t) × (a < T t) × (action t s a ≡ 512 + p)
        r = act_red e

        by : IsAction t (action t s a) → p < P t
        by (inl (inl c)) = absurd (omega (arith, r.2))
        by (inl (inr c)) = absurd (omega (arith, r.2, l.head.states.1))
        by (inr c) = omega (arith, r.2)

    pub goto_next : (s n u : ℕ) → (table_of t).goto s n ≡ some u → u < S t
    goto_next s n u e = by (l.gotos s r.0 n r.1)
      where
        r : (s < S t) × (n < N t) × ((Sheet.goto t s n ≡ u) × (u ≡ 255 → ⊥))
        r = goto_in e

        by : IsGoto t (Sheet.goto t s n) → u < S t
        by (inl b) = omega (arith, r.2.0)
        by (inr b) = absurd (r.2.1 (sym r.2.0 ∙ b))

    pub target_in : (s x : ℕ) → s < S t → Symbol t x → Goes t s x → target t s x < S t
    target_in s x h (inl k) n =
        let r = shift-target s x (omega (arith, l.head.terminals.1)) n in shift_in h k r.0 r.1
    target_in s x h (inr k) n = by (l.gotos s h k.0 k.1)
      where
        same : target t s x ≡ Sheet.goto t s k.0
        same = ap (λ (y : ℕ). target t s y) k.2 ∙ target_nt s k.0

        by : IsGoto t (Sheet.goto t s k.0) → target t s x < S t
        by (inl b) = omega (arith, same)
        by (inr b) = absurd (n (same ∙ b))

    -- a transition of the table is one of the sheet
    move : (s x u : ℕ) {X : Sym} → s < S t → Symbol t x → sym_of x ≡ X → target t s x ≡ u → (u ≡ 255 → ⊥) → Moves s u X
    move s x u h y e r n =
        let g : Goes t s x = λ z. n (sym r ∙ z) in
        record { state = h; number = x; symbol = y; name = e; goes = g; leads = r; next = rw r at (target_in s x h y g) }

    pub trans-target : (s : ℕ) (X : Sym) {u : ℕ} → trans (table_of t) s X ≡ some u → Moves s u X
    trans-target s (tm a) {u} e = by ((table_of t).act s a) refl e
      where
        by : (x : Act) → (table_of t).act s a ≡ x → shift_of x ≡ some u → Moves s u (tm a)
        by err q e = let z : ◌≡◌ {A = ℕ} 0 1 = cc in absurd (omega arith)
        by acc q e = let z : ◌≡◌ {A = ℕ} 0 1 = cc in absurd (omega arith)
        by (sh v) q e =
            let z : v ≡ u = cc in
            let r = act_sh q in
            let b : a < 128 = omega (arith, l.head.terminals.1) in
            let c : u < S t = rw z at (shift_in r.0 r.1 r.2.0 r.2.1) in
            move s a u r.0 (inl r.1) (sym_tm a b) (target-shift s a v b r.2.0 r.2.1 ∙ z) (λ y. omega (arith, l.head.states.1))
        by (red p) q e = let z : ◌≡◌ {A = ℕ} 0 1 = cc in absurd (omega arith)
    trans-target s (nt B) {u} e =
        let r = goto_in e in
        move s (128 + B) u r.0 (inr (B, r.1, refl)) (sym_nonterminal B) (target_nt s B ∙ r.2.0) r.2.1

    -- and each of the sheet's is one of the table
    pub target-trans : (s x : ℕ) → s < S t → Symbol t x → Goes t s x → trans (table_of t) s (sym_of x) ≡ some (target t s x)
    target-trans s x h (inl k) n =
        let b : x < 128 = omega (arith, l.head.terminals.1) in
        let r = shift-target s x b n in
        ap (λ (Y : Sym). trans (table_of t) s Y) (sym_tm x b) ∙ ap shift_of (sh_act s x (target t s x) h k r.0 r.1)
    target-trans s x h (inr k) n =
        ap (λ (Y : Sym). trans (table_of t) s Y) (ap sym_of k.2 ∙ sym_nonterminal k.0)
        ∙ goto_of_lem s k.0 (target t s x) h k.1 (sym (target_nt s k.0) ∙ ap (λ (y : ℕ). target t s y) (sym k.2)) n
