-- Every accepted sheet's table keeps the rules and meets the conditions that the theorems use.
use Rattle.std.specs.Prelude.{◌≡◌, refl, List, [], ◌∷◌, length, drop}
use Rattle.std.proofs.Common.{sym, ap, ◌∙◌, inl, inr, div-one, add-one, pow_mono}
use Rattle.std.proofs.Math.Option.{some}
use Prim.Native.Nat.{ℕ, zero, suc, ◌+◌, ◌-◌, ◌/◌, ◌%◌, ◌^◌, ◌≤◌, ◌<◌}
use Rattle.std.proofs.Math.Nat.{div-eq_of_lt, div-div-eq-div-mul, pow-succ', two-pow-succ}
use native.Mathlib.Omega.{arith}
use Rattle.std.proofs.Math.Decide.{ℕ_discrete, dec_lt}
use Rattle.definitions.specs.Sheet.{T, P, S, left, len, symbol, action, prod, dot, ahead, Layout}
use Rattle.definitions.specs.Grammar.{GrammarRules, InFirst}
use Rattle.definitions.specs.States.{Holds, HasItem, In, target, Condition2, Condition3, Condition4, Condition6, Condition7, Led, begin, next, StateConditions, Accepted}
use Rattle.definitions.specs.Table.{Sym, nt, sym_of, acc, red, symbols, Looks, table_of, trans}
use Rattle.definitions.specs.Tree.{Row, yield, look, Prod, Der, NRow, erase, Kinds}
use Rattle.theory.specs.Table.Lr.{After, Chain, origin, kernel, link, Rules, Conditions}
use Rattle.theory.specs.Table.Sides.{sym_nt, sym_nonterminal, prods_is, start_is, lhs_is, rhs_is, rhs_length, after_is, is_after_lem, after-drop, nt_sym, after_terminal}
use Rattle.theory.specs.Table.Transitions.{act_red, act_acc, red_act, acc_act, symbol_is, target_in, trans-target, target-trans}
use Rattle.theory.specs.Table.FirstMeets.{prod_in, looks_first, productive, after-kinds, look_in, tree-kinds}

-- ---- sets of terminals
pub some-bit : (n x : ℕ) → 1 ≤ x → x < 2 ^ n → (a : ℕ) × (a < n) × Holds x a
some-bit zero x h l = absurd (omega arith)
some-bit (suc n) x h l = by (ℕ_discrete (x % 2) 1) (λ k m. some-bit n (x / 2) k m)
  where
    by : Dec (x % 2 ≡ 1) → (1 ≤ x / 2 → x / 2 < 2 ^ n → (a : ℕ) × (a < n) × Holds (x / 2) a) → (a : ℕ) × (a < suc n) × Holds x a
    by (yes e) f = (0, omega arith, rw (div-one x) e)
    by (no e) f =
        let r = f (omega arith) (omega (arith, two-pow-succ n)) in
        (suc r.0, omega (arith, r.1), rw (pow-succ' 2 r.0, ← div-div-eq-div-mul x 2 (2 ^ r.0)) r.2)

pub bit_below : (n x a : ℕ) → x < 2 ^ n → Holds x a → a < n
bit_below n x a h e = by (dec_lt a n)
  where
    by : Dec (a < n) → a < n
    by (yes k) = k
    by (no k) =
        let m : 2 ^ n ≤ 2 ^ a = pow_mono (omega arith) in
        let z : x / 2 ^ a ≡ 0 = div-eq_of_lt (omega arith) in
        absurd (omega arith)

-- the set {end} has the end mark alone
pub only_end : (x a : ℕ) → x ≡ 2 ^ 0 → Holds x a → a ≡ 0
only_end x a e h = let b = bit_below 1 x a (omega arith) h in omega arith

module _ (t : List ℕ) where
  -- ---- items
  pub item_looks : {s p d a : ℕ} → (table_of t).Item s p d a → Looks t s p d a
  unfolding table_of
  item_looks i = i

  pub looks_item : {s p d a : ℕ} → Looks t s p d a → (table_of t).Item s p d a
  unfolding table_of
  looks_item i = i

  pub has_in : {s p d a : ℕ} → In t s p d a → HasItem t s p d
  has_in i = record { item = i.item; listed = i.listed; production = i.production; place = i.place }

  module _ (l : Layout t) where
    pub item_production : {s p d : ℕ} → s < S t → HasItem t s p d → p < P t
    item_production {s} h i = rw i.production at ((l.states s h).items i.item i.listed).named

    pub item_place : {s p d : ℕ} → s < S t → HasItem t s p d → d ≤ len t p
    item_place {s} h i = rw (i.production, i.place) at ((l.states s h).items i.item i.listed).place

    -- an item's set is not empty
    pub has_looks : {s p d : ℕ} → s < S t → HasItem t s p d → (a : ℕ) × (table_of t).Item s p d a
    has_looks {s} h i =
        let m = (l.states s h).items i.item i.listed in
        let b = some-bit (T t) (ahead t s i.item) m.full m.known in
        (b.0, looks_item (record { state = h; terminal = b.1; item = record { item = i.item; listed = i.listed; production = i.production; place = i.place; looks = b.2 } }))

    -- a terminal in a set is one of the table
    pub in_looks : {s p d a : ℕ} → s < S t → In t s p d a → (table_of t).Item s p d a
    in_looks {s} {a = a} h i =
        let m = (l.states s h).items i.item i.listed in
        looks_item (record { state = h; terminal = bit_below (T t) (ahead t s i.item) a m.known i.looks; item = i })

  module _ (A : Accepted t) where
    laid : Layout t
    laid = A.layout

    grammar : GrammarRules t
    grammar = A.rules

    meets : StateConditions t
    meets = A.states

    pub item_range : {s p d a : ℕ} → Looks t s p d a → (p < P t) × (d ≤ len t p)
    item_range k = (item_production laid k.state (has_in k.item), item_place laid k.state (has_in k.item))

    -- ---- the rules
    rhs_first : (table_of t).rhs 0 ≡ nt (table_of t).start ∷ []
    rhs_first = rw (start_is t) (rhs_is t 0 (omega (arith, laid.head.productions.0)) ∙ rw grammar.top.1 (ap (λ (X : Sym). X ∷ []) (sym_nt (symbol t 0 0) grammar.start)))

    pub rules_of : Rules (table_of t)
    rules_of = record {
      rhs0 = rhs_first;
      exist = λ i. rw (prods_is t) (item_range (item_looks i)).0;
      range = λ {p = p} i. let r = item_range (item_looks i) in rw (rhs_length t p r.0) r.1;
      no_end = λ h. let r = after_terminal t laid grammar h in omega arith;
      productive = λ h. let y = productive t laid grammar h in (y.by, y.row, y.production, y.left, y.derives);
    }

    -- ---- the conditions
    first_dots : {p d a : ℕ} → Looks t 0 p (suc d) a → ⊥
    first_dots {p} {d} i = omega (arith, meets.one.dots p (suc d) (has_in i.item))

    ends : {s d a : ℕ} → Looks t s 0 d a → a ≡ 0
    ends {s} {a = a} i =
        let k = i.item in
        only_end (ahead t s k.item) a (meets.one.ends s k.item i.state k.listed k.production) k.looks

    closes : {s p d a q : ℕ} {γ : List Sym} {f : Row} → Looks t s p d a → After (table_of t) p d (nt ((table_of t).lhs q)) γ → Prod (table_of t) q → Der (table_of t) f γ → Looks t s q 0 (look a (yield f))
    unfolding Condition2
    closes {s} {p} {d} {a} {q} {γ} {f} i h Q D =
        let k = after_is t h in
        let b : look a (yield f) < T t = look_in (T t) a f (after-kinds t laid grammar h D) i.terminal in
        let y : symbol t p d ≡ 128 + left t q = rw (lhs_is t q) at (nt_sym (symbol t p d) ((table_of t).lhs q) k.it) in
        let F : InFirst t p (d + 1) a (look a (yield f)) = rw (add-one d) (looks_first t p (suc d) a {f = f} k.production k.place (rw k.rest D)) in
        record {
          state = i.state;
          terminal = b;
          item = meets.two s p d a i.state i.terminal i.item k.place (omega arith) q (look a (yield f)) (prod_in t Q) (sym y) b F;
        }

    moves : {s p d a : ℕ} {X : Sym} {γ : List Sym} → Looks t s p d a → After (table_of t) p d X γ → (u : ℕ) × (trans (table_of t) s X ≡ some u) × Looks t u p (suc d) a
    unfolding Condition3
    moves {s} {p} {d} {a} i h =
        let k = after_is t h in
        let r = meets.three s p d a i.state i.terminal i.item k.place in
        let y = symbol_is t (symbol t p d) ((laid.productions p k.production).used d k.place) in (
          target t s (symbol t p d),
          rw (← k.it) (target-trans t laid s (symbol t p d) i.state y r.0),
          record { state = target_in t laid s (symbol t p d) i.state y r.0; terminal = i.terminal; item = rw (add-one d) at r.1 },
        )

    reduced : (s p a : ℕ) → Looks t s p (length ((table_of t).rhs p)) a → 0 < p → (table_of t).act s a ≡ red p
    unfolding Condition4
    reduced s zero a i h = absurd (omega arith)
    reduced s (suc p) a i h =
        let k : In t s (suc p) (len t (suc p)) a = rw (rhs_length t (suc p) (item_range i).0) at i.item in
        red_act t s a (suc p) i.state i.terminal (meets.four s (suc p) a i.state i.terminal k)

    taken : {s a : ℕ} → Looks t s 0 1 a → (table_of t).act s a ≡ acc
    unfolding Condition4
    taken {s} {a} i =
        acc_act t s a i.state i.terminal (meets.four s 0 a i.state i.terminal (rw grammar.top.1 i.item))

    led_item : {s p d : ℕ} → Led t s p d → HasItem t s p d
    led_item (begin p d i h) = i
    led_item (next p d q L h e i) = i

    chain : {s p d : ℕ} → s < S t → Led t s p d → Chain (table_of t) s p d
    chain h (begin p zero i (inl z)) = rw z.0 (origin (has_looks laid h (rw z.0 at i)).1)
    chain h (begin p zero i (inr z)) = absurd (omega arith)
    chain h (begin p (suc d) i z) = kernel (has_looks laid h i).1
    chain h (next p d q L m e i) =
        let X : After (table_of t) p d (nt ((table_of t).lhs q)) (symbols t p (suc d) (len t p - suc d)) =
        is_after_lem t (record { production = item_production laid h (led_item L); place = m; it = ap sym_of e ∙ sym_nonterminal (left t q) ∙ ap nt (sym (lhs_is t q)); rest = refl }) in
        link (chain h L) X (has_looks laid h i).1

    stands : (s : ℕ) (X : Sym) {u : ℕ} → trans (table_of t) s X ≡ some u → (p d a : ℕ) × (γ : List Sym) × (table_of t).Item s p d a × After (table_of t) p d X γ
    stands s X e =
        let m = trans-target t laid s X e in
        let k = (meets.five s m.state).goes m.number m.symbol m.goes in
        let p = prod t s k.0 in
        let d = dot t s k.0 in
        let i : HasItem t s p d = record { item = k.0; listed = k.1; production = refl; place = refl } in
        let b = has_looks laid m.state i in (
          p,
          d,
          b.0,
          symbols t p (suc d) (len t p - suc d),
          b.1,
          is_after_lem t (record { production = item_production laid m.state i; place = k.2.0; it = ap sym_of k.2.1 ∙ m.name; rest = refl }),
        )

    reduces : (s p a : ℕ) → (table_of t).act s a ≡ red p → (table_of t).Item s p (length ((table_of t).rhs p)) a
    reduces s p a e =
        let r = act_red t e in
        let z : action t s a - 512 ≡ p = omega arith in
        let i : In t s p (len t p) a = rw z at ((meets.five s r.0).reduces a r.1 (omega arith)) in
        let h = item_production laid r.0 (has_in i) in
        looks_item (record { state = r.0; terminal = r.1; item = rw (rhs_length t p h) i })

    accepts : (s a : ℕ) → (table_of t).act s a ≡ acc → (a ≡ 0) × (table_of t).Item s 0 1 0
    accepts s a e =
        let r = act_acc t e in
        let k = (meets.five s r.0).accepts a r.1 r.2 in
        let i = k.1 in
        let z : ahead t s i.item ≡ 2 ^ 0 = meets.one.ends s i.item r.0 i.listed i.production in (
          k.0,
          looks_item (record {
            state = r.0;
            terminal = omega (arith, laid.head.terminals.0);
            item = record { item = i.item; listed = i.listed; production = i.production; place = i.place; looks = rw z };
          }),
        )

    into : (s : ℕ) (X : Sym) {u p d a : ℕ} → Looks t u p (suc d) a → trans (table_of t) s X ≡ some u
        → After (table_of t) p d X (drop (suc d) ((table_of t).rhs p)) × ((b : ℕ) × (table_of t).Item s p d b)
    unfolding Condition6
    into s X {u} {p} {d} i e =
        let m = trans-target t laid s X e in
        let y : suc d - 1 ≡ d = omega arith in
        let r = meets.six s m.number p (suc d) m.state m.symbol m.goes (rw m.leads (has_in i.item)) (omega arith) in
        let x : symbol t p d ≡ m.number = rw y at r.0 in
        let k : HasItem t s p d = rw y at r.1 in
        let R = item_range i in
        (rw (ap sym_of x ∙ m.name) at (after-drop t p d R.0 R.1), has_looks laid m.state k)

    linked : {s p a : ℕ} → Looks t s p 0 a → 0 < p → Chain (table_of t) s p 0
    unfolding Condition7
    linked {s} {p} i h = chain i.state (meets.seven s p i.state h (has_in i.item))

    starts : (table_of t).Item 0 0 0 0
    starts = in_looks laid (omega (arith, laid.head.states.0)) meets.one.starts

    pub conditions_of : Conditions (table_of t)
    conditions_of = record {
      c1_start = starts;
      c1_dot = λ i. first_dots (item_looks i);
      c1_end = λ i. ends (item_looks i);
      c1_only = λ {s = s} i. let k = item_looks i in meets.one.once s k.state (has_in k.item);
      c2 = λ i h Q D. looks_item (closes (item_looks i) h Q D);
      c3 = λ i h. let r = moves (item_looks i) h in (r.0, r.1, looks_item r.2);
      c4_red = λ {s = s} {p = p} {a = a} i h. reduced s p a (item_looks i) h;
      c4_acc = λ i. taken (item_looks i);
      c5_trans = λ s X e. stands s X e;
      c5_red = λ {s = s} {p = p} {a = a} e. reduces s p a e;
      c5_acc = λ {s = s} {a = a} e. accepts s a e;
      c6 = λ s X i e. into s X (item_looks i) e;
      c7 = λ i h. linked (item_looks i) h;
    }

    -- ---- a derivation's tokens have kinds 1..T−1
    pub kinds_of : {B : ℕ} (r : NRow) → Der (table_of t) (erase r) (nt B ∷ []) → Kinds (T t) r
    kinds_of r D = tree-kinds t laid grammar r D
