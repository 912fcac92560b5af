-- What the test of the layout says: `Layout`. And of a sheet so laid out, what is named exists: symbols, productions, left sides.
use Rattle.std.specs.Prelude.{List, ℕ, ◌+◌, ◌-◌, ◌^◌, ◌<◌, ltb, length}
use Rattle.std.proofs.Common.{inl, inr, arith, lt-ltb, le-ltb, ltb-true, ltb-false}
use Rattle.definitions.specs.Sheet.{byte, word, T, N, P, S, left, len, symbol, action, goto, state_at, items, count, prod, dot, ahead, Between, Head, IsSymbol, Production, IsAction, IsGoto, Item, Rises, State, Layout}
use Rattle.theory.specs.Check.LayoutTest.{between, is_symbol, is_action, is_goto, head_right, production_right, rises, item_right, state_right, layout}
use Rattle.theory.specs.Check.Says.{Says, says_as, says_and, says_or, says_if, says_all, says_eq, says_lt, says_le}

pub says_between : (lo x hi : ℕ) → Says (between lo x hi) (Between lo x hi)
says_between lo x hi = says_and (says_le lo x) (says_le x hi)

pub says_head : (t : List ℕ) → Says (head_right t) (Head t)
says_head t =
    says_as
    (says_and (says_and (says_and (says_and (says_and (says_and (says_and (says_eq (byte t 0) 76) (says_eq (byte t 1) 82)) (says_eq (byte t 2) 84))
    (says_eq (word t 3) 1)) (says_between 1 (T t) 64)) (says_between 2 (N t) 64)) (says_between 2 (P t) 200)) (says_between 2 (S t) 200))
    (λ r. record {
      letters = r.0.0.0.0.0;
      version = r.0.0.0.0.1;
      terminals = r.0.0.0.1;
      nonterminals = r.0.0.1;
      productions = r.0.1;
      states = r.1;
    })
    (λ r. (((((r.letters, r.version), r.terminals), r.nonterminals), r.productions), r.states))

says_is_symbol : (t : List ℕ) (x : ℕ) → Says (is_symbol t x) (IsSymbol t x)
says_is_symbol t x = says_or (says_lt x (T t)) (says_and (says_le 128 x) (says_lt x (128 + N t)))

pub says_production : (t : List ℕ) (p : ℕ) → Says (production_right t p) (Production t p)
says_production t p =
    says_as (says_and (says_and (says_lt (left t p) (N t)) (says_le (len t p) 8)) (says_all 8 (λ k. says_if (ltb k (len t p))
    (says_is_symbol t (symbol t p k)) (says_eq (symbol t p k) 0))))
    (λ r. record {
      of = r.0.0;
      short = r.0.1;
      used = λ k h. let l = r.0.1 in (r.1 k (omega arith)).0 (lt-ltb k (len t p) h);
      unused = λ k h g. (r.1 k h).1 (le-ltb k (len t p) g);
    })
    (λ r. ((r.of, r.short), λ k h. (λ e. r.used k (ltb-true k (len t p) e), λ e. r.unused k h (ltb-false k (len t p) e))))

pub says_item_right : (t : List ℕ) (s i : ℕ) → Says (item_right t s i) (Item t s i)
says_item_right t s i =
    says_as (says_and (says_and (says_and (says_lt (prod t s i) (P t)) (says_le (dot t s i) (len t (prod t s i)))) (says_le 1 (ahead t s i)))
    (says_lt (ahead t s i) (2 ^ T t)))
    (λ r. record { named = r.0.0.0; place = r.0.0.1; full = r.0.1; known = r.1 })
    (λ r. (((r.named, r.place), r.full), r.known))

says_rises : (t : List ℕ) (s i : ℕ) → Says (rises t s i) (Rises t s i)
says_rises t s i =
    says_or (says_lt (prod t s i) (prod t s (i + 1)))
    (says_and (says_eq (prod t s i) (prod t s (i + 1))) (says_lt (dot t s i) (dot t s (i + 1))))

pub says_state : (t : List ℕ) (s : ℕ) → Says (state_right t s) (State t s)
says_state t s =
    says_as (says_and (says_and (says_le 1 (count t s)) (says_all (count t s) (says_item_right t s)))
    (says_all (count t s - 1) (says_rises t s)))
    (λ r. record { some = r.0.0; items = r.0.1; rise = r.1 })
    (λ r. ((r.some, r.items), r.rise))

says_action : (t : List ℕ) (w : ℕ) → Says (is_action t w) (IsAction t w)
says_action t w =
    says_or (says_or (says_le w 1) (says_and (says_le 256 w) (says_lt w (256 + S t)))) (says_and (says_le 512 w) (says_lt w (512 + P t)))

says_goto : (t : List ℕ) (g : ℕ) → Says (is_goto t g) (IsGoto t g)
says_goto t g = says_or (says_lt g (S t)) (says_eq g 255)

pub says_layout : (t : List ℕ) → Says (layout t) (Layout t)
unfolding layout
says_layout t =
    says_as
    (says_and (says_and (says_and (says_and (says_and (says_and (says_head t) (says_all (P t) (says_production t)))
    (says_all (S t) (λ s. says_all (T t) (λ a. says_action t (action t s a)))))
    (says_all (S t) (λ s. says_all (N t) (λ n. says_goto t (goto t s n)))))
    (says_all (S t) (says_state t)))
    (says_le (items t (S t)) 2400))
    (says_eq (length t) (state_at t (S t))))
    (λ r. record {
      head = r.0.0.0.0.0.0;
      productions = r.0.0.0.0.0.1;
      actions = r.0.0.0.0.1;
      gotos = r.0.0.0.1;
      states = r.0.0.1;
      few = r.0.1;
      exact = r.1;
    })
    (λ r. ((((((r.head, r.productions), r.actions), r.gotos), r.states), r.few), r.exact))

-- every symbol named exists
pub symbol_exists : (t : List ℕ) → Layout t → (p k : ℕ) → p < P t → k < len t p → symbol t p k - 128 < N t
symbol_exists t l p k hp hk = go ((l.productions p hp).used k hk)
  where
    go : IsSymbol t (symbol t p k) → symbol t p k - 128 < N t
    go (inl h) = let z = l.head.terminals.1 in let y = l.head.nonterminals.0 in omega arith
    go (inr h) = let y = l.head.nonterminals.0 in let a = h.0 in let b = h.1 in omega arith

-- every production that an item names exists
pub named_exists : (t : List ℕ) → Layout t → (s i : ℕ) → s < S t → i < count t s → prod t s i < P t
named_exists t l s i hs hi = ((l.states s hs).items i hi).named

-- every left side exists, and so that of an item's production
pub left_exists : (t : List ℕ) → Layout t → (p : ℕ) → p < P t → left t p < N t
left_exists t l p hp = (l.productions p hp).of

pub named_left_exists : (t : List ℕ) → Layout t → (s i : ℕ) → s < S t → i < count t s → left t (prod t s i) < N t
named_left_exists t l s i hs hi = left_exists t l (prod t s i) (named_exists t l s i hs hi)
