-- The test of document 01's "The table sheet": the sheet is well laid out and in range. `LayoutLaws` says what it means.
use Rattle.std.specs.Prelude.{Bool, ◌&&◌, ◌||◌, cond, List, ℕ, ◌+◌, ◌-◌, ◌^◌, leb, ltb, eqb, length}
use Rattle.definitions.specs.Sheet.{byte, word, T, N, P, S, left, len, symbol, action, goto, state_at, items, count, prod, dot, ahead}
use Rattle.theory.specs.Check.Every.{all_below}

abbrev pub between : ℕ → ℕ → ℕ → Bool
between lo x hi = leb lo x && leb x hi

-- a terminal's number, or 128 + a nonterminal's
abbrev pub is_symbol : List ℕ → ℕ → Bool
is_symbol t x = ltb x (T t) || (leb 128 x && ltb x (128 + N t))

abbrev pub is_action : List ℕ → ℕ → Bool
is_action t w = leb w 1 || (leb 256 w && ltb w (256 + S t)) || (leb 512 w && ltb w (512 + P t))

abbrev pub is_goto : List ℕ → ℕ → Bool
is_goto t g = ltb g (S t) || eqb g 255

abbrev pub head_right : List ℕ → Bool
head_right t =
    eqb (byte t 0) 76 && eqb (byte t 1) 82 && eqb (byte t 2) 84 && eqb (word t 3) 1
    && between 1 (T t) 64 && between 2 (N t) 64 && between 2 (P t) 200 && between 2 (S t) 200

abbrev pub production_right : List ℕ → ℕ → Bool
production_right t p =
    ltb (left t p) (N t) && leb (len t p) 8
    && all_below 8 (λ k. cond (ltb k (len t p)) (is_symbol t (symbol t p k)) (eqb (symbol t p k) 0))

-- items rise strictly by (production, dot)
abbrev pub rises : List ℕ → ℕ → ℕ → Bool
rises t s i =
    ltb (prod t s i) (prod t s (i + 1))
    || (eqb (prod t s i) (prod t s (i + 1)) && ltb (dot t s i) (dot t s (i + 1)))

abbrev pub item_right : List ℕ → ℕ → ℕ → Bool
item_right t s i =
    ltb (prod t s i) (P t) && leb (dot t s i) (len t (prod t s i))
    && leb 1 (ahead t s i) && ltb (ahead t s i) (2 ^ T t)

abbrev pub state_right : List ℕ → ℕ → Bool
state_right t s =
    leb 1 (count t s) && all_below (count t s) (item_right t s) && all_below (count t s - 1) (rises t s)

unfoldable pub layout : List ℕ → Bool
layout t =
    head_right t
    && all_below (P t) (production_right t)
    && all_below (S t) (λ s. all_below (T t) (λ a. is_action t (action t s a)))
    && all_below (S t) (λ s. all_below (N t) (λ n. is_goto t (goto t s n)))
    && all_below (S t) (state_right t)
    && leb (items t (S t)) 2400
    && eqb (length t) (state_at t (S t))
