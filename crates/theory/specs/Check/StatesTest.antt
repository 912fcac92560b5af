-- The tests of document 01's "State conditions", one a condition. `ConditionLaws` and `ChainLaws` say what they mean.
use Rattle.std.specs.Prelude.{Bool, ◌&&◌, ◌||◌, not, cond, List, ℕ, ◌+◌, ◌-◌, leb, ltb, eqb}
use Rattle.theory.specs.Check.Every.{all_below, any_below, times, ◌⇒◌}
use Rattle.theory.specs.Check.Sets.{empty, one, holds, join_below}
use Rattle.definitions.specs.Sheet.{T, N, P, S, left, len, symbol, action, count, prod, dot, ahead}
use Rattle.definitions.specs.States.{target}
use Rattle.theory.specs.Check.GrammarTest.{nullable, beginners, in_first}

-- (p,d) is in s; (p,d,a) is in s
abbrev pub has_item : List ℕ → ℕ → ℕ → ℕ → Bool
has_item t s p d = any_below (count t s) (λ i. eqb (prod t s i) p && eqb (dot t s i) d)

abbrev pub is_in : List ℕ → ℕ → ℕ → ℕ → ℕ → Bool
is_in t s p d a = any_below (count t s) (λ i. eqb (prod t s i) p && eqb (dot t s i) d && holds (ahead t s i) a)

-- f holds of every item (p,d) of s
abbrev pub each_item : List ℕ → ℕ → (ℕ → ℕ → Bool) → Bool
each_item t s f = all_below (count t s) (λ i. f (prod t s i) (dot t s i))

-- f holds of every (p,d,a) in s
abbrev pub each_in : List ℕ → ℕ → (ℕ → ℕ → ℕ → Bool) → Bool
each_in t s f = all_below (count t s) (λ i. all_below (T t) (λ a. holds (ahead t s i) a ⇒ f (prod t s i) (dot t s i) a))

-- x stands after the dot of (p,d)
abbrev pub is_after : List ℕ → ℕ → ℕ → ℕ → Bool
is_after t p d x = ltb d (len t p) && eqb (symbol t p d) x

-- every symbol of the table passes
abbrev pub each_symbol : List ℕ → (ℕ → Bool) → Bool
each_symbol t f = all_below (T t) f && all_below (N t) (λ n. f (128 + n))

-- 1. State 0 has (0,0,end) and only items with dot 0. Items of production 0 have the set {end}; (0,0) is in no other state.
unfoldable pub cond1 : List ℕ → Bool
cond1 t =
    is_in t 0 0 0 0
    && each_item t 0 (λ p d. eqb d 0)
    && all_below (S t) (λ s. all_below (count t s) (λ i. eqb (prod t s i) 0 ⇒ eqb (ahead t s i) (one 0)))
    && all_below (S t) (λ s. has_item t s 0 0 ⇒ eqb s 0)

-- 2. If (p,d,a) is in s with nonterminal B after the dot, then for each production q of B
--    and each terminal b in FIRST of what follows B and then a, (q,0,b) is in s.
abbrev pub closed : List ℕ → ℕ → ℕ → ℕ → ℕ → ℕ → ℕ → ℕ → Bool
closed t null set b s p d a =
    (ltb d (len t p) && leb 128 (symbol t p d)) ⇒
    (in_first t null set b p (d + 1) a ⇒
    all_below (P t) (λ q. eqb (128 + left t q) (symbol t p d) ⇒ is_in t s q 0 b))

unfoldable pub cond2 : List ℕ → Bool
cond2 t =
    let null = nullable t in
    all_below (T t) (λ b. let set = beginners t null b in all_below (S t) (λ s. each_in t s (closed t null set b s)))

-- 3. If (p,d,a) is in s with X after the dot, s has a transition on X, and its target has (p,d+1,a).
unfoldable pub cond3 : List ℕ → Bool
cond3 t =
    all_below (S t) (λ s. each_in t s (λ p d a.
    ltb d (len t p) ⇒ (let u = target t s (symbol t p d) in not (eqb u 255) && is_in t u p (d + 1) a)))

-- 4. If (p,length,a) is in s: action(s,a) is reduce p, or for p = 0 accept.
unfoldable pub cond4 : List ℕ → Bool
cond4 t =
    all_below (S t) (λ s. each_in t s (λ p d a. eqb d (len t p) ⇒ eqb (action t s a) (cond (eqb p 0) 1 (512 + p))))

-- 5. A transition on X stands only where an item has X after the dot; reduce p on a only where (p,length,a) is in s;
--    accept only on end where (0,1) is.
unfoldable pub cond5 : List ℕ → Bool
cond5 t =
    all_below (S t) (λ s.
    each_symbol t (λ x. not (eqb (target t s x) 255) ⇒ any_below (count t s) (λ i. is_after t (prod t s i) (dot t s i) x))
    && all_below (T t) (λ a.
    (leb 512 (action t s a) ⇒ (let p = action t s a - 512 in is_in t s p (len t p) a))
    && (eqb (action t s a) 1 ⇒ (eqb a 0 && has_item t s 0 1))))

-- 6. If (p,d) with d > 0 is in u, every transition into u is on the symbol before the dot, from a state with (p,d-1).
unfoldable pub cond6 : List ℕ → Bool
cond6 t =
    all_below (S t) (λ s. each_symbol t (λ x.
    let u = target t s x in
    not (eqb u 255) ⇒ each_item t u (λ p d. ltb 0 d ⇒ (eqb (symbol t p (d - 1)) x && has_item t s p (d - 1)))))

-- 7. An item (p,0) with p > 0 stands only in a state where a chain of the state's own items leads to it.
-- (p,d) passes the test and has a nonterminal after the dot
abbrev pub opens : List ℕ → (ℕ → ℕ → Bool) → ℕ → ℕ → Bool
opens t ok p d = ok p d && ltb d (len t p) && leb 128 (symbol t p d)

-- the set of the nonterminals after the dots of those items of s that pass the test
abbrev pub afters : List ℕ → ℕ → (ℕ → ℕ → Bool) → ℕ
afters t s ok =
    join_below (count t s) (λ i.
    cond (opens t ok (prod t s i) (dot t s i)) (one (symbol t (prod t s i) (dot t s i) - 128)) empty)

-- the first of a chain is (0,0) or has a dot above 0; each next is some (q,0) whose left side is after the dot of one before
-- (the set of the nonterminals after the dots of such items: N rounds, from none). One round:
abbrev pub led_next : List ℕ → ℕ → ℕ → ℕ
led_next t s set = afters t s (λ p d. (eqb p 0 && eqb d 0) || ltb 0 d || holds set (left t p))

abbrev pub led : List ℕ → ℕ → ℕ
led t s = times (N t) (led_next t s) empty

unfoldable pub cond7 : List ℕ → Bool
cond7 t = all_below (S t) (λ s. let set = led t s in each_item t s (λ p d. (eqb d 0 && ltb 0 p) ⇒ holds set (left t p)))

unfoldable pub states : List ℕ → Bool
states t = cond1 t && cond2 t && cond3 t && cond4 t && cond5 t && cond6 t && cond7 t
