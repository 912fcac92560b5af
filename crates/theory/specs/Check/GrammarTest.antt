-- The test of document 01's "Grammar rules", and FIRST as it is computed. `GrammarLaws` and `FirstLaws` say what they mean.
use Rattle.std.specs.Prelude.{Bool, ◌&&◌, ◌||◌, not, cond, List, ℕ, ◌-◌, leb, eqb}
use Rattle.theory.specs.Check.Every.{all_below, any_below, times, ◌⇒◌}
use Rattle.theory.specs.Check.Sets.{empty, one, holds, join_below}
use Rattle.definitions.specs.Sheet.{N, P, left, len, symbol}

-- x is a nonterminal of the set
abbrev pub in_set : ℕ → ℕ → Bool
in_set set x = leb 128 x && holds set (x - 128)

-- the left sides of those productions that pass the test
abbrev pub lefts : List ℕ → (ℕ → Bool) → ℕ
lefts t ok = join_below (P t) (λ p. cond (ok p) (one (left t p)) empty)

-- every symbol of production p passes the test
abbrev pub each_right : List ℕ → ℕ → (ℕ → Bool) → Bool
each_right t p ok = all_below (len t p) (λ k. ok (symbol t p k))

-- ---- the nonterminals that derive some string of terminals: N rounds, from none. One round:
abbrev pub productive_next : List ℕ → ℕ → ℕ
productive_next t set = lefts t (λ p. each_right t p (λ x. leb 128 x ⇒ holds set (x - 128)))

abbrev pub productive : List ℕ → ℕ
productive t = times (N t) (productive_next t) empty

-- ---- the grammar rules

-- terminal 0 and nonterminal 0 are in no right side
-- production 0 has left side 0, length 1 and a nonterminal; nonterminal 0 has no other production
-- every nonterminal derives some string of terminals
unfoldable pub grammar : List ℕ → Bool
grammar t =
    all_below (P t) (λ p. each_right t p (λ x. not (eqb x 0) && not (eqb x 128)))
    && eqb (left t 0) 0 && eqb (len t 0) 1 && leb 128 (symbol t 0 0)
    && all_below (P t) (λ p. eqb (left t p) 0 ⇒ eqb p 0)
    && all_below (N t) (holds (productive t))

-- ---- the nonterminals that derive the empty string: N rounds, from none. One round:
abbrev pub null_next : List ℕ → ℕ → ℕ
null_next t set = lefts t (λ p. each_right t p (in_set set))

abbrev pub nullable : List ℕ → ℕ
nullable t = times (N t) (null_next t) empty

-- ---- FIRST

-- some symbol of production p from place d on is b or in the set, and those between, from d on, are all nullable
abbrev pub reaches : List ℕ → ℕ → ℕ → ℕ → ℕ → ℕ → Bool
reaches t null set b p d =
    any_below (len t p) (λ k.
    leb d k && (eqb (symbol t p k) b || in_set set (symbol t p k)) && all_below k (λ j. leb d j ⇒ in_set null (symbol t p j)))

-- the nonterminals that derive a row beginning with b: N rounds, from none. One round:
abbrev pub begin_next : List ℕ → ℕ → ℕ → ℕ → ℕ
begin_next t null b set = lefts t (λ p. reaches t null set b p 0)

abbrev pub beginners : List ℕ → ℕ → ℕ → ℕ
beginners t null b = times (N t) (begin_next t null b) empty

-- b is in FIRST of the symbols of production p from place d on and then a, given the nullable set and the beginners of b
abbrev pub in_first : List ℕ → ℕ → ℕ → ℕ → ℕ → ℕ → ℕ → Bool
in_first t null set b p d a =
    reaches t null set b p d
    || (eqb a b && all_below (len t p) (λ j. leb d j ⇒ in_set null (symbol t p j)))
