-- Sets of terminals (and of nonterminals) as the tests compute them: a number in which a has worth 2^a.
use Rattle.std.specs.Prelude.{Bool, ℕ, zero, suc, ◌/◌, ◌%◌, ◌^◌, eqb}
use Rattle.std.specs.Int.Bits.{bit_or}

abbrev pub empty : ℕ
empty = 0

abbrev pub one : ℕ → ℕ
one a = 2 ^ a

abbrev pub join : ℕ → ℕ → ℕ
join x y = bit_or x y

abbrev pub holds : ℕ → ℕ → Bool
holds x a = eqb (x / 2 ^ a % 2) 1

-- the join of f 0, f 1, .. below n
abbrev pub join_below : ℕ → (ℕ → ℕ) → ℕ
join_below zero f = empty
join_below (suc n) f = join (f n) (join_below n f)
