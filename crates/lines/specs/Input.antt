-- The parts of a whole input, as the code cuts them: t is the table's length and c the token count.
use Rattle.std.specs.Prelude.{◌≡◌, List, ℕ, ◌+◌, ◌-◌, ◌*◌, length, take, drop}
use Rattle.std.proofs.Math.Path.{refl}
use Rattle.std.proofs.Common.{sym, ap, ◌∙◌, arith, length-drop, length-take-le, eq-eqb, ne_eqb}
use Rattle.definitions.specs.Answers.{Told}
use Rattle.theory.specs.Answers.{afresh}
use Rattle.lines.specs.Program.{two, table_length, token_count, table_in, codes_in, first_in, whole_length, no_line, lines, printed}

module _ (input : List ℕ) (t c : ℕ) (table : t ≡ two input 0) (count : c ≡ two input (2 + t)) (whole : length input ≡ whole_length input) where
  tokens : c ≡ token_count input
  tokens = count ∙ ap (λ n. two input (2 + n)) table

  pub fits : 8 + t + c ≡ length input
  fits = omega (arith, tokens, table, whole)

  -- the codes, off the part of the input that they are
  abbrev part : List ℕ
  part = take (4 + t + c - (4 + t)) (drop (4 + t) input)

  part_length : length part ≡ c
  part_length =
      let e : 4 + t + c - (4 + t) ≡ c = omega arith in
      length-take-le (4 + t + c - (4 + t)) (drop (4 + t) input) (omega (arith, length-drop (4 + t) input, fits)) ∙ e

  codes_are : (codes : List ℕ) → take (length part) codes ≡ part → take c codes ≡ codes_in input
  codes_are codes e =
      let d : 4 + t + c - (4 + t) ≡ c = omega arith in
      ap (λ n. take n codes) (sym part_length) ∙ e ∙ ap (λ n. take n (drop (4 + t) input)) (d ∙ tokens) ∙ ap (λ n. take (token_count input) (drop (4 + n) input)) table

  -- what is told of the parts is told of the input
  pub told_whole : {x : Told} (tree room codes : List ℕ) (first : ℕ) → take (length part) codes ≡ part → first ≡ two input (4 + t + c) * 65536 + two input (4 + t + c + 2)
      → x ≡ afresh (take (2 + t - 2) (drop 2 input)) (take c codes) first tree room → x ≡ afresh (table_in input) (codes_in input) (first_in input) tree room
  told_whole tree room codes first s f e =
      let b : 2 + t - 2 ≡ table_length input = omega (arith, table) in
      let n : 4 + t + c ≡ 4 + table_length input + token_count input = omega (arith, table, tokens) in
      e
      ∙ ap (λ n. afresh (take n (drop 2 input)) (take c codes) first tree room) b
      ∙ ap (λ l. afresh (table_in input) l first tree room) (codes_are codes s)
      ∙ ap (λ n. afresh (table_in input) (codes_in input) n tree room) (f ∙ ap (λ n. two input n * 65536 + two input (n + 2)) n)

-- ---- what is printed, by whether the input is whole
module _ (input tree room : List ℕ) where
  pub whole_printed : length input ≡ whole_length input → printed input tree room ≡ lines (afresh (table_in input) (codes_in input) (first_in input) tree room)
  unfolding printed
  whole_printed e = rw (eq-eqb (length input) (whole_length input) e) refl

  pub other-printed : (length input ≡ whole_length input → ⊥) → printed input tree room ≡ no_line 0 0
  unfolding printed
  other-printed n = rw (ne_eqb (length input) (whole_length input) n) refl
