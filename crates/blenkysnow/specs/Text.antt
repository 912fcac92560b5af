-- A text in order, by its codes one by one.
use Rattle.std.specs.Prelude.{List, ℕ, ◌≤◌, length}
use Rattle.definitions.specs.Sheet.{T}
use Rattle.definitions.specs.Answers.{TextInOrder}
use Rattle.edits.specs.Codes.{Knowns, to_codes, from_codes}

pub in_order : (t codes : List ℕ) (first : ℕ) → 1 ≤ first → length codes ≤ 2048 → Knowns (T t) codes (length codes) → TextInOrder t codes first
in_order t codes first h k f = record { known = to_codes (T t) codes f; few = k; number = h }

pub knowns : (t codes : List ℕ) (first : ℕ) → TextInOrder t codes first → Knowns (T t) codes (length codes)
knowns t codes first x = from_codes (T t) codes x.known
