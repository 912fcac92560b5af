-- How many of the first records are tokens; and of a piece that stands in the row, its tokens are the difference of two such counts.
use Rattle.std.specs.Prelude.{◌≡◌, refl, Bool, true, false, cond, List, ℕ, zero, suc, ◌+◌, ◌≤◌, ◌<◌, ltb, length, get_or, set}
use Rattle.std.specs.List.{filter, range_with_len}
use Rattle.std.proofs.Common.{◌∙◌, arith, length-set, get_or-set_same, get_or-set_other, lt-ltb, le-ltb}
use Rattle.std.proofs.Math.Decide.{dec_lt}
use Rattle.definitions.specs.Tree.{size, toks, NRow, ε, ntok, nnod, erase}
use Rattle.theory.specs.Tree.Build.{Small}
use Rattle.tree.specs.Ranges.{kept_below}
use Rattle.tree.specs.Rows.{kind_at, Stands}

-- 1 where record j is a token, else 0
abbrev pub token_at : List ℕ → ℕ → ℕ
token_at row j = cond (ltb (kind_at row j) 256) 1 0

-- how many of the first n records are tokens
abbrev pub tokens : List ℕ → ℕ → ℕ
tokens row zero = 0
tokens row (suc n) = tokens row n + token_at row n

pub token_yes : (row : List ℕ) (j : ℕ) → kind_at row j < 256 → token_at row j ≡ 1
token_yes row j h = rw (lt-ltb (kind_at row j) 256 h)

pub token_no : (row : List ℕ) (j : ℕ) → 256 ≤ kind_at row j → token_at row j ≡ 0
token_no row j h = rw (le-ltb (kind_at row j) 256 h)

pub token_one : (row : List ℕ) (j : ℕ) → token_at row j ≤ 1
token_one row j = by (ltb (kind_at row j) 256)
  where
    by : (b : Bool) → cond b 1 0 ≤ 1
    by true = omega arith
    by false = omega arith

-- they are the tokens among the places below n
pub tokens_kept : (row : List ℕ) (n : ℕ) → length (filter (λ j. ltb (kind_at row j) 256) (range_with_len 0 n)) ≡ tokens row n
tokens_kept row n = kept_below (λ j. ltb (kind_at row j) 256) (tokens row) refl (λ m. let z : m + 1 ≡ suc m = omega arith in rw z refl) n

pub tokens_few : (row : List ℕ) (n : ℕ) → tokens row n ≤ n
tokens_few row zero = omega arith
tokens_few row (suc n) = omega (arith, tokens_few row n, token_one row n)

-- pieces that stand from record a on
pub tokens-piece : (row : List ℕ) (a b : ℕ) (f : NRow) → Stands row a f → Small f → a + size (erase f) ≡ b → tokens row b ≡ tokens row a + toks (erase f)
tokens-piece row a b ε s m e = let z : b ≡ a = omega arith in rw z (omega arith)
tokens-piece row a b (ntok k i f) s m e =
    let x = s.0.kind in
    let l = m.0 in
    let u = token_yes row a (omega arith) in
    omega (arith, tokens-piece row (suc a) b f s.1 m.1 (omega arith))
tokens-piece row a b (nnod p i c f) s m e =
    let n = a + size (erase c) in
    let x = s.0.1.kind in
    let u = token_no row n (omega arith) in
    omega (arith, tokens-piece row a n c s.0.0 m.0 refl, tokens-piece row (suc n) b f s.1 m.1 (omega arith))

-- the counts of the first 0, 1, .. n records stand in the room r' from `at` on, and the other words are those of r
pub record Counts (row r r' : List ℕ) (at n : ℕ) : Type 0 where
  pub counted : (j : ℕ) → j ≤ n → get_or r' (at + j) 0 ≡ tokens row j
  pub before : (x : ℕ) → x < at → get_or r' x 0 ≡ get_or r x 0
  pub after : (x : ℕ) → at + n < x → get_or r' x 0 ≡ get_or r x 0

-- while they are written: those below j, and k is the next
pub record Counting (row r : List ℕ) (at : ℕ) (r' : List ℕ) (k j : ℕ) : Type 0 where
  pub long : length r' ≡ length r
  pub next : k ≡ tokens row j
  pub few : k ≤ j
  pub counted : (i : ℕ) → i < j → get_or r' (at + i) 0 ≡ tokens row i
  pub before : (x : ℕ) → x < at → get_or r' x 0 ≡ get_or r x 0
  pub after : (x : ℕ) → at + j ≤ x → get_or r' x 0 ≡ get_or r x 0

module _ (row r : List ℕ) (at : ℕ) (r' : List ℕ) (k j : ℕ) (C : Counting row r at r' k j) (inside : at + j < length r) where
  put : (i : ℕ) → i < j + 1 → get_or (set r' (at + j) k) (at + i) 0 ≡ tokens row i
  put i h = by (dec_lt i j)
    where
      by : Dec (i < j) → get_or (set r' (at + j) k) (at + i) 0 ≡ tokens row i
      by (yes l) = get_or-set_other r' (at + j) (at + i) k 0 (λ e. omega arith) ∙ C.counted i l
      by (no l) = let z : i ≡ j = omega arith in rw z (get_or-set_same r' (at + j) k 0 (omega (arith, C.long)) ∙ C.next)

  kept_before : (x : ℕ) → x < at → get_or (set r' (at + j) k) x 0 ≡ get_or r x 0
  kept_before x h = get_or-set_other r' (at + j) x k 0 (λ e. omega arith) ∙ C.before x h

  kept_after : (x : ℕ) → at + j < x → get_or (set r' (at + j) k) x 0 ≡ get_or r x 0
  kept_after x h = get_or-set_other r' (at + j) x k 0 (λ e. omega arith) ∙ C.after x (omega arith)

  pub count-more : (b : ℕ) → b ≡ token_at row j → b ≤ 1 → Counting row r at (set r' (at + j) k) (k + b) (j + 1)
  count-more b e l =
      let z : j + 1 ≡ suc j = omega arith in
      record {
        long = length-set r' (at + j) k ∙ C.long;
        next = rw z (omega (arith, C.next));
        few = omega (arith, C.few);
        counted = put;
        before = kept_before;
        after = λ x h. kept_after x (omega arith);
      }

  pub count_end : Counts row r (set r' (at + j) k) at j
  count_end = record { counted = λ i h. put i (omega arith); before = kept_before; after = kept_after }
