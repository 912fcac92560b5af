-- The number that a record keeps, if it keeps one: of its number word, which is 0 where a new one is given.
use Rattle.std.specs.Prelude.{◌≡◌, refl, Option, None, Some, is_some, is_none, unwrap_or, Bool, true, false, cond, not, List, ℕ, zero, suc, ◌+◌, length}
use Rattle.std.specs.List.{filter, range_with_len}
use Rattle.std.proofs.Common.{◌∙◌, ap}
use mir.Val.{bool_byte}
use Rattle.tree.specs.Ranges.{kept_below}
use Rattle.numbers.specs.Records.{number_of}
use Rattle.numbers.specs.Write.{is_new, chosen, news, news-none, news-more}

abbrev pub kept : ℕ → Option ℕ
kept zero = None
kept (suc i) = Some (suc i)

-- the number that is written, and how many new ones that takes
pub kept_chosen : (x a : ℕ) → unwrap_or (kept x) a ≡ chosen x a
kept_chosen zero a = refl
kept_chosen (suc i) a = refl

pub kept_new : (b : Bool) (x : ℕ) → is_some (kept x) ≡ not b → bool_byte b ≡ is_new x
kept_new true zero e = refl
kept_new true (suc i) e = absurd (cc)
kept_new false zero e = absurd (cc)
kept_new false (suc i) e = refl

-- the new ones are those of the records that keep none
pub news_kept : (R : List ℕ) (n : ℕ) → length (filter (λ j. is_none (kept (number_of R j))) (range_with_len 0 n)) ≡ news R n
news_kept R n = kept_below (λ j. is_none (kept (number_of R j))) (news R) (news-none R) (λ m. news-more R m ∙ ap (news R m +◌) (one (number_of R m))) n
  where
    one : (x : ℕ) → is_new x ≡ cond (is_none (kept x)) 1 0
    one zero = refl
    one (suc i) = refl
