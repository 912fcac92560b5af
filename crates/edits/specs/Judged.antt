-- Edits in order, from what the code finds: the records in order, few tokens, known codes.
use Rattle.std.specs.Prelude.{◌≡◌, Option, Some, None, MatchOption, List, Bool, false, ℕ, ◌+◌, ◌-◌, ◌≤◌, length}
use Rattle.std.proofs.Common.{ap, ◌∙◌, arith}
use Rattle.definitions.specs.Sheet.{T}
use Rattle.definitions.specs.Tree.{Tok}
use Rattle.definitions.specs.Edits.{Edit, edit_words, new_text, EditsInOrder}
use Rattle.theory.specs.Check.Says.{Says, says_as, says_no}
use Rattle.edits.specs.Codes.{Knowns, to_codes, from_codes}
use Rattle.edits.specs.Before.{removals}
use Rattle.edits.specs.Length.{length-text}
use Rattle.edits.specs.Fits.{Fits, Walked, Passed, passed_fits, fits_passed}
use Rattle.edits.specs.declared.Walk.{Walk}

-- a walk over all edits of n old tokens found them in order: it ends within the text, all codes are used and known, few tokens result
pub record Right (t codes : List ℕ) (n : ℕ) (w : Walk) : Type 0 where
  pub within : w.from ≤ n
  pub used : w.used ≡ length codes
  pub few : n - w.out + length codes ≤ 2048
  pub known : Knowns (T t) codes (length codes)

module _ (t : List ℕ) (old : List Tok) (row codes : List ℕ) where
  order_fits : (es : List Edit) → EditsInOrder t old row codes es → Fits 0 (length old) (length codes) row es
  order_fits es E = record { records = E.records; places = E.places; used = E.used }

  -- "At most 2,048 tokens result."
  order_length : (es : List Edit) → Fits 0 (length old) (length codes) row es → length (new_text old es codes) + removals es ≡ length old + length codes
  order_length es F = let u = F.used in length-text old es codes F.places (omega arith) ∙ ap (length old +◌) u

  -- what the code finds of a walk over all words says whether the edits are in order
  module _ {w : Walk} (P : Walked row (length old) (length codes) (length row) w) where
    right_order : Right t codes (length old) w → (es : List Edit) × EditsInOrder t old row codes es
    right_order R =
        let x = passed_fits P R.used in
        let F = x.1 in
        let m = R.few in
        (x.0, record { records = F.records; places = F.places; used = F.used; known = to_codes (T t) codes R.known; few = omega (arith, order_length x.0 F, x.2) })

    order_right : (es : List Edit) → EditsInOrder t old row codes es → Right t codes (length old) w
    order_right es E =
        let F = order_fits es E in
        let x = fits_passed P es F in
        let m = E.few in
        record { within = P.high; used = x.0; few = omega (arith, order_length es F, x.1); known = from_codes (T t) codes E.known }

  module _ {n : ℕ} where
    pub walked_order : {w : Walk} {r : Bool} → Passed row n (length codes) (length row) (Some w) → length old ≡ n → Says r (Right t codes n w)
        → Says r ((es : List Edit) × EditsInOrder t old row codes es)
    walked_order {w} {r} P l S =
        let P' : Walked row (length old) (length codes) (length row) w = rw l P in
        let S' : Says r (Right t codes (length old) w) = rw l S in
        says_as S' (right_order P') (λ x. order_right P' x.0 x.1)

    pub unwalked_order : Passed row n (length codes) (length row) None → length old ≡ n → Says false ((es : List Edit) × EditsInOrder t old row codes es)
    unwalked_order P l = says_no (λ x. P x.0 (rw (← l) (order_fits x.0 x.1)))

    -- whatever the walk found
    pub says_order : (w : Option Walk) {r : Bool} → Passed row n (length codes) (length row) w → length old ≡ n
        → MatchOption w (r ≡ false) (λ x. Says r (Right t codes n x)) → Says r ((es : List Edit) × EditsInOrder t old row codes es)
    says_order (Some x) P l S = walked_order P l S
    says_order None P l S = rw S (unwalked_order P l)

  -- a row that is no list of edits
  pub says_none : ((es : List Edit) → edit_words es ≡ row → ⊥) → Says false ((es : List Edit) × EditsInOrder t old row codes es)
  says_none f = says_no (λ x. f x.0 x.1.records)
