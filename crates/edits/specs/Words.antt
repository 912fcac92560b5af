-- The words of a list of edits, whatever they are lent as: those that document 01 has for its edits, three an edit, in order.
use Rattle.std.specs.Prelude.{◌≡◌, refl, List, [], ◌∷◌, map, ℕ, zero, suc, ◌+◌, ◌*◌, ◌/◌, ◌%◌, ◌<◌, length, get_or}
use Rattle.std.proofs.Common.{sym, ap, ◌∙◌, arith}
use Rattle.std.proofs.lemmas.Nat.{div-add-mod'}
use Rattle.std.proofs.Math.Nat.{mul-mod_left}
use Rattle.std.specs.Simd.{first_chunks}
use Rattle.definitions.specs.Edits.{Edit as EditOf, edit_words}
use Rattle.edits.specs.Fits.{edit_at, Record}
use Rattle.edits.specs.declared.Edit.{Edit}

-- "a record of place, tokens removed, tokens put in": as a struct, as three words
abbrev pub edit : Edit → EditOf
edit e = record { place = e.place; removed = e.removed; put = e.put }

abbrev pub record_of : List ℕ → EditOf
record_of words = edit_at words 0

unfoldable pub words_of : {E : Type 0} → (E → EditOf) → List E → List ℕ
words_of f es = edit_words (map f es)

module _ {E : Type 0} (f : E → EditOf) where
  pub words-length : (es : List E) → length (words_of f es) ≡ length es * 3
  unfolding words_of
  words-length [] = refl
  words-length (e ∷ es) = omega (arith, words-length es)

  -- edit i is the record at word 3 i
  words-at : (es : List E) (d : E) (i : ℕ) → i < length es → edit_at (words_of f es) (i * 3) ≡ f (get_or es i d)
  unfolding words_of
  words-at [] d i h = absurd (omega arith)
  words-at (e ∷ es) d zero h = refl
  words-at (e ∷ es) d (suc i) h =
      let x : suc i * 3 ≡ suc (suc (suc (i * 3))) = omega arith in
      let y : suc i * 3 + 1 ≡ suc (suc (suc (i * 3 + 1))) = omega arith in
      let z : suc i * 3 + 2 ≡ suc (suc (suc (i * 3 + 2))) = omega arith in
      rw (y, z, x) (words-at es d i (omega arith))

  pub words-record : (es : List E) (d : E) (i : ℕ) → i < length es → Record (words_of f es) (i * 3) (f (get_or es i d))
  words-record es d i h = record { whole = omega (arith, words-length es); is = words-at es d i h }

-- the records of a row of words are its words, where none are left over
words-chunks : (k : ℕ) (row : List ℕ) → length row ≡ k * 3 → words_of record_of (first_chunks 3 k row) ≡ row
unfolding words_of
words-chunks zero [] h = refl
words-chunks zero (a ∷ row) h = absurd (omega arith)
words-chunks (suc k) (a ∷ b ∷ c ∷ row) h = ap (λ (l : List ℕ). a ∷ b ∷ c ∷ l) (words-chunks k row (omega arith))
words-chunks (suc k) [] h = absurd (omega arith)
words-chunks (suc k) (a ∷ []) h = absurd (omega arith)
words-chunks (suc k) (a ∷ b ∷ []) h = absurd (omega arith)

edits-length : (es : List EditOf) → length (edit_words es) ≡ length es * 3
edits-length [] = refl
edits-length (e ∷ es) = omega (arith, edits-length es)

-- a row of words cut into records and the part that is left over
module _ (row part : List ℕ) (cut : length part ≡ length row % 3) where
  pub whole-words : length part ≡ 0 → {records : List (List ℕ)} → records ≡ first_chunks 3 (length row / 3) row → words_of record_of records ≡ row
  whole-words h e = rw e (words-chunks (length row / 3) row (omega (arith, div-add-mod' (length row) 3)))

  pub part-words : (length part ≡ 0 → ⊥) → (es : List EditOf) → edit_words es ≡ row → ⊥
  part-words h es e =
      let n : length row ≡ length es * 3 = ap length (sym e) ∙ edits-length es in
      h (cut ∙ ap (λ k. k % 3) n ∙ mul-mod_left (length es) 3)

-- the words of edits are cut into whole records
pub edits-words : (row : List ℕ) (es : List EditOf) → edit_words es ≡ row → {records : List (List ℕ)} → records ≡ first_chunks 3 (length row / 3) row → words_of record_of records ≡ row
edits-words row es e c = rw c (words-chunks (length row / 3) row (let m : length row % 3 ≡ 0 = ap (λ k. k % 3) (ap length (sym e) ∙ edits-length es) ∙ mul-mod_left (length es) 3 in omega (arith, div-add-mod' (length row) 3)))
