-- Edits in order, decided by a function that computes; a row of words has one list of edits.
use Rattle.std.specs.Prelude.{◌≡◌, List, [], ◌∷◌, ℕ, ◌+◌, length}
use Rattle.std.proofs.Math.Path.{refl}
use Rattle.std.proofs.Common.{ap, subst, arith}
use Rattle.std.proofs.Math.Option.{Option, none, some}
use Rattle.std.proofs.Math.Decide.{ℕ_discrete, dec_le, dec_lt}
use Rattle.definitions.specs.Sheet.{T}
use Rattle.definitions.specs.Tree.{Tok}
use Rattle.theory.specs.Decide.{and_d, map_d}
use Rattle.definitions.specs.Edits.{Edit, edit_words, Places, put_in, Codes, new_text, EditsInOrder}
use Rattle.definitions.specs.Answers.{TextInOrder}

abbrev cons_edit : Edit → Option (List Edit) → Option (List Edit)
cons_edit e none = none
cons_edit e (some es) = some (e ∷ es)

-- the edits of a row of words; none where a part of a record stands at the end
abbrev pub edits_of : List ℕ → Option (List Edit)
edits_of [] = some []
edits_of (a ∷ []) = none
edits_of (a ∷ b ∷ []) = none
edits_of (a ∷ b ∷ c ∷ row) = cons_edit (record { place = a; removed = b; put = c }) (edits_of row)

pub edits_of_lem : (es : List Edit) (row : List ℕ) → edit_words es ≡ row → edits_of row ≡ some es
edits_of_lem es row e = subst (λ (l : List ℕ). edits_of l ≡ some es) e (of es)
  where
    of : (es : List Edit) → edits_of (edit_words es) ≡ some es
    of [] = refl
    of (e ∷ es) = ap (cons_edit e) (of es)

pub of_edits : (row : List ℕ) {es : List Edit} → edits_of row ≡ some es → edit_words es ≡ row
of_edits [] {es} e = let z : es ≡ [] = cc in rw z refl
of_edits (a ∷ []) e = let z : ◌≡◌ {A = ℕ} 0 1 = cc in absurd (omega arith)
of_edits (a ∷ b ∷ []) e = let z : ◌≡◌ {A = ℕ} 0 1 = cc in absurd (omega arith)
of_edits (a ∷ b ∷ c ∷ row) {es} e = by (λ x z. of_edits row {es = x} z) (edits_of row) refl e
  where
    by : ((x : List Edit) → edits_of row ≡ some x → edit_words x ≡ row) → (o : Option (List Edit)) → edits_of row ≡ o → cons_edit (record { place = a; removed = b; put = c }) o ≡ some es → edit_words es ≡ a ∷ b ∷ c ∷ row
    by ih none q e = let z : ◌≡◌ {A = ℕ} 0 1 = cc in absurd (omega arith)
    by ih (some x) q e = let z : es ≡ record { place = a; removed = b; put = c } ∷ x = cc in rw (z, ih x q) refl

abbrev pub places_d : (from n : ℕ) (es : List Edit) → Dec (Places from n es)
places_d from n [] = yes tt
places_d from n (e ∷ es) =
    map_d (λ h. (h.0.0, h.0.1, h.1)) (λ h. ((h.0, h.1), h.2))
    (and_d (and_d (dec_le from e.place) (dec_le (e.place + e.removed) n)) (places_d (e.place + e.removed) n es))

abbrev pub codes_d : (n : ℕ) (codes : List ℕ) → Dec (Codes n codes)
codes_d n [] = yes tt
codes_d n (a ∷ codes) = map_d (λ h. (h.0.0, h.0.1, h.1)) (λ h. ((h.0, h.1), h.2)) (and_d (and_d (dec_lt 0 a) (dec_lt a n)) (codes_d n codes))

module _ (t : List ℕ) (old : List Tok) (row codes : List ℕ) where
  abbrev rules_d : (es : List Edit) → edit_words es ≡ row → Dec (EditsInOrder t old row codes es)
  rules_d es e =
      map_d (λ h. record { records = e; places = h.0.0.0; used = h.0.0.1; known = h.0.1; few = h.1 })
      (λ h. (((h.places, h.used), h.known), h.few))
      (and_d (and_d (and_d (places_d 0 (length old) es) (ℕ_discrete (put_in es) (length codes))) (codes_d (T t) codes)) (dec_le (length (new_text old es codes)) 2048))

  pub one_edits : {es fs : List Edit} → EditsInOrder t old row codes es → EditsInOrder t old row codes fs → es ≡ fs
  one_edits {es} {fs} E F = let a = edits_of_lem es row E.records in let b = edits_of_lem fs row F.records in cc

  found : {es : List Edit} → edits_of row ≡ some es → Dec (EditsInOrder t old row codes es) → Dec ((es : List Edit) × EditsInOrder t old row codes es)
  found {es} e (yes h) = yes (es, h)
  found {es} e (no h) = no (λ f. let a = edits_of_lem f.0 row f.1.records in let z : f.0 ≡ es = cc in h (rw z at f.1))

  pub none_in : edits_of row ≡ none → (es : List Edit) × EditsInOrder t old row codes es → ⊥
  none_in e f = let a = edits_of_lem f.0 row f.1.records in let z : ◌≡◌ {A = ℕ} 0 1 = cc in omega arith

  abbrev by : (o : Option (List Edit)) → edits_of row ≡ o → Dec ((es : List Edit) × EditsInOrder t old row codes es)
  by none e = no (none_in e)
  by (some es) e = found e (rules_d es (of_edits row e))

  unfoldable pub edits_in : Dec ((es : List Edit) × EditsInOrder t old row codes es)
  unfolding found
  edits_in = by (edits_of row) refl

-- a text in order, decided
unfoldable pub text_in : (t codes : List ℕ) (first : ℕ) → Dec (TextInOrder t codes first)
text_in t codes first =
    map_d (λ h. record { known = h.0.0; few = h.0.1; number = h.1 }) (λ h. ((h.known, h.few), h.number))
    (and_d (and_d (codes_d (T t) codes) (dec_le (length codes) 2048)) (dec_le 1 first))
