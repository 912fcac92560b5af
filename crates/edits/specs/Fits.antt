-- Edits read off a row of words, record by record: what holds of the records passed, and what that says of the row.
use Rattle.std.specs.Prelude.{◌≡◌, refl, Option, Some, None, List, [], ◌∷◌, ℕ, suc, ◌+◌, ◌-◌, ◌≤◌, ◌<◌, length, get_or, drop}
use Rattle.std.proofs.Common.{sym, ap, ◌∙◌, arith, length-drop, drop-cons}
use Rattle.std.proofs.Math.Decide.{dec_le}
use Rattle.std.proofs.Math.Seq.{drop-length}
use Rattle.definitions.specs.Edits.{Edit, edit_words, Places, put_in}
use Rattle.theory.specs.Edits.EditsD.{edits_of_lem}
use Rattle.edits.specs.Before.{removals}
use Rattle.edits.specs.declared.Walk.{Walk}

-- "a record of place, tokens removed, tokens put in": the three words from word i on
abbrev pub place_at : List ℕ → ℕ → ℕ
place_at row i = get_or row i 0

abbrev pub removed_at : List ℕ → ℕ → ℕ
removed_at row i = get_or row (i + 1) 0

abbrev pub put_in_at : List ℕ → ℕ → ℕ
put_in_at row i = get_or row (i + 2) 0

abbrev pub edit_at : List ℕ → ℕ → Edit
edit_at row i = record { place = place_at row i; removed = removed_at row i; put = put_in_at row i }

-- the words are those of es, which stand in order behind `from` in n old tokens and use `left` codes
pub record Fits (from n left : ℕ) (row : List ℕ) (es : List Edit) : Type 0 where
  pub records : edit_words es ≡ row
  pub places : Places from n es
  pub used : put_in es ≡ left

-- the record at word i is whole, and e
pub record Record (row : List ℕ) (i : ℕ) (e : Edit) : Type 0 where
  pub whole : i + 3 ≤ length row
  pub is : edit_at row i ≡ e

-- the edit stands behind `from` in n old tokens and uses at most `left` codes
pub record Fit (from n left : ℕ) (e : Edit) : Type 0 where
  pub behind : from ≤ e.place
  pub within : e.place + e.removed ≤ n
  pub few : e.put ≤ left

-- the record at word i is whole and fits
pub record Next (row : List ℕ) (i from n left : ℕ) : Type 0 where
  pub whole : i + 3 ≤ length row
  pub fit : Fit from n left (edit_at row i)

-- a row of words has one list of edits
pub one-row : (row : List ℕ) {es fs : List Edit} → edit_words es ≡ row → edit_words fs ≡ row → es ≡ fs
one-row row {es} {fs} e f = let a = edits_of_lem es row e in let b = edits_of_lem fs row f in cc

-- the record at word i and the words after it
pub drop-edit : (row : List ℕ) (i : ℕ) → i + 3 ≤ length row → drop i row ≡ place_at row i ∷ removed_at row i ∷ put_in_at row i ∷ drop (i + 3) row
drop-edit row i h =
    let x : suc i ≡ i + 1 = omega arith in
    let y : suc (i + 1) ≡ i + 2 = omega arith in
    let z : suc (i + 2) ≡ i + 3 = omega arith in
    let a = drop-cons row i 0 (omega arith) in
    let b = drop-cons row (i + 1) 0 (omega arith) in
    let c = drop-cons row (i + 2) 0 (omega arith) in
    cc

-- a row's first edit is its first record
module _ (row : List ℕ) (i from n left : ℕ) (more : i < length row) where
  pub fits_next : (es : List Edit) → Fits from n left (drop i row) es
      → Next row i from n left × ((fs : List Edit) × (es ≡ edit_at row i ∷ fs) × Fits (place_at row i + removed_at row i) n (left - put_in_at row i) (drop (i + 3) row) fs)
  fits_next [] F = absurd (omega (arith, ap length F.records, length-drop i row))
  fits_next (e ∷ fs) F =
      let h : i + 3 ≤ length row = omega (arith, ap length F.records, length-drop i row) in
      let d = F.records ∙ drop-edit row i h in
      let a : e.place ≡ place_at row i = cc in
      let b : e.removed ≡ removed_at row i = cc in
      let c : e.put ≡ put_in_at row i = cc in
      let r : edit_words fs ≡ drop (i + 3) row = cc in
      let p = F.places in let p0 = p.0 in let p1 = p.1 in
      let u = F.used in
      let q : Places (place_at row i + removed_at row i) n fs = rw (a, b) at p.2 in
      (record { whole = h; fit = record { behind = omega arith; within = omega arith; few = omega arith } }, (fs, rw (← a, ← b, ← c) refl, record { records = r; places = q; used = omega arith }))

  pub next_fits : Next row i from n left → (fs : List Edit) → Fits (place_at row i + removed_at row i) n (left - put_in_at row i) (drop (i + 3) row) fs
      → Fits from n left (drop i row) (edit_at row i ∷ fs)
  next_fits N fs F =
      let d = drop-edit row i N.whole in
      let r = F.records in
      let u = F.used in let v = N.fit.few in
      record { records = cc; places = (N.fit.behind, N.fit.within, F.places); used = omega arith }

-- a row without words has no edits
pub fits-none : (from n left : ℕ) (row : List ℕ) (es : List Edit) → Fits from n left (drop (length row) row) es → es ≡ []
fits-none from n left row [] F = refl
fits-none from n left row (e ∷ es) F = absurd (omega (arith, ap length F.records, ap length (drop-length row)))

-- ---- the walk over the row
-- the first i words are records in order that end at `from`, use `used` codes of `left` and remove `out` tokens
pub record Walking (row : List ℕ) (n left i from used out : ℕ) : Type 0 where
  pub some : used ≤ left
  pub low : out ≤ from
  pub high : from ≤ n
  pub to : (es : List Edit) → Fits from n (left - used) (drop i row) es → (fs : List Edit) × Fits 0 n left row fs × (removals fs ≡ out + removals es)
  pub back : (fs : List Edit) → Fits 0 n left row fs → (es : List Edit) × Fits from n (left - used) (drop i row) es

walk_begin : (row : List ℕ) (n left : ℕ) → Walking row n left 0 0 0 0
walk_begin row n left =
    let z : left - 0 ≡ left = omega arith in
    record {
      some = omega arith;
      low = omega arith;
      high = omega arith;
      to = λ es F. (es, rw z at F, omega arith);
      back = λ fs F. (fs, rw z F);
    }

module _ {row : List ℕ} {n left i from used out : ℕ} (W : Walking row n left i from used out) where
  walk-on : i < length row → Next row i from n (left - used)
      → Walking row n left (i + 3) (place_at row i + removed_at row i) (used + put_in_at row i) (out + removed_at row i)
  walk-on h N =
      let f = N.fit in
      let a = N.whole in let b = f.behind in let c = f.within in let d = f.few in
      let l = W.low in let s = W.some in
      let z : left - used - put_in_at row i ≡ left - (used + put_in_at row i) = omega arith in
      record {
        some = omega arith;
        low = omega arith;
        high = c;
        to = λ es F.
            let t = W.to (edit_at row i ∷ es) (next_fits row i from n (left - used) h N es (rw z F)) in
            (t.0, t.1, omega (arith, t.2));
        back = λ fs F.
            let t = W.back fs F in
            let k = (fits_next row i from n (left - used) h t.0 t.1).1 in
            (k.0, rw z at k.2);
      }

-- ---- edit by edit
-- the walk r is w with the edit e more, of n old tokens and `left` codes; none where e breaks the rules
pub record Passes (n left : ℕ) (w : Walk) (e : Edit) (r : Option Walk) : Type 0 where
  pub fit : Fit w.from n (left - w.used) e → r ≡ Some (record { from = e.place + e.removed; used = w.used + e.put; out = w.out + e.removed })
  pub unfit : (Fit w.from n (left - w.used) e → ⊥) → r ≡ None

-- w is the walk over the first i words of the row
abbrev pub Walked : List ℕ → ℕ → ℕ → ℕ → Walk → Type 0
Walked row n left i w = Walking row n left i w.from w.used w.out

-- the walk over the first i words of the row; none where the row's words are no edits in order
abbrev pub Passed : List ℕ → ℕ → ℕ → ℕ → Option Walk → Type 0
Passed row n left i (Some w) = Walked row n left i w
Passed row n left i None = (es : List Edit) → Fits 0 n left row es → ⊥

pub passed_none : (row : List ℕ) (n left : ℕ) → Passed row n left 0 (Some (record { from = 0; used = 0; out = 0 }))
passed_none row n left = walk_begin row n left

dec_fit : (from n left : ℕ) (e : Edit) → Dec (Fit from n left e)
dec_fit from n left e = by (dec_le from e.place) (dec_le (e.place + e.removed) n) (dec_le e.put left)
  where
    by : Dec (from ≤ e.place) → Dec (e.place + e.removed ≤ n) → Dec (e.put ≤ left) → Dec (Fit from n left e)
    by (yes a) (yes b) (yes c) = yes (record { behind = a; within = b; few = c })
    by (yes a) (yes b) (no c) = no (λ F. c F.few)
    by (yes a) (no b) c = no (λ F. b F.within)
    by (no a) b c = no (λ F. a F.behind)

module _ {row : List ℕ} {n left i : ℕ} {w : Walk} (P : Walked row n left i w) where
  -- edits in order have the record at word i
  passed_next : i < length row → (es : List Edit) → Fits 0 n left row es → Next row i w.from n (left - w.used)
  passed_next h es F = let t = P.back es F in (fits_next row i w.from n (left - w.used) h t.0 t.1).0

  pub passed_on : {e : Edit} → Record row i e → {r : Option Walk} → Passes n left w e r → Passed row n left (i + 3) r
  passed_on E {r} S' = by (rw (← E.is) at S') (dec_fit w.from n (left - w.used) (edit_at row i))
    where
      h : i + 3 ≤ length row
      h = E.whole

      by : Passes n left w (edit_at row i) r → Dec (Fit w.from n (left - w.used) (edit_at row i)) → Passed row n left (i + 3) r
      by S (yes f) = rw (S.fit f) (walk-on P (omega arith) (record { whole = h; fit = f }))
      by S (no f) = rw (S.unfit f) (λ es F. f (passed_next (omega arith) es F).fit)

  -- a part of a record at the end
  pub passed_part : i < length row → length row < i + 3 → {r : Option Walk} → r ≡ None → Passed row n left (length row) r
  passed_part h k e = rw e (λ es F. let a = (passed_next h es F).whole in omega arith)

-- all words are walked
module _ {row : List ℕ} {n left : ℕ} {w : Walk} (P : Walked row n left (length row) w) where
  pub passed_fits : w.used ≡ left → (es : List Edit) × Fits 0 n left row es × (removals es ≡ w.out)
  passed_fits u =
      let t = P.to [] (record { records = sym (drop-length row); places = tt; used = omega arith }) in
      (t.0, t.1, omega (arith, t.2))

  pub fits_passed : (es : List Edit) → Fits 0 n left row es → (w.used ≡ left) × (removals es ≡ w.out)
  fits_passed es F =
      let t = P.back es F in
      let s = P.some in
      let z : t.0 ≡ [] = fits-none w.from n (left - w.used) row t.0 t.1 in
      let u : w.used ≡ left = omega (arith, t.1.used, ap put_in z) in
      let g = passed_fits u in
      let y : es ≡ g.0 = one-row row F.records g.1.records in
      (u, ap removals y ∙ g.2)
