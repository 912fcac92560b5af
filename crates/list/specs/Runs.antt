-- The run of an entry: a piece's words in the old row, or one code of the inserted row.
use Rattle.std.specs.Prelude.{◌≡◌, refl, cond, List, [], ◌∷◌, ◌++◌, ℕ, zero, suc, ◌+◌, ◌-◌, ◌*◌, ◌≤◌, ◌<◌, ltb, min, length, get_or, take, drop}
use Rattle.std.proofs.Common.{sym, ap, ◌∙◌, append_assoc, append-nil, arith, length-drop, drop-cons, drop-drop, lt-ltb, le-ltb}
use Rattle.definitions.specs.Tree.{size, yield, look, NRow, ε, ntok, nnod, erase, words}
use Rattle.definitions.specs.Reading.{Tree}
use Rattle.theory.specs.Machine.Rows.{look-append}
use Rattle.theory.specs.Tree.Build.{Small}
use Rattle.tree.specs.Rows.{size_at, cells, stands_words}
use Rattle.tree.specs.Shaped.{Holds}
use Rattle.list.specs.Pieces.{Piece, root}

-- the entry's run lies within its row
pub record Fits (old put : List ℕ) (e : ℕ) : Type 0 where
  pub piece : e < 2048 → (2 + 3 * suc e ≤ length old) × (size_at old e ≤ suc e)
  pub code : 2048 ≤ e → e - 2048 < length put

abbrev pub run_of : List ℕ → List ℕ → ℕ → List ℕ
run_of old put e = cond (ltb e 2048) (take (3 * size_at old e) (drop (2 + 3 * suc e - 3 * size_at old e) old)) (take 1 (drop (e - 2048) put))

-- so many words from a place on
part-cells : (row : List ℕ) (i n : ℕ) → i + n ≤ length row → take n (drop i row) ≡ cells row i n
part-cells row i zero h = refl
part-cells row i (suc n) h =
    let e : drop i row ≡ get_or row i 0 ∷ drop (suc i) row = drop-cons row i 0 (omega arith) in
    ap (take (suc n)) e ∙ ap (get_or row i 0 ∷◌) (part-cells row (suc i) n (omega arith))

module _ {t old : List ℕ} (put : List ℕ) {v : ℕ} {x : Tree} (H : Holds old) (P : Piece t old v x) where
  pub piece-fits : v < 2048 → Fits old put v
  piece-fits l =
      let r = root P in
      record { piece = λ h. (omega (arith, r.within, H.1), omega (arith, r.many, P.ends)); code = λ h. absurd (omega arith) }

  -- a piece's words
  pub run-piece : v < 2048 → run_of old put v ≡ words P.row
  run-piece l =
      let r = root P in
      let n : size (erase P.row) ≡ size_at old v = ap size P.is ∙ sym r.many in
      let i : 2 + 3 * suc v - 3 * size_at old v ≡ 2 + 3 * P.start = omega (arith, P.ends, r.many) in
      rw (lt-ltb v 2048 l, i, ← n)
      (part-cells old (2 + 3 * P.start) (3 * size (erase P.row)) (omega (arith, r.within, H.1, P.ends, r.many)) ∙ stands_words old P.start P.row P.forest.stands)

module _ (old put : List ℕ) (k : ℕ) (h : k < length put) where
  pub code_fits : Fits old put (2048 + k)
  code_fits = record { piece = λ l. absurd (omega arith); code = λ l. omega arith }

  -- one code
  pub run-code : run_of old put (2048 + k) ≡ get_or put k 0 ∷ []
  run-code =
      let i : 2048 + k - 2048 ≡ k = omega arith in
      rw (le-ltb (2048 + k) 2048 (omega arith), i) (part-cells put k 1 (omega arith))

-- ---- the terminal of the first token among a run's records, 0 where there is none
abbrev pub first_of : List ℕ → ℕ
first_of [] = 0
first_of (k ∷ []) = cond (ltb k 256) k 0
first_of (k ∷ i ∷ []) = cond (ltb k 256) k 0
first_of (k ∷ i ∷ s ∷ l) = cond (ltb k 256) k (first_of l)

first_before : (p : NRow) (l : List ℕ) → Small p → first_of (words p ++ l) ≡ look (first_of l) (yield (erase p))
first_before ε l s = refl
first_before (ntok k i f) l s = rw (lt-ltb k 256 s.0) refl
first_before (nnod q i c f) l s =
    ap first_of (append_assoc (words c) ((256 + q) ∷ i ∷ suc (size (erase c)) ∷ words f) l)
    ∙ first_before c ((256 + q) ∷ i ∷ suc (size (erase c)) ∷ (words f ++ l)) s.0
    ∙ rw (le-ltb (256 + q) 256 (omega arith), first_before f l s.1, look-append) refl

pub first_words : (p : NRow) → Small p → first_of (words p) ≡ look 0 (yield (erase p))
first_words p s = ap first_of (sym (append-nil (words p))) ∙ first_before p [] s

-- from record to record
pub first_next : (l : List ℕ) (i : ℕ) → i < length l → first_of (drop i l) ≡ cond (ltb (get_or l i 0) 256) (get_or l i 0) (first_of (drop (i + 3) l))
first_next l i h = ap first_of (drop-cons l i 0 h) ∙ by (drop (suc i) l) (ap (λ (n : ℕ). drop n l) a ∙ sym (drop-drop 2 (suc i) l))
  where
    a : i + 3 ≡ suc i + 2
    a = omega arith

    by : (m : List ℕ) → drop (i + 3) l ≡ drop 2 m → first_of (get_or l i 0 ∷ m) ≡ cond (ltb (get_or l i 0) 256) (get_or l i 0) (first_of (drop (i + 3) l))
    by [] e = ap (λ (n : List ℕ). cond (ltb (get_or l i 0) 256) (get_or l i 0) (first_of n)) (sym e)
    by (x ∷ []) e = ap (λ (n : List ℕ). cond (ltb (get_or l i 0) 256) (get_or l i 0) (first_of n)) (sym e)
    by (x ∷ y ∷ m) e = ap (λ (n : List ℕ). cond (ltb (get_or l i 0) 256) (get_or l i 0) (first_of n)) (sym e)

pub first_none : (l : List ℕ) (i : ℕ) → length l ≤ i → first_of (drop i l) ≡ 0
first_none l i h = by (drop i l) (omega (arith, length-drop i l))
  where
    by : (m : List ℕ) → length m ≡ 0 → first_of m ≡ 0
    by [] k = refl
    by (x ∷ m) k = absurd (omega arith)

-- the next record of a run, whole or not, and those behind it
pub first_record : (x l : List ℕ) → length x ≡ min 3 (length (x ++ l)) → 0 < length (x ++ l)
    → first_of (x ++ l) ≡ cond (ltb (get_or x 0 0) 256) (get_or x 0 0) (first_of l)
first_record [] l e h = absurd (omega arith)
first_record (k ∷ []) [] e h = refl
first_record (k ∷ []) (y ∷ l) e h = absurd (omega arith)
first_record (k ∷ i ∷ []) [] e h = refl
first_record (k ∷ i ∷ []) (y ∷ l) e h = absurd (omega arith)
first_record (k ∷ i ∷ s ∷ []) l e h = refl
first_record (k ∷ i ∷ s ∷ y ∷ x) l e h = absurd (omega arith)
