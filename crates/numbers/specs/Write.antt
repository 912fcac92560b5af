-- The tree's words off the room's records: each has the number that it keeps, or the next one upward in written order.
use Rattle.std.specs.Prelude.{◌≡◌, refl, List, [], ◌∷◌, ◌++◌, ℕ, zero, suc, ◌+◌, ◌*◌, ◌≤◌, ◌<◌, length, take, drop, set}
use Rattle.std.proofs.Common.{sym, ap, ◌∙◌, append_assoc, append-nil, add-zero, add-one, arith, length-append, take-append-drop, length-take-le}
use Rattle.std.proofs.Math.Option.{Option, none, some}
use Rattle.std.proofs.Math.Decide.{dec_lt}
use Rattle.theory.specs.Records.Flat.{Word}
use Rattle.theory.specs.Records.Words.{assign, raised}
use Rattle.machine.specs.Room.{kind_w, size_w}
use Rattle.reading.specs.Write.{append3}
use Rattle.numbers.specs.Records.{kind_of, number_of, size_of}
use Rattle.numbers.specs.Back.{Codes}

-- of a number word: 1 where a new number is to be given; the number that is written, with the next new one at hand
abbrev pub is_new : ℕ → ℕ
is_new zero = 1
is_new (suc i) = 0

abbrev pub chosen : ℕ → ℕ → ℕ
chosen zero a = a
chosen (suc i) a = suc i

-- how many of the first j records get a new number
unfoldable pub news : List ℕ → ℕ → ℕ
news R zero = 0
news R (suc j) = news R j + is_new (number_of R j)

-- the words of the first j records, new numbers from a upward
unfoldable pub rows : ℕ → List ℕ → ℕ → List ℕ
rows a R zero = []
rows a R (suc j) = rows a R j ++ (kind_of R j ∷ chosen (number_of R j) (a + news R j) ∷ size_of R j ∷ [])

new_le : (x : ℕ) → is_new x ≤ 1
new_le zero = omega arith
new_le (suc x) = omega arith

pub news-none : (R : List ℕ) → news R 0 ≡ 0
unfolding news
news-none R = refl

pub news-more : (R : List ℕ) (j : ℕ) → news R (j + 1) ≡ news R j + is_new (number_of R j)
unfolding news
news-more R j = rw (add-one j) refl

pub news_few : (R : List ℕ) (j : ℕ) → news R j ≤ j
unfolding news
news_few R zero = omega arith
news_few R (suc j) = omega (arith, news_few R j, new_le (number_of R j))

pub news_le : (R : List ℕ) (j n : ℕ) → j ≤ n → news R j ≤ news R n
unfolding news
news_le R zero n h = omega arith
news_le R (suc j) zero h = absurd (omega arith)
news_le R (suc j) (suc n) h = by (dec_lt j n) (λ l. news_le R (suc j) n l)
  where
    by : Dec (j < n) → (suc j ≤ n → news R (suc j) ≤ news R n) → news R (suc j) ≤ news R (suc n)
    by (yes l) k = omega (arith, k l)
    by (no l) k = let z : j ≡ n = omega arith in rw z (omega arith)

pub length-rows : (a : ℕ) (R : List ℕ) (j : ℕ) → length (rows a R j) ≡ 3 * j
unfolding rows
length-rows a R zero = refl
length-rows a R (suc j) = simp length-append (omega (arith, length-rows a R j))

-- ---- the loop that writes: the first j records over a tree whose first two words stand
abbrev pub sofar : ℕ → List ℕ → List ℕ → ℕ → List ℕ
sofar a R t j = (take 2 t ++ rows a R j) ++ drop (2 + 3 * j) t

pub row_more : (a : ℕ) (R t : List ℕ) (j : ℕ) → 2 + 3 * j + 3 ≤ length t
    → set (set (set (sofar a R t j) (2 + 3 * j) (kind_of R j)) (2 + 3 * j + 1) (chosen (number_of R j) (a + news R j))) (2 + 3 * j + 2) (size_of R j) ≡ sofar a R t (j + 1)
unfolding rows
row_more a R t j h =
    let e : length (take 2 t ++ rows a R j) ≡ 2 + 3 * j = simp length-append (omega (arith, length-rows a R j, length-take-le 2 t (omega arith))) in
    let d : 2 + 3 * j + 3 ≡ 2 + 3 * suc j = omega arith in
    append3 (take 2 t ++ rows a R j) t (2 + 3 * j) _ _ _ e h ∙ rw (add-one j, d) (ap (◌++ drop (2 + 3 * suc j) t) (append_assoc (take 2 t) (rows a R j) _))

pub sofar-none : (a : ℕ) (R t : List ℕ) → t ≡ sofar a R t 0
unfolding rows
sofar-none a R t = sym (take-append-drop 2 t) ∙ ap (◌++ drop 2 t) (sym (append-nil (take 2 t)))

-- n records written over a tree: count, next number, records
abbrev pub inscribed : ℕ → List ℕ → ℕ → List ℕ → List ℕ
inscribed a R n tree = (n ∷ (a + news R n) ∷ rows a R n) ++ drop (2 + 3 * n) tree

pub sofar_all : (a : ℕ) (R t : List ℕ) (n : ℕ) → 2 ≤ length t → sofar a R (set (set t 0 n) 1 (a + news R n)) n ≡ inscribed a R n t
sofar_all a R [] n h = absurd (omega arith)
sofar_all a R (x ∷ []) n h = absurd (omega arith)
sofar_all a R (x ∷ y ∷ t) n h = let e : 2 + 3 * n ≡ suc (suc (3 * n)) = omega arith in rw e refl

-- ---- the same by what each record keeps
abbrev pub weave : List Word → List ℕ → List ℕ
weave [] l = []
weave (w ∷ ws) [] = []
weave (w ∷ ws) (i ∷ l) = kind_w w ∷ i ∷ size_w w ∷ weave ws l

-- kinds and sizes of the records from p on
abbrev pub Forms : List ℕ → ℕ → List Word → Type 0
Forms R p [] = Unit {0}
Forms R p (w ∷ ws) = ((kind_of R p ≡ kind_w w) × (size_of R p ≡ size_w w)) × Forms R (suc p) ws

pub kept_one : (i a : ℕ) → 0 < i → (chosen i a ≡ i) × (is_new i ≡ 0)
kept_one zero a h = absurd (omega arith)
kept_one (suc i) a h = (refl, refl)

rows_from : (x : ℕ) (R : List ℕ) (k : ℕ) (ws : List Word) (a : List (Option ℕ)) → length ws ≡ length a → Forms R k ws → Codes R k a
    → (rows x R (k + length a) ≡ rows x R k ++ weave ws (assign a (x + news R k))) × (x + news R (k + length a) ≡ raised a (x + news R k))
unfolding rows news
rows_from x R k [] [] h F C = (rw add-zero (sym (append-nil (rows x R k))), rw add-zero refl)
rows_from x R k [] (o ∷ a) h F C = absurd (omega arith)
rows_from x R k (w ∷ ws) [] h F C = absurd (omega arith)
rows_from x R k (w ∷ ws) (none ∷ a) h F C =
    let I = rows_from x R (suc k) ws a (omega arith) F.1 C.1 in
    let s : k + suc (length a) ≡ suc k + length a = omega arith in
    let p = F.0.0 in
    let q = F.0.1 in
    let z = C.0 in
    let u : x + (news R k + 1) ≡ suc (x + news R k) = omega arith in (
      ap (rows x R) s ∙ I.0 ∙ rw (p, q, z, u) (append_assoc (rows x R k) (kind_w w ∷ (x + news R k) ∷ size_w w ∷ []) (weave ws (assign a (suc (x + news R k))))),
      ap (λ (i : ℕ). x + news R i) s ∙ I.1 ∙ rw (z, u) refl,
    )
rows_from x R k (w ∷ ws) (some i ∷ a) h F C =
    let I = rows_from x R (suc k) ws a (omega arith) F.1 C.1 in
    let s : k + suc (length a) ≡ suc k + length a = omega arith in
    let p = F.0.0 in
    let q = F.0.1 in
    let z = C.0.0 in
    let y = kept_one i (x + news R k) C.0.1 in
    let y0 = y.0 in
    let y1 = y.1 in
    let u : x + (news R k + 0) ≡ x + news R k = omega arith in (
      ap (rows x R) s ∙ I.0 ∙ rw (p, q, z, y0, y1, u) (append_assoc (rows x R k) (kind_w w ∷ i ∷ size_w w ∷ []) (weave ws (assign a (x + news R k)))),
      ap (λ (j : ℕ). x + news R j) s ∙ I.1 ∙ rw (z, y1, u) refl,
    )

pub rows_all : (x : ℕ) (R : List ℕ) (n : ℕ) (ws : List Word) (a : List (Option ℕ)) → length ws ≡ n → length a ≡ n → Forms R 0 ws → Codes R 0 a
    → (rows x R n ≡ weave ws (assign a x)) × (x + news R n ≡ raised a x)
unfolding rows news
rows_all x R n ws a h l F C =
    let z : 0 + length a ≡ n = omega arith in
    let y : x + 0 ≡ x = omega arith in
    let r = rows_from x R 0 ws a (omega arith) F C in
    (rw (z, y) at r.0, rw (z, y) at r.1)
