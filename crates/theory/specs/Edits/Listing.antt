-- The reading list made from the marks is document 01's: the largest clean pieces and the inserted tokens, in text order, and there is
-- no other such list.
use Rattle.std.specs.Prelude.{◌≡◌, refl, Bool, true, false, List, [], ◌∷◌, ◌++◌, ℕ, zero, suc, ◌+◌, ◌≤◌, ◌<◌, length}
use Rattle.std.proofs.Common.{sym, ap, ◌∙◌, append_assoc, arith}
use Rattle.std.proofs.lemmas.Bool.{false≢true}
use Rattle.definitions.specs.Tree.{Tok, mk, ident, Row, ∅, tok, nod, ◌⧺◌, yield, row}
use Rattle.definitions.specs.Moves.{pick}
use Rattle.definitions.specs.Edits.{Edit, Mark, mark, edited, marks, put_at, new_text, Clean, Largest, none, stays, goes, whole, parts, olds, ReadingList}
use Rattle.theory.specs.Edits.FromMarks.{skip, lead, clean, whole?, pieces, reading_list}
use Rattle.theory.specs.Edits.Edited.{edited-append, clean_is, yield-list}
use Rattle.theory.specs.Edits.Clean.{clean_so, so_clean}
use Rattle.theory.specs.Numbers.Identities.{cnt, cnt-append, cnt-edited, Blank, Blanks, Old, blank_skip, blank_lead, blank_marks, blank_put, cnt_blank}
use Rattle.theory.specs.Machine.Rows.{append-∅}

olds-row : (i : List Tok) (f : Row) → Blank i → olds (row i ⧺ f) ≡ olds f
olds-row [] f b = refl
olds-row (mk k zero ∷ i) f b = olds-row i f b.1
olds-row (mk k (suc n) ∷ i) f b = absurd (omega (arith, b.0))

olds-append : (f g : Row) → olds (f ⧺ g) ≡ olds f ⧺ olds g
olds-append ∅ g = refl
olds-append (tok (mk k zero) f) g = olds-append f g
olds-append (tok (mk k (suc i)) f) g = ap (tok (mk k (suc i))) (olds-append f g)
olds-append (nod q c f) g = ap (nod q c) (olds-append f g)

olds_old : (x : Tok) (f : Row) → 0 < ident x → olds (tok x f) ≡ tok x (olds f)
olds_old (mk k zero) f h = absurd (omega arith)
olds_old (mk k (suc i)) f h = refl

old_left : (u v : List Tok) → Old (u ++ v) → Old u
old_left [] v o = tt
old_left (x ∷ u) v o = (o.0, old_left u v o.1)

old_right : (u v : List Tok) → Old (u ++ v) → Old v
old_right [] v o = o
old_right (x ∷ u) v o = old_right u v o.1

not_clean : {text : List Tok} → Clean text [] → ⊥
not_clean c = omega (arith, c.some)

no_tokens : (f : Row) (ms : List Mark) → yield f ≡ [] → pieces f ms ≡ ∅
no_tokens ∅ ms e = refl
no_tokens (tok x f) ms e = let z : ◌≡◌ {A = ℕ} 0 1 = cc in absurd (omega arith)
no_tokens (nod q c f) ms e = by (λ z. no_tokens f ms z) (yield c) refl
  where
    by : (yield f ≡ [] → pieces f ms ≡ ∅) → (u : List Tok) → yield c ≡ u
        → pick u (pieces f ms) (whole? (clean u ms) (row (lead ms) ⧺ nod q c (pieces f (skip u ms))) (pieces c ms ⧺ pieces f (skip u ms))) ≡ ∅
    by k [] z = k (rw z at e)
    by k (x ∷ u) z = let e' = rw z at e in let y : ◌≡◌ {A = ℕ} 0 1 = cc in absurd (omega arith)

-- the row's pieces in their text: a stands before them, b behind
module _ (text : List Tok) where
  abbrev Goal : Row → Type 0
  Goal f = (ms : List Mark) (a b : List Tok) → text ≡ a ++ (edited (yield f) ms ++ b) → Old (yield f) → Blanks ms
      → ((i : ℕ) → 0 < i → cnt i a + (cnt i (yield f) + cnt i b) ≤ 1) → Largest text f (olds (pieces f ms))

  -- a clean run of tokens and what follows it
  past : (x : Tok) (u v : List Tok) (ms : List Mark) (a b : List Tok) → clean (x ∷ u) ms ≡ true → text ≡ a ++ (edited ((x ∷ u) ++ v) ms ++ b)
      → text ≡ (a ++ (lead ms ++ (x ∷ u))) ++ (edited v (skip (x ∷ u) ms) ++ b)
  past x u v ms a b e is =
      is ∙ rw (edited-append (x ∷ u) v ms, clean_is x u ms e) (simp append_assoc)

  stay : (x : Tok) (f : Row) → Goal f → (ms : List Mark) (a b : List Tok) → clean (x ∷ []) ms ≡ true → text ≡ a ++ (edited (x ∷ yield f) ms ++ b) → Old (x ∷ yield f) → Blanks ms
      → ((i : ℕ) → 0 < i → cnt i a + (cnt i (x ∷ yield f) + cnt i b) ≤ 1) → Largest text (tok x f) (tok x (olds (pieces f (skip (x ∷ []) ms))))
  stay x f ih ms a b e is o k d =
      let v = yield f in
      let m = skip (x ∷ []) ms in
      let at : text ≡ a ++ (edited (x ∷ []) ms ++ (edited v m ++ b)) = is ∙ rw (edited-append (x ∷ []) v ms) (simp append_assoc) in
      stays
      (clean_so text a (edited v m ++ b) x [] ms at (o.0, tt) k
      (λ i h. omega (arith, cnt-append i (edited v m) b, cnt-edited i v m h (blank_skip (x ∷ []) ms k), d i h)) e)
      (ih m (a ++ (lead ms ++ (x ∷ []))) b (past x [] v ms a b e is) o.1 (blank_skip (x ∷ []) ms k)
      (λ i h. omega (arith, cnt-append i a (lead ms ++ (x ∷ [])), cnt-append i (lead ms) (x ∷ []), cnt_blank i (lead ms) h (blank_lead ms k), d i h)))

  largest : (f : Row) → Goal f
  largest ∅ ms a b is o k d = none
  largest (tok x f) [] a b is o k d = rw (olds_old x (pieces f []) o.0) (stay x f (largest f) [] a b refl is o k d)
  largest (tok x f) (mark i true ∷ ms) a b is o k d =
      rw (olds-row i (tok x (pieces f ms)) k.0, olds_old x (pieces f ms) o.0) (stay x f (largest f) (mark i true ∷ ms) a b refl is o k d)
  largest (tok x f) (mark i false ∷ ms) a b is o k d =
      let v = yield f in
      let at : text ≡ a ++ (edited (x ∷ []) (mark i false ∷ ms) ++ (edited v ms ++ b)) = is ∙ rw (edited-append (x ∷ []) v (mark i false ∷ ms)) (simp append_assoc) in
      rw (olds-row i (pieces f ms) k.0)
      (goes
      (λ c. false≢true (so_clean text a (edited v ms ++ b) x [] (mark i false ∷ ms) at (o.0, tt) k
      (λ j h. omega (arith, cnt-append j (edited v ms) b, cnt-edited j v ms h k.1, d j h)) c))
      (largest f ms (a ++ i) b (is ∙ simp append_assoc) o.1 k.1
      (λ j h. omega (arith, cnt-append j a i, cnt_blank j i h k.0, d j h))))
  largest (nod q c f) ms a b is o k d = by (yield c) refl (inner (largest c)) (λ u z. later (largest f) u z)
    where
      v : List Tok
      v = yield f

      m : List Mark
      m = skip (yield c) ms

      counts : (i : ℕ) → 0 < i → cnt i a + ((cnt i (yield c) + cnt i v) + cnt i b) ≤ 1
      counts i h = omega (arith, d i h, cnt-append i (yield c) v)

      split : text ≡ a ++ (edited (yield c) ms ++ (edited v m ++ b))
      split = is ∙ rw (edited-append (yield c) v ms) (simp append_assoc)

      behind : (i : ℕ) → 0 < i → cnt i (edited v m ++ b) ≤ cnt i v + cnt i b
      behind i h = omega (arith, cnt-append i (edited v m) b, cnt-edited i v m h (blank_skip (yield c) ms k))

      inner : Goal c → Largest text c (olds (pieces c ms))
      inner kc = kc ms a (edited v m ++ b) split (old_left (yield c) v o) k (λ i h. omega (arith, counts i h, behind i h))

      later : Goal f → (a' : List Tok) → text ≡ a' ++ (edited v m ++ b) → ((i : ℕ) → 0 < i → cnt i a' ≤ cnt i a + cnt i (yield c)) → Largest text f (olds (pieces f m))
      later kf a' e g = kf m a' b e (old_right (yield c) v o) (blank_skip (yield c) ms k) (λ i h. omega (arith, counts i h, g i h))

      by : (u : List Tok) → yield c ≡ u → Largest text c (olds (pieces c ms))
          → ((a' : List Tok) → text ≡ a' ++ (edited v m ++ b) → ((i : ℕ) → 0 < i → cnt i a' ≤ cnt i a + cnt i (yield c)) → Largest text f (olds (pieces f m)))
          → Largest text (nod q c f) (olds (pick u (pieces f ms) (whole? (clean u ms) (row (lead ms) ⧺ nod q c (pieces f (skip u ms))) (pieces c ms ⧺ pieces f (skip u ms)))))
      by [] z kc kf =
          let e : text ≡ a ++ (edited v m ++ b) = split ∙ rw z refl in
          let lc : Largest text c ∅ = rw (no_tokens c ms z) at kc in
          let lf = kf a e (λ i h. omega arith) in
          parts {c = c} (λ w. not_clean (rw z at w)) lc (rw z at lf)
      by (x ∷ u) z kc kf = on (clean (x ∷ u) ms) refl
        where
          is' : text ≡ a ++ (edited (x ∷ u) ms ++ (edited v m ++ b))
          is' = split ∙ rw z refl

          o' : Old (x ∷ u)
          o' = rw z at (old_left (yield c) v o)

          d' : (i : ℕ) → 0 < i → cnt i a + (cnt i (x ∷ u) + cnt i (edited v m ++ b)) ≤ 1
          d' i h = omega (arith, counts i h, behind i h, ap (cnt i) z)

          on : (w : Bool) → clean (x ∷ u) ms ≡ w
              → Largest text (nod q c f) (olds (whole? w (row (lead ms) ⧺ nod q c (pieces f (skip (x ∷ u) ms))) (pieces c ms ⧺ pieces f (skip (x ∷ u) ms))))
          on true e =
              let C : Clean text (yield c) = rw z (clean_so text a (edited v m ++ b) x u ms is' o' k d' e) in
              let at : text ≡ (a ++ (lead ms ++ (x ∷ u))) ++ (edited v m ++ b) = is' ∙ rw (clean_is x u ms e) (simp append_assoc) in
              let lf = kf (a ++ (lead ms ++ (x ∷ u))) at
              (λ i h. omega (arith, cnt-append i a (lead ms ++ (x ∷ u)), cnt-append i (lead ms) (x ∷ u), cnt_blank i (lead ms) h (blank_lead ms k), ap (cnt i) z)) in
              rw (olds-row (lead ms) (nod q c (pieces f (skip (x ∷ u) ms))) (blank_lead ms k)) (whole {c = c} C (rw z at lf))
          on false e =
              let lf = kf (a ++ edited (yield c) ms) (split ∙ simp append_assoc)
              (λ i h. omega (arith, cnt-append i a (edited (yield c) ms), cnt-edited i (yield c) ms h k)) in
              let N : Clean text (yield c) → ⊥ = λ w. let w' : Clean text (x ∷ u) = rw z at w in false≢true (sym e ∙ so_clean text a (edited v m ++ b) x u ms is' o' k d' w') in
              rw (olds-append (pieces c ms) (pieces f (skip (x ∷ u) ms))) (parts {c = c} N kc (rw z at lf))

-- the old tree's tokens have identities, no two the same
pub record Distinct (u : List Tok) : Type 0 where
  pub old : Old u
  pub once : (i : ℕ) → 0 < i → cnt i u ≤ 1

pub list_right : (old : Row) (es : List Edit) (codes : List ℕ) → Distinct (yield old) → ReadingList (new_text (yield old) es codes) old (reading_list old es codes)
list_right old es codes D =
    record {
      pieces = rw (olds-append (pieces old ms) (row more), olds_all) (rw append-∅
          (largest (new_text (yield old) es codes) old ms [] more refl D.old (blank_marks 0 n es codes)
          (λ i h. omega (arith, D.once i h, cnt_blank i more h (blank_put n es codes)))));
      order = yield-list old es codes;
    }
  where
    n : ℕ
    n = length (yield old)

    ms : List Mark
    ms = marks 0 n es codes

    more : List Tok
    more = put_at n es codes

    olds_all : olds (row more) ≡ ∅
    olds_all = sym (ap olds (append-∅ (row more))) ∙ olds-row more ∅ (blank_put n es codes)

-- ---- there is no other such list
one_largest : {text : List Tok} {f g h : Row} → Largest text f g → Largest text f h → g ≡ h
one_largest none none = refl
one_largest (stays {x = x} c r) (stays d s) = ap (tok x) (one_largest r s)
one_largest (stays c r) (goes n s) = absurd (n c)
one_largest (goes n r) (stays d s) = absurd (n d)
one_largest (goes n r) (goes m s) = one_largest r s
one_largest (whole {q = q} {c = k} c r) (whole d s) = ap (nod q k) (one_largest r s)
one_largest (whole c r) (parts n s t) = absurd (n c)
one_largest (parts n s t) (whole c r) = absurd (n c)
one_largest (parts {g = g} {h = h} n r t) (parts m s u) = let a = one_largest r s in let b = one_largest t u in cc

-- each piece of a list has tokens, and the first is an old one
abbrev Starts : List Tok → Type 0
Starts [] = ⊥
Starts (x ∷ u) = 0 < ident x

abbrev Fine : Row → Type 0
Fine ∅ = Unit {0}
Fine (tok x f) = Fine f
Fine (nod q c f) = Starts (yield c) × Fine f

starts : (u : List Tok) → Old u → 0 < length u → Starts u
starts [] o h = omega arith
starts (x ∷ u) o h = o.0

fine_append : (f g : Row) → Fine f → Fine g → Fine (f ⧺ g)
fine_append ∅ g a b = b
fine_append (tok x f) g a b = fine_append f g a b
fine_append (nod q c f) g a b = (a.0, fine_append f g a.1 b)

fine_largest : {text : List Tok} {f g : Row} → Old (yield f) → Largest text f g → Fine g
fine_largest o none = tt
fine_largest o (stays c r) = fine_largest o.1 r
fine_largest o (goes n r) = fine_largest o.1 r
fine_largest o (whole {c = c} {f = f} C r) = (starts (yield c) (old_left (yield c) (yield f) o) C.some, fine_largest (old_right (yield c) (yield f) o) r)
fine_largest o (parts {c = c} {f = f} {g = g} {h = h} n s r) =
    fine_append h g (fine_largest (old_left (yield c) (yield f) o) s) (fine_largest (old_right (yield c) (yield f) o) r)

fine_olds : (l : Row) → Fine (olds l) → Fine l
fine_olds ∅ a = tt
fine_olds (tok (mk k zero) l) a = fine_olds l a
fine_olds (tok (mk k (suc i)) l) a = fine_olds l a
fine_olds (nod q c l) a = (a.0, fine_olds l a.1)

-- a new token does not begin a piece
new_first : {k : ℕ} {w : List Tok} (u v : List Tok) → Starts u → mk k 0 ∷ w ≡ u ++ v → ⊥
new_first [] v s e = s
new_first {k} (x ∷ u) v s e = let z : x ≡ mk k 0 = cc in omega (arith, ap ident z)

no_text : (u v : List Tok) → Starts u → [] ≡ u ++ v → ⊥
no_text [] v s e = s
no_text (x ∷ u) v s e = let z : ◌≡◌ {A = ℕ} 0 1 = cc in omega arith

same_head : (u : List Tok) {v w : List Tok} → u ++ v ≡ u ++ w → v ≡ w
same_head [] e = e
same_head (x ∷ u) e = same_head u (cc)

one_list : (l m : Row) → Fine l → Fine m → yield l ≡ yield m → olds l ≡ olds m → l ≡ m
one_list ∅ ∅ a b e o = refl
one_list ∅ (tok x m) a b e o = let z : ◌≡◌ {A = ℕ} 0 1 = cc in absurd (omega arith)
one_list ∅ (nod q c m) a b e o = absurd (no_text (yield c) (yield m) b.0 e)
one_list (tok x l) ∅ a b e o = let z : ◌≡◌ {A = ℕ} 0 1 = cc in absurd (omega arith)
one_list (tok (mk k zero) l) (tok (mk j zero) m) a b e o = let r = one_list l m a b (cc) o in cc
one_list (tok (mk k zero) l) (tok (mk j (suc i)) m) a b e o = let z : ◌≡◌ {A = ℕ} 0 (suc i) = cc in absurd (omega arith)
one_list (tok (mk k (suc i)) l) (tok (mk j zero) m) a b e o = let z : ◌≡◌ {A = ℕ} 0 (suc i) = cc in absurd (omega arith)
one_list (tok (mk k (suc i)) l) (tok (mk j (suc n)) m) a b e o = let r = one_list l m a b (cc) (cc) in cc
one_list (tok (mk k zero) l) (nod q c m) a b e o = absurd (new_first (yield c) (yield m) b.0 e)
one_list (tok (mk k (suc i)) l) (nod q c m) a b e o = let z : ◌≡◌ {A = ℕ} 0 1 = cc in absurd (omega arith)
one_list (nod q c l) ∅ a b e o = absurd (no_text (yield c) (yield l) a.0 (sym e))
one_list (nod q c l) (tok (mk k zero) m) a b e o = absurd (new_first (yield c) (yield l) a.0 (sym e))
one_list (nod q c l) (tok (mk k (suc i)) m) a b e o = let z : ◌≡◌ {A = ℕ} 0 1 = cc in absurd (omega arith)
one_list (nod q c l) (nod p d m) a b e o =
    let z : c ≡ d = cc in
    let y : yield c ++ yield l ≡ yield c ++ yield m = e ∙ rw z refl in
    let r = one_list l m a.1 b.1 (same_head (yield c) y) (cc) in cc

pub list-only : {text : List Tok} {old l m : Row} → Old (yield old) → ReadingList text old l → ReadingList text old m → l ≡ m
list-only {l = l} {m = m} o L M =
    one_list l m (fine_olds l (fine_largest o L.pieces)) (fine_olds m (fine_largest o M.pieces)) (L.order ∙ sym M.order) (one_largest L.pieces M.pieces)
