-- The edited text: its codes are in order for a fresh reading, and each old token stands in it at most once.
use Rattle.std.specs.Prelude.{◌≡◌, refl, List, [], ◌∷◌, ◌++◌, ℕ, zero, suc, eqb, length, take, drop}
use Rattle.std.proofs.Common.{sym, ap, ◌∙◌, arith}
use mathlib.Core.Bool.{Bool, true, false, cond}
use Rattle.definitions.specs.Tree.{Tok, mk, Row, yield, NRow, ε, ntok, nnod, erase, occ, toc, Kinds, Fit}
use Rattle.definitions.specs.Edits.{Edit, Codes, inserted, mark, marks, edited, put_at, new_text}
use Rattle.theory.specs.Numbers.Counting.{eqn_same, toc-ids}
use Rattle.theory.specs.Numbers.Identities.{cnt, cnt-append, cnt-edited, cnt_blank, Old, blank_marks, blank_put, ids-cnt}
use Rattle.theory.specs.Numbers.Rule.{Text}
use Rattle.theory.specs.Numbers.NewText.{text-count}
use Rattle.theory.specs.Machine.Rows.{Real}
use Rattle.theory.specs.Machine.Bare.{bare_text}
use Rattle.theory.specs.Machine.Begun.{kinds}
use Rattle.theory.specs.Edits.Listing.{Distinct}

-- ---- the codes of a text
pub inserted-codes : (w : List Tok) → inserted (kinds w) ≡ bare_text w
inserted-codes [] = refl
inserted-codes (mk k i ∷ w) = ap (mk k 0 ∷◌) (inserted-codes w)

pub length-codes : (w : List Tok) → length (kinds w) ≡ length w
length-codes [] = refl
length-codes (x ∷ w) = ap suc (length-codes w)

abbrev pub Known : ℕ → List Tok → Type 0
Known T w = Codes T (kinds w)

known_append : (T : ℕ) (u v : List Tok) → Known T u → Known T v → Known T (u ++ v)
known_append T [] v a b = b
known_append T (x ∷ u) v a b = (a.0, a.1, known_append T u v a.2 b)

pub known_inserted : (T : ℕ) (codes : List ℕ) → Codes T codes → Known T (inserted codes)
known_inserted T [] a = tt
known_inserted T (c ∷ codes) a = (a.0, a.1, known_inserted T codes a.2)

codes-take : (T n : ℕ) (codes : List ℕ) → Codes T codes → Codes T (take n codes)
codes-take T zero codes a = tt
codes-take T (suc n) [] a = tt
codes-take T (suc n) (c ∷ codes) a = (a.0, a.1, codes-take T n codes a.2)

codes-drop : (T n : ℕ) (codes : List ℕ) → Codes T codes → Codes T (drop n codes)
codes-drop T zero codes a = a
codes-drop T (suc n) [] a = tt
codes-drop T (suc n) (c ∷ codes) a = codes-drop T n codes a.2

known_put : (T i : ℕ) (es : List Edit) (codes : List ℕ) → Codes T codes → Known T (put_at i es codes)
known_put T i [] codes a = tt
known_put T i (e ∷ es) codes a =
    known_append T (inserted (cond (eqb e.place i) (take e.put codes) [])) (put_at i es (drop e.put codes))
    (known_inserted T (cond (eqb e.place i) (take e.put codes) []) (by (eqb e.place i))) (known_put T i es (drop e.put codes) (codes-drop T e.put codes a))
  where
    by : (b : Bool) → Codes T (cond b (take e.put codes) [])
    by true = codes-take T e.put codes a
    by false = tt

known_edited : (T i n : ℕ) (es : List Edit) (codes : List ℕ) (u : List Tok) → Codes T codes → Known T u → Known T (edited u (marks i n es codes))
known_edited T i n es codes [] a k = tt
known_edited T i zero es codes (x ∷ u) a k = k
known_edited T i (suc n) es codes (x ∷ u) a k = by (mathlib.Core.Bool.not (Rattle.definitions.specs.Edits.gone i es)) (known_edited T (suc i) n es codes u a k.2)
  where
    by : (b : Bool) → Known T (edited u (marks (suc i) n es codes)) → Known T (edited (x ∷ u) (mark (put_at i es codes) b ∷ marks (suc i) n es codes))
    by true h = known_append T (put_at i es codes) (x ∷ edited u (marks (suc i) n es codes)) (known_put T i es codes a) (k.0, k.1, h)
    by false h = known_append T (put_at i es codes) (edited u (marks (suc i) n es codes)) (known_put T i es codes a) h

pub known_text : (T : ℕ) (u : List Tok) (es : List Edit) (codes : List ℕ) → Codes T codes → Known T u → Known T (new_text u es codes)
known_text T u es codes a k =
    known_append T (edited u (marks 0 (length u) es codes)) (put_at (length u) es codes) (known_edited T 0 (length u) es codes u a k) (known_put T (length u) es codes a)

pub known_kinds : (T : ℕ) (r : NRow) → Kinds T r → Known T (yield (erase r))
known_kinds T ε a = tt
known_kinds T (ntok k i f) a = (a.0, a.1, known_kinds T f a.2)
known_kinds T (nnod q i c f) a = known_append T (yield (erase c)) (yield (erase f)) (known_kinds T c a.0) (known_kinds T f a.1)

pub known_real : (T : ℕ) (w : List Tok) → Known T w → Real w
known_real T [] a = tt
known_real T (x ∷ w) a = (a.0, known_real T w a.2)

-- ---- identities
old_join : (u v : List Tok) → Old u → Old v → Old (u ++ v)
old_join [] v a b = b
old_join (x ∷ u) v a b = (a.0, old_join u v a.1 b)

pub old_tokens : (r : NRow) → occ 0 r ≡ 0 → Old (yield (erase r))
old_tokens ε z = tt
old_tokens (ntok k zero f) z = absurd (omega (arith, eqn_same 0))
old_tokens (ntok k (suc i) f) z = (omega arith, old_tokens f (omega arith))
old_tokens (nnod q i c f) z = old_join (yield (erase c)) (yield (erase f)) (old_tokens c (omega arith)) (old_tokens f (omega arith))

pub cnt-toc : (i : ℕ) (r : NRow) → cnt i (yield (erase r)) ≡ toc i r
cnt-toc i r = sym (ids-cnt i (erase r)) ∙ sym (toc-ids i r)

-- the tokens of a tree in order have numbers, no two the same
pub fit_distinct : {n : ℕ} (r : NRow) → Fit n r → Distinct (yield (erase r))
fit_distinct r F = record { old = old_tokens r F.low; once = λ i h. omega (arith, cnt-toc i r, F.apart i) }

pub text_new : (old : NRow) (f : Row) (es : List Edit) (codes : List ℕ) → yield f ≡ new_text (yield (erase old)) es codes → Text old f
text_new old f es codes e =
    let u = yield (erase old) in
    let n = length u in
    text-count old f (λ i h. omega (arith, ap (cnt i) e, cnt-append i (edited u (marks 0 n es codes)) (put_at n es codes), cnt-edited i u (marks 0 n es codes) h (blank_marks 0 n es codes), cnt_blank i (put_at n es codes) h (blank_put n es codes)))
