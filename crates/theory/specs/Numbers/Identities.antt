-- How often an identity stands in a text: inserted tokens have none, and editing adds no old token.
use Rattle.std.specs.Prelude.{◌≡◌, refl, true, false, cond, List, [], ◌∷◌, ◌++◌, ℕ, zero, suc, ◌+◌, ◌≤◌, ◌<◌, eqb, take, drop}
use Rattle.std.proofs.Common.{arith}
use Rattle.definitions.specs.Tree.{Tok, ident, Row, ∅, tok, nod, yield, eqn}
use Rattle.definitions.specs.Edits.{Edit, Mark, mark, edited, inserted, marks, put_at}
use Rattle.theory.specs.Edits.FromMarks.{lead, skip}
use Rattle.theory.specs.Numbers.Counting.{eqn-other, ids}

-- inserted tokens have no identity
abbrev pub Blank : List Tok → Type 0
Blank [] = Unit {0}
Blank (x ∷ u) = (ident x ≡ 0) × Blank u

-- how often an identity stands in a text
abbrev pub cnt : ℕ → List Tok → ℕ
cnt i [] = 0
cnt i (x ∷ u) = eqn i (ident x) + cnt i u

pub cnt-append : (i : ℕ) (u v : List Tok) → cnt i (u ++ v) ≡ cnt i u + cnt i v
cnt-append i [] v = omega arith
cnt-append i (x ∷ u) v = omega (arith, cnt-append i u v)

pub ids-cnt : (i : ℕ) (f : Row) → ids i f ≡ cnt i (yield f)
ids-cnt i ∅ = refl
ids-cnt i (tok x f) = omega (arith, ids-cnt i f)
ids-cnt i (nod q c f) = omega (arith, ids-cnt i c, ids-cnt i f, cnt-append i (yield c) (yield f))

pub cnt_blank : (i : ℕ) (u : List Tok) → 0 < i → Blank u → cnt i u ≡ 0
cnt_blank i [] h b = refl
cnt_blank i (x ∷ u) h b = omega (arith, eqn-other {i = i} {j = ident x} (λ e. omega (arith, b.0)), cnt_blank i u h b.1)

abbrev pub Blanks : List Mark → Type 0
Blanks [] = Unit {0}
Blanks (mark i b ∷ ms) = Blank i × Blanks ms

abbrev pub Old : List Tok → Type 0
Old [] = Unit {0}
Old (x ∷ u) = (0 < ident x) × Old u

pub cnt-edited : (i : ℕ) (u : List Tok) (ms : List Mark) → 0 < i → Blanks ms → cnt i (edited u ms) ≤ cnt i u
cnt-edited i [] ms h b = omega arith
cnt-edited i (x ∷ u) [] h b = omega arith
cnt-edited i (x ∷ u) (mark l true ∷ ms) h b = omega (arith, cnt-append i l (x ∷ edited u ms), cnt_blank i l h b.0, cnt-edited i u ms h b.1)
cnt-edited i (x ∷ u) (mark l false ∷ ms) h b = omega (arith, cnt-append i l (edited u ms), cnt_blank i l h b.0, cnt-edited i u ms h b.1)

pub blank_append : (u v : List Tok) → Blank u → Blank v → Blank (u ++ v)
blank_append [] v a b = b
blank_append (x ∷ u) v a b = (a.0, blank_append u v a.1 b)

pub blank_inserted : (codes : List ℕ) → Blank (inserted codes)
blank_inserted [] = tt
blank_inserted (a ∷ codes) = (refl, blank_inserted codes)

pub blank_put : (i : ℕ) (es : List Edit) (codes : List ℕ) → Blank (put_at i es codes)
blank_put i [] codes = tt
blank_put i (e ∷ es) codes =
    blank_append (inserted (cond (eqb e.place i) (take e.put codes) [])) (put_at i es (drop e.put codes)) (blank_inserted (cond (eqb e.place i) (take e.put codes) [])) (blank_put i es (drop e.put codes))

pub blank_marks : (i n : ℕ) (es : List Edit) (codes : List ℕ) → Blanks (marks i n es codes)
blank_marks i zero es codes = tt
blank_marks i (suc n) es codes = (blank_put i es codes, blank_marks (suc i) n es codes)

pub blank_skip : (u : List Tok) (ms : List Mark) → Blanks ms → Blanks (skip u ms)
blank_skip [] ms b = b
blank_skip (x ∷ u) [] b = tt
blank_skip (x ∷ u) (mark i c ∷ ms) b = blank_skip u ms b.1

pub blank_lead : (ms : List Mark) → Blanks ms → Blank (lead ms)
blank_lead [] b = tt
blank_lead (mark i c ∷ ms) b = b.0
