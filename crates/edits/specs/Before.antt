-- What the edits put in and remove before a place. The codes put in at a place are those between two such counts, and a token is gone
-- where the count of removed ones grows. The edits stand in order (`Places`).
use Rattle.std.specs.Prelude.{◌≡◌, refl, true, false, cond, List, [], ◌∷◌, ◌++◌, ℕ, zero, suc, ◌+◌, ◌-◌, ◌≤◌, ◌<◌, ltb, eqb, length, take, drop}
use Rattle.std.proofs.Common.{sym, ap, ◌∙◌, arith, take-add, lt-ltb, le-ltb, le-leb, eq-eqb, ne_eqb}
use Rattle.std.proofs.Math.Decide.{dec_lt, dec_le}
use Rattle.std.proofs.Math.Seq.{slice, length-slice, take-nil, drop-nil}
use Rattle.std.proofs.lemmas.Bool.{lt-leb}
use Rattle.definitions.specs.Tree.{mk}
use Rattle.definitions.specs.Edits.{Edit, Places, put_in, inserted, gone, put_at}

-- how many tokens the edits at places below i put in
abbrev pub put_before : ℕ → List Edit → ℕ
put_before i [] = 0
put_before i (e ∷ es) = cond (ltb e.place i) e.put 0 + put_before i es

-- how many of the first i old tokens they remove; how many in all
abbrev pub gone_before : ℕ → List Edit → ℕ
gone_before zero es = 0
gone_before (suc i) es = gone_before i es + cond (gone i es) 1 0

abbrev pub removals : List Edit → ℕ
removals [] = 0
removals (e ∷ es) = e.removed + removals es

-- ---- tokens put in
put_here : (i : ℕ) (e : Edit) → e.place < i → cond (ltb e.place i) e.put 0 ≡ e.put
put_here i e h = rw (lt-ltb e.place i h)

put_later : (i : ℕ) (e : Edit) → i ≤ e.place → cond (ltb e.place i) e.put 0 ≡ 0
put_later i e h = rw (le-ltb e.place i h)

pub put_first : (i : ℕ) (e : Edit) (es : List Edit) → e.place < i → put_before i (e ∷ es) ≡ e.put + put_before i es
put_first i e es h = ap (◌+ put_before i es) (put_here i e h)

pub put-none : (i from n : ℕ) (es : List Edit) → Places from n es → i ≤ from → put_before i es ≡ 0
put-none i from n [] p h = refl
put-none i from n (e ∷ es) p h =
    let a = p.0 in
    omega (arith, put_later i e (omega arith), put-none i (e.place + e.removed) n es p.2 (omega arith))

pub put_all : (i from n : ℕ) (es : List Edit) → Places from n es → n < i → put_before i es ≡ put_in es
put_all i from n [] p h = refl
put_all i from n (e ∷ es) p h =
    let a = p.1 in
    omega (arith, put_here i e (omega arith), put_all i (e.place + e.removed) n es p.2 h)

pub put_grows : (i j : ℕ) (es : List Edit) → i ≤ j → put_before i es ≤ put_before j es
put_grows i j [] h = omega arith
put_grows i j (e ∷ es) h = by (put_grows i j es h) (dec_lt e.place i)
  where
    by : put_before i es ≤ put_before j es → Dec (e.place < i) → put_before i (e ∷ es) ≤ put_before j (e ∷ es)
    by r (yes k) = omega (arith, put_here i e k, put_here j e (omega arith))
    by r (no k) = omega (arith, put_later i e (omega arith))

pub put_within : (i : ℕ) (es : List Edit) → put_before i es ≤ put_in es
put_within i [] = omega arith
put_within i (e ∷ es) = by (put_within i es) (dec_lt e.place i)
  where
    by : put_before i es ≤ put_in es → Dec (e.place < i) → put_before i (e ∷ es) ≤ put_in (e ∷ es)
    by r (yes k) = omega (arith, put_here i e k)
    by r (no k) = omega (arith, put_later i e (omega arith))

-- ---- the codes put in at a place
pub inserted-append : (u v : List ℕ) → inserted (u ++ v) ≡ inserted u ++ inserted v
inserted-append [] v = refl
inserted-append (a ∷ u) v = ap (mk a 0 ∷◌) (inserted-append u v)

pub length_inserted : (u : List ℕ) → length (inserted u) ≡ length u
length_inserted [] = refl
length_inserted (a ∷ u) = ap suc (length_inserted u)

slice_later : (k a b : ℕ) (l : List ℕ) → slice a b (drop k l) ≡ slice (k + a) (k + b) l
slice_later zero a b l = let x : 0 + a ≡ a = omega arith in let y : 0 + b ≡ b = omega arith in rw (x, y) refl
slice_later (suc k) a b [] =
    let x : suc k + a ≡ suc (k + a) = omega arith in
    let y : suc k + b ≡ suc (k + b) = omega arith in
    rw (x, y) (ap (drop a) (take-nil b) ∙ drop-nil a)
slice_later (suc k) a b (c ∷ l) =
    let x : suc k + a ≡ suc (k + a) = omega arith in
    let y : suc k + b ≡ suc (k + b) = omega arith in
    rw (x, y) (slice_later k a b l)

pub put-at : (i from n : ℕ) (es : List Edit) (codes : List ℕ) → Places from n es → put_at i es codes ≡ inserted (slice (put_before i es) (put_before (suc i) es) codes)
put-at i from n [] codes p = refl
put-at i from n (e ∷ es) codes p = by (put-at i (e.place + e.removed) n es (drop e.put codes) p.2) (dec_lt e.place i) (dec_lt i e.place)
  where
    rest : List ℕ
    rest = drop e.put codes

    to : ℕ
    to = put_before (suc i) es

    Rest : Type 0
    Rest = put_at i es rest ≡ inserted (slice (put_before i es) to rest)

    Goal : Type 0
    Goal = inserted (cond (eqb e.place i) (take e.put codes) []) ++ put_at i es rest ≡ inserted (slice (put_before i (e ∷ es)) (put_before (suc i) (e ∷ es)) codes)

    by : Rest → Dec (e.place < i) → Dec (i < e.place) → Goal
    by r (yes h) d =
        rw (ne_eqb e.place i (λ z. omega arith), put_here i e h, put_here (suc i) e (omega arith))
        (r ∙ ap inserted (slice_later e.put (put_before i es) to codes))
    by r (no h) (yes k) =
        let a = put-none i (e.place + e.removed) n es p.2 (omega arith) in
        let b = put-none (suc i) (e.place + e.removed) n es p.2 (omega arith) in
        rw (ne_eqb e.place i (λ z. omega arith), put_later i e (omega arith), put_later (suc i) e (omega arith), r, a, b) refl
    by r (no h) (no k) =
        let a = put-none i (e.place + e.removed) n es p.2 (omega arith) in
        rw (eq-eqb e.place i (omega arith), put_later i e (omega arith), put_here (suc i) e (omega arith), r, a)
        (sym (inserted-append (take e.put codes) (take to rest)) ∙ ap inserted (sym (take-add e.put to codes)))

pub length-put : (i from n : ℕ) (es : List Edit) (codes : List ℕ) → Places from n es → put_in es ≤ length codes → length (put_at i es codes) + put_before i es ≡ put_before (suc i) es
length-put i from n es codes p h =
    omega (
      arith,
      ap length (put-at i from n es codes p),
      length_inserted (slice (put_before i es) (put_before (suc i) es) codes),
      length-slice (put_before i es) (put_before (suc i) es) codes (omega (arith, put_within (suc i) es)),
      put_grows i (suc i) es (omega arith),
    )

-- ---- tokens removed
pub gone-none : (i from n : ℕ) (es : List Edit) → Places from n es → i < from → gone i es ≡ false
gone-none i from n [] p h = refl
gone-none i from n (e ∷ es) p h =
    let a = p.0 in
    rw (lt-leb e.place i (omega arith)) (gone-none i (e.place + e.removed) n es p.2 (omega arith))

pub gone_in : (i : ℕ) (e : Edit) (es : List Edit) → e.place ≤ i → i < e.place + e.removed → gone i (e ∷ es) ≡ true
gone_in i e es h k = rw (le-leb e.place i h, lt-ltb i (e.place + e.removed) k) refl

pub gone_past : (i : ℕ) (e : Edit) (es : List Edit) → e.place + e.removed ≤ i → gone i (e ∷ es) ≡ gone i es
gone_past i e es h = rw (le-leb e.place i (omega arith), le-ltb i (e.place + e.removed) h) refl

pub removed-none : (i from n : ℕ) (es : List Edit) → Places from n es → i ≤ from → gone_before i es ≡ 0
removed-none zero from n es p h = refl
removed-none (suc i) from n es p h = rw (gone-none i from n es p (omega arith)) (omega (arith, removed-none i from n es p (omega arith)))

removed_in : (i from n : ℕ) (e : Edit) (es : List Edit) → Places from n (e ∷ es) → e.place ≤ i → i ≤ e.place + e.removed → gone_before i (e ∷ es) ≡ i - e.place
removed_in zero from n e es p h k = omega arith
removed_in (suc i) from n e es p h k = by (λ l. removed_in i from n e es p l (omega arith)) (dec_le e.place i)
  where
    by : (e.place ≤ i → gone_before i (e ∷ es) ≡ i - e.place) → Dec (e.place ≤ i) → gone_before (suc i) (e ∷ es) ≡ suc i - e.place
    by r (yes l) = rw (gone_in i e es l (omega arith)) (omega (arith, r l))
    by r (no l) = let a = removed-none (suc i) e.place n (e ∷ es) (omega arith, p.1, p.2) (omega arith) in omega arith

removed_past : (i from n : ℕ) (e : Edit) (es : List Edit) → Places from n (e ∷ es) → e.place + e.removed ≤ i → gone_before i (e ∷ es) ≡ e.removed + gone_before i es
removed_past zero from n e es p h = omega arith
removed_past (suc i) from n e es p h = by (λ l. removed_past i from n e es p l) (dec_le (e.place + e.removed) i)
  where
    by : (e.place + e.removed ≤ i → gone_before i (e ∷ es) ≡ e.removed + gone_before i es) → Dec (e.place + e.removed ≤ i)
        → gone_before (suc i) (e ∷ es) ≡ e.removed + gone_before (suc i) es
    by r (yes l) = rw (gone_past i e es l) (omega (arith, r l))
    by r (no l) = omega (arith, removed_in (suc i) from n e es p (omega arith) (omega arith), removed-none (suc i) (e.place + e.removed) n es p.2 (omega arith))

pub removed_all : (i from n : ℕ) (es : List Edit) → Places from n es → n ≤ i → gone_before i es ≡ removals es
removed_all i from n [] p h = nothing i
  where
    nothing : (i : ℕ) → gone_before i [] ≡ 0
    nothing zero = refl
    nothing (suc i) = omega (arith, nothing i)
removed_all i from n (e ∷ es) p h =
    let a = p.1 in
    omega (arith, removed_past i from n e es p (omega arith), removed_all i (e.place + e.removed) n es p.2 h)
