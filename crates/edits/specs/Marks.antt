-- The marks of the edits in the working room: at word i how many tokens are put in before place i, at 2,049 + i how many of the first i
-- old tokens are removed. They are written in one pass over the places, with a cursor over the edits.
use Rattle.std.specs.Prelude.{◌≡◌, refl, Bool, true, false, cond, ◌||◌, List, [], ◌∷◌, ℕ, suc, ◌+◌, ◌-◌, ◌≤◌, ◌<◌, ltb, length, get_or, drop, set}
use Rattle.std.proofs.Common.{sym, ap, ◌∙◌, arith, add-one, length-set, get_or-set_same, get_or-set_other, le-ltb, le-leb}
use Rattle.std.proofs.Math.Decide.{dec_lt, dec_le}
use Rattle.definitions.specs.Edits.{Edit, edit_words, Places, put_in, gone}
use Rattle.edits.specs.Before.{put_before, gone_before, put_first, put-none, gone-none}
use Rattle.edits.specs.Fits.{place_at, removed_at, edit_at, Record, Fits, Fit, Next, fits_next, fits-none, one-row}
use Rattle.edits.specs.declared.Marks.{Marks}

-- where the two rows of marks start
abbrev pub puts_at : ℕ
puts_at = 0

abbrev pub gone_at : ℕ
gone_at = 2049

-- the marks at place i
abbrev pub mark2 : List ℕ → ℕ → ℕ → ℕ → List ℕ
mark2 r i p g = set (set r (puts_at + i) p) (gone_at + i) g

-- the words are those of es, which stand in order in n old tokens and put in at most 2,048
pub record Orderly (row : List ℕ) (n : ℕ) (es : List Edit) : Type 0 where
  pub records : edit_words es ≡ row
  pub places : Places 0 n es
  pub few : put_in es ≤ 2048

-- the marks of the places up to i stand in r
pub record Holds (es : List Edit) (i : ℕ) (r : List ℕ) : Type 0 where
  pub puts : (j : ℕ) → j ≤ i → get_or r (puts_at + j) 0 ≡ put_before j es
  pub gones : (j : ℕ) → j ≤ i → get_or r (gone_at + j) 0 ≡ gone_before j es

-- the words that hold no mark of the places up to i are the same in r and r'
pub record Apart (i : ℕ) (r r' : List ℕ) : Type 0 where
  pub between : (x : ℕ) → puts_at + i < x → x < gone_at → get_or r' x 0 ≡ get_or r x 0
  pub after : (x : ℕ) → gone_at + i < x → get_or r' x 0 ≡ get_or r x 0

-- the marks of all places are written, and nothing else
pub record Marked (n : ℕ) (r r' : List ℕ) (es : List Edit) : Type 0 where
  pub holds : Holds es n r'
  pub apart : Apart n r r'

-- 1 where old token i stands before `until`, else 0
abbrev pub inside : ℕ → ℕ → ℕ
inside i until = cond (ltb i until) 1 0

-- an edit at place i starts at word k
pub record Comes (row : List ℕ) (k i : ℕ) : Type 0 where
  pub some : k < length row
  pub here : place_at row k ≡ i

-- no edit from word k on comes before place `to`
pub record Clear (row : List ℕ) (k n at to : ℕ) : Type 0 where
  pub up : at ≤ to
  pub high : to ≤ n
  pub free : (i : ℕ) → i < to → Comes row k i → ⊥

-- while they are written in r', r as it was before: those of the places up to `at` stand; the edits before word k are at those places, put
-- in `puts` tokens and remove tokens up to `until`
pub record Marking (row : List ℕ) (n : ℕ) (r r' : List ℕ) (k : ℕ) (m : Marks) : Type 0 where
  pub es : List Edit
  pub rest : List Edit
  pub left : ℕ
  pub all : Orderly row n es
  pub fits : Fits m.until n left (drop k row) rest
  pub soon : Places m.at n rest
  pub enough : m.puts + left ≡ put_in es
  pub cursor : k ≤ length row
  pub small : n ≤ 2048
  pub short : m.at ≤ n
  pub few : m.out ≤ m.at
  pub long : length r' ≡ length r
  pub later : (j : ℕ) → m.at < j → put_before j es ≡ m.puts + put_before j rest
  pub removed : (j : ℕ) → m.at ≤ j → gone j es ≡ (ltb j m.until || gone j rest)
  pub counted : m.out ≡ gone_before m.at es
  pub holds : Holds es m.at r'
  pub apart : Apart m.at r r'

-- e is the next edit of some row, of which the marks are written in r as far as m; once it is passed, the same holds of r' and w, whatever
-- the row is
abbrev pub NextEdit : List ℕ → Marks → Edit → Type 0
NextEdit r m e = (row b : List ℕ) × (n : ℕ) × (k : ℕ) × Marking row n b r k m × Record row k e

abbrev pub EditPassed : List ℕ → Marks → Edit → List ℕ → Marks → Type 0
EditPassed r m e r' w = (row b : List ℕ) (n k : ℕ) → Marking row n b r k m → Record row k e → Marking row n b r' (k + 3) w

-- ---- one place more
holds_more : (es : List Edit) (i p g : ℕ) (r : List ℕ) → Holds es i r → i < 2048 → 4098 ≤ length r → p ≡ put_before (suc i) es → g ≡ gone_before (suc i) es
    → Holds es (suc i) (mark2 r (suc i) p g)
holds_more es i p g r H h l a b =
    record { puts = λ j k. put j k (dec_le j i); gones = λ j k. out j k (dec_le j i) }
  where
    r' : List ℕ
    r' = set r (puts_at + suc i) p

    put : (j : ℕ) → j ≤ suc i → Dec (j ≤ i) → get_or (mark2 r (suc i) p g) (puts_at + j) 0 ≡ put_before j es
    put j k (yes d) =
        get_or-set_other (set r (puts_at + suc i) p) (gone_at + suc i) (puts_at + j) g 0 (λ e. omega arith)
        ∙ get_or-set_other r (puts_at + suc i) (puts_at + j) p 0 (λ e. omega arith) ∙ H.puts j d
    put j k (no d) =
        let z : j ≡ suc i = omega arith in
        rw z (get_or-set_other (set r (puts_at + suc i) p) (gone_at + suc i) (puts_at + suc i) g 0 (λ e. omega arith)
        ∙ get_or-set_same r (puts_at + suc i) p 0 (omega arith) ∙ a)

    out : (j : ℕ) → j ≤ suc i → Dec (j ≤ i) → get_or (mark2 r (suc i) p g) (gone_at + j) 0 ≡ gone_before j es
    out j k (yes d) =
        get_or-set_other (set r (puts_at + suc i) p) (gone_at + suc i) (gone_at + j) g 0 (λ e. omega arith)
        ∙ get_or-set_other r (puts_at + suc i) (gone_at + j) p 0 (λ e. omega arith) ∙ H.gones j d
    out j k (no d) =
        let z : j ≡ suc i = omega arith in
        rw z (get_or-set_same (set r (puts_at + suc i) p) (gone_at + suc i) g 0 (omega (arith, length-set r (puts_at + suc i) p)) ∙ b)

apart_more : (i p g : ℕ) (r r' : List ℕ) → Apart i r r' → i < 2048 → Apart (suc i) r (mark2 r' (suc i) p g)
apart_more i p g r r' A h =
    record {
      between = λ x k l.
          get_or-set_other (set r' (puts_at + suc i) p) (gone_at + suc i) x g 0 (λ e. omega arith)
          ∙ get_or-set_other r' (puts_at + suc i) x p 0 (λ e. omega arith) ∙ A.between x (omega arith) l;
      after = λ x k.
          get_or-set_other (set r' (puts_at + suc i) p) (gone_at + suc i) x g 0 (λ e. omega arith)
          ∙ get_or-set_other r' (puts_at + suc i) x p 0 (λ e. omega arith) ∙ A.after x (omega arith);
    }

-- ---- the pass
places_from : (a b n : ℕ) (es : List Edit) → a ≤ b → Places b n es → Places a n es
places_from a b n [] h p = tt
places_from a b n (e ∷ es) h p = let x = p.0 in (omega arith, p.1, p.2)

next_gone : (j i until : ℕ) (e : Edit) (fs : List Edit) → e.place ≡ i → until ≤ i → i ≤ j → (ltb j until || gone j (e ∷ fs)) ≡ (ltb j (i + e.removed) || gone j fs)
next_gone j i until e fs a h k = rw (le-ltb j until (omega arith), le-leb e.place j (omega arith), a) refl

pub marks_begin : (row : List ℕ) (n : ℕ) (r : List ℕ) (es : List Edit) → Orderly row n es → n ≤ 2048 → 4098 ≤ length r
    → Marking row n r (mark2 r 0 0 0) 0 (record { at = 0; puts = 0; out = 0; until = 0 })
marks_begin row n r es O small l =
    let z : (j : ℕ) → j ≤ 0 → j ≡ 0 = λ j h. omega arith in
    record {
      es = es;
      rest = es;
      left = put_in es;
      all = O;
      fits = record { records = O.records; places = O.places; used = refl };
      soon = O.places;
      enough = omega arith;
      cursor = omega arith;
      small = small;
      short = omega arith;
      few = omega arith;
      long = length-set (set r 0 0) 2049 0 ∙ length-set r 0 0;
      later = λ j h. omega arith;
      removed = λ j h. rw (le-ltb j 0 (omega arith)) refl;
      counted = refl;
      holds = record {
        puts = λ j h. rw (z j h) (get_or-set_other (set r 0 0) 2049 0 0 0 (λ e. omega arith) ∙ get_or-set_same r 0 0 0 (omega arith) ∙ sym (put-none 0 0 n es O.places (omega arith)));
        gones = λ j h. rw (z j h) (get_or-set_same (set r 0 0) 2049 0 0 (omega (arith, length-set r 0 0)));
      };
      apart = record { between = λ x h k. other x h (λ f. omega arith); after = λ x h. other x (omega arith) (λ f. omega arith) };
    }
  where
    other : (x : ℕ) → 0 < x → (x ≡ 2049 → ⊥) → get_or (mark2 r 0 0 0) x 0 ≡ get_or r x 0
    other x h k = get_or-set_other (set r 0 0) 2049 x 0 0 k ∙ get_or-set_other r 0 x 0 0 (λ f. omega arith)

module _ {row : List ℕ} {n : ℕ} {r r' : List ℕ} {k : ℕ} {m : Marks} (M : Marking row n r r' k m) where
  -- the next record, if there are more words
  pub next_edit : k < length row → Next row k m.until n M.left
  next_edit h = (fits_next row k m.until n M.left h M.rest M.fits).0

  pub next_record : k < length row → Record row k (edit_at row k)
  next_record h = record { whole = (next_edit h).whole; is = refl }

  -- no edit comes before the next one; none comes after the last
  pub clear_next : {e : Edit} → Record row k e → Clear row k n m.at e.place
  clear_next {e} R =
      let h = R.whole in
      let w = fits_next row k m.until n M.left (omega arith) M.rest M.fits in
      let p : Places m.at n (edit_at row k ∷ w.1.0) = rw w.1.1 at M.soon in
      let a = p.0 in
      let b = p.1 in
      let z : place_at row k ≡ e.place = ap (λ (x : Edit). x.place) R.is in
      record { up = omega arith; high = omega arith; free = λ i l C. let c = C.here in omega arith }

  pub clear_end : k ≡ length row → Clear row k n m.at n
  clear_end e = record { up = M.short; high = omega arith; free = λ i l C. let c = C.some in omega arith }

  -- an edit at place `at` is passed
  pub marks-edit : {e : Edit} → Record row k e → m.at ≡ e.place
      → Marking row n r r' (k + 3) (record { at = m.at; puts = m.puts + e.put; out = m.out; until = m.at + e.removed })
  marks-edit {e} R at =
      let h = R.whole in
      let w = fits_next row k m.until n M.left (omega arith) M.rest M.fits in
      let N = w.0 in
      let fs = w.1.0 in
      let is : M.rest ≡ e ∷ fs = w.1.1 ∙ ap (◌∷ fs) R.is in
      let N' : Fit m.until n M.left e = rw R.is at N.fit in
      let b = N'.behind in
      let c = N'.within in
      let f = N'.few in
      let s = M.enough in
      let p = ap (λ (x : Edit). x.place) R.is in
      let q = ap (λ (x : Edit). x.removed) R.is in
      let v = ap (λ (x : Edit). x.put) R.is in
      let u : place_at row k + removed_at row k ≡ m.at + e.removed = omega arith in
      let F : Fits (m.at + e.removed) n (M.left - e.put) (drop (k + 3) row) fs = rw (u, v) at w.1.2 in
      record {
        es = M.es;
        rest = fs;
        left = M.left - e.put;
        all = M.all;
        fits = F;
        soon = places_from m.at (m.at + e.removed) n fs (omega arith) F.places;
        enough = omega arith;
        cursor = h;
        small = M.small;
        short = M.short;
        few = M.few;
        long = M.long;
        later = λ j l. omega (arith, M.later j l, ap (put_before j) is, put_first j e fs (omega arith));
        removed = λ j l. M.removed j l ∙ ap (λ (x : List Edit). ltb j m.until || gone j x) is ∙ next_gone j m.at m.until e fs (sym at) (omega arith) l;
        counted = M.counted;
        holds = M.holds;
        apart = M.apart;
      }

  -- no edit at place `at` is left
  past : (Comes row k m.at → ⊥) → Places (suc m.at) n M.rest
  past N = by (dec_lt k (length row))
    where
      by : Dec (k < length row) → Places (suc m.at) n M.rest
      by (yes h) =
          let w = fits_next row k m.until n M.left h M.rest M.fits in
          let is = w.1.1 in
          let p : Places m.at n (edit_at row k ∷ w.1.0) = rw is at M.soon in
          let a = p.0 in
          let d : place_at row k ≡ m.at → ⊥ = λ e. N (record { some = h; here = e }) in
          rw is (omega arith, p.1, p.2)
      by (no h) =
          let c = M.cursor in
          let z : k ≡ length row = omega arith in
          rw (fits-none m.until n M.left row M.rest (rw z at M.fits)) tt

  pub marks_place : (Comes row k m.at → ⊥) → m.at < n → 4098 ≤ length r' → (b : ℕ) → b ≡ inside m.at m.until
      → Marking row n r (mark2 r' (m.at + 1) m.puts (m.out + b)) k (record { at = m.at + 1; puts = m.puts; out = m.out + b; until = m.until })
  marks_place N h room b e =
      let i = m.at in
      let P = past N in
      let l = M.small in
      let g : gone i M.es ≡ ltb i m.until = M.removed i (omega arith) ∙ rw (gone-none i (suc i) n M.rest P (omega arith)) (or_false (ltb i m.until)) in
      let o : gone_before (suc i) M.es ≡ m.out + b = ap (λ (c : Bool). gone_before i M.es + cond c 1 0) g ∙ omega (arith, M.counted) in
      let p : put_before (suc i) M.es ≡ m.puts = omega (arith, M.later (suc i) (omega arith), put-none (suc i) (suc i) n M.rest P (omega arith)) in
      rw add-one (record {
        es = M.es;
        rest = M.rest;
        left = M.left;
        all = M.all;
        fits = M.fits;
        soon = P;
        enough = M.enough;
        cursor = M.cursor;
        small = M.small;
        short = omega arith;
        few = omega (arith, M.few, inside_one i m.until);
        long = length-set (set r' (puts_at + suc i) m.puts) (gone_at + suc i) (m.out + b) ∙ length-set r' (puts_at + suc i) m.puts ∙ M.long;
        later = λ j k. M.later j (omega arith);
        removed = λ j k. M.removed j (omega arith);
        counted = sym o;
        holds = holds_more M.es i m.puts (m.out + b) r' M.holds (omega arith) room (sym p) (sym o);
        apart = apart_more i m.puts (m.out + b) r r' M.apart (omega arith);
      })
    where
      or_false : (c : Bool) → (c || false) ≡ c
      or_false true = refl
      or_false false = refl

      inside_one : (i until : ℕ) → inside i until ≤ 1
      inside_one i until = by (ltb i until)
        where
          by : (c : Bool) → cond c 1 0 ≤ 1
          by true = omega arith
          by false = omega arith

  -- the marks fit their words
  pub marks_few : (m.puts ≤ 2048) × (m.out ≤ m.at) × (m.at ≤ n) × (n ≤ 2048)
  marks_few = let e = M.enough in let f = M.all.few in (omega arith, M.few, M.short, M.small)

  pub marks_end : m.at ≡ n → (es : List Edit) → Orderly row n es → Marked n r r' es
  marks_end e es O =
      let z : M.es ≡ es = one-row row M.all.records O.records in
      record { holds = rw (e, z) at M.holds; apart = rw e at M.apart }
