-- One step of the pass back: the piece that ends at record pos has no tokens, is clean, is a token that is gone, or is broken into its
-- children. In each case the list that results is the same.
use Rattle.std.specs.Prelude.{◌≡◌, Bool, true, get_or, set}
use Rattle.std.proofs.Math.Path.{refl, sym, ap}
use Rattle.std.proofs.Common.{◌∙◌, add-one, get_or-set_same}
use Rattle.std.proofs.Math.Bool.{false}
use mathlib.Core.List.{List, [], ◌∷◌}
use Prim.Native.Nat.{ℕ, suc, ◌+◌, ◌-◌, ◌≤◌, ◌<◌}
use native.Mathlib.Omega.{arith}
use Rattle.std.proofs.Math.ListN.{length}
use Rattle.std.proofs.Math.Seq.{slice, length-slice, get_or-set_other}
use Rattle.definitions.specs.Tree.{Tok, mk, Row, ∅, ◌⧺◌, row, size, yield, toks, NRow, erase}
use Rattle.definitions.specs.Reading.{Tree, leaf, node, cons}
use Rattle.definitions.specs.Edits.{put_in, inserted, Mark, marks}
use Rattle.theory.specs.Check.Says.{Says, says_as}
use Rattle.theory.specs.Edits.FromMarks.{skip, lead, clean, pieces}
use Rattle.theory.specs.Machine.Rows.{toks-length, toks-append, row_assoc, size-append}
use Rattle.theory.specs.Tree.Build.{join}
use Rattle.tree.specs.Rows.{kind_at, size_at}
use Rattle.list.specs.Pieces.{Forest, Piece, Ending, ending, Root, root, root_real, inside, erase-join, tokens_forest}
use Rattle.list.specs.Pending.{list_at, tokens_at, Pending, piece, pending_stands, pending_toks, Counted}
use Rattle.list.specs.Opening.{Elsewhere, unmoved, pushes, cons-row, some_size}
use Rattle.edits.specs.Before.{put_before, put-at, put_grows, put_within, length_inserted}
use Rattle.edits.specs.CleanMarks.{skip-marks, clean-marks}
use Rattle.edits.specs.LastPiece.{pieces-append, piece-none, piece-clean, token_gone, node_broken}
use Rattle.edits.specs.Marks.{puts_at, gone_at, Holds}
use Rattle.edits.specs.Pushing.{Pushes}
use Rattle.edits.specs.Going.{forest_join, toks-row, Case, many, all_marks, list, few_tokens, few_put, few_list, Going, counts_stand, marks_stand}

-- by the marks of the room: the tokens from a up to b remain, and nothing is put in before any but the first
pub record CleanBy (r : List ℕ) (a b : ℕ) : Type 0 where
  pub remain : get_or r (gone_at + b) 0 ≡ get_or r (gone_at + a) 0
  pub bare : get_or r (puts_at + b) 0 ≡ get_or r (puts_at + (a + 1)) 0

-- the codes from lo up to hi may be put on the list of m words
pub record Room (m lo hi : ℕ) : Type 0 where
  pub up : lo ≤ hi
  pub high : hi ≤ 2048
  pub fits : m + (hi - lo) ≤ 2048

-- what the size word of the last record says
pub record Sized (old : List ℕ) (pos : ℕ) : Type 0 where
  pub below : size_at old (pos - 1) ≤ pos
  pub some : 0 < size_at old (pos - 1)
  pub inside : pos ≤ get_or old 0 0

-- the last piece stands from record `from` up to record pos, and its tokens are those from a up to b
pub record Last {old : List ℕ} (C : Case old) (r : List ℕ) (pos m from a b : ℕ) : Type 0 where
  pub rest : NRow
  pub tree : Tree
  pub done : Row
  pub before : Forest C.t old 0 rest
  pub piece : Piece C.t old (pos - 1) tree
  pub reach : 0 < pos
  pub inside : pos ≤ get_or old 0 0
  pub at : size (erase rest) ≡ from
  pub start : piece.start ≡ from
  pub first : a ≡ toks (erase rest)
  pub last : b ≡ a + toks (cons tree ∅)
  pub within : b ≤ many C
  pub is : pieces (erase rest) (all_marks C) ⧺ (pieces (cons tree ∅) (skip (yield (erase rest)) (all_marks C)) ⧺ done) ≡ list C
  pub pending : Pending C.t old C.put r m done
  pub counted : Counted old r
  pub marked : Holds C.es (many C) r

pub then : {r r₁ r₂ : List ℕ} → Elsewhere r r₁ → Elsewhere r₁ r₂ → Elsewhere r r₂
then E F = record { below = F.below ∙ E.below; above = F.above ∙ E.above; long = F.long ∙ E.long }

module _ {old : List ℕ} {C : Case old} {r : List ℕ} {pos m : ℕ} (S : Going C r pos m) (h : 0 < pos) where
  ends : Ending C.t old 0 (pos - 1) S.left
  ends = ending (pos - 1) S.left (omega (arith, S.at)) (omega arith) S.forest

  pub sized : Sized old pos
  sized =
      let E = ends in
      let w = root E.piece in
      record {
        below = omega (arith, w.many, E.piece.ends);
        some = omega (arith, w.many, some_size E.tree);
        inside = omega (arith, w.within);
      }

  pub last-piece : (from a b : ℕ) → from ≡ pos - size_at old (pos - 1) → a ≡ get_or r (tokens_at + from) 0 → b ≡ get_or r (tokens_at + pos) 0 → Last C r pos m from a b
  last-piece from a b f g k =
      let E = ends in
      let x = E.tree in
      let w = root E.piece in
      let z : size (erase E.rest) ≡ from = omega (arith, w.many, E.starts, E.piece.ends) in
      let i : pos ≤ get_or old 0 0 = omega (arith, w.within) in
      let u : a ≡ toks (erase E.rest) = g ∙ S.counted from (omega arith) ∙ tokens_forest from E.rest C.few E.before (omega arith) ∙ omega arith in
      let v : b ≡ toks (erase S.left) = k ∙ S.counted pos i ∙ tokens_forest pos S.left C.few S.forest (omega (arith, S.at)) ∙ omega arith in
      let n : toks (erase S.left) ≡ toks (erase E.rest) + toks (cons x ∅) = ap toks E.is ∙ toks-append (erase E.rest) (cons x ∅) in
      record {
        rest = E.rest;
        tree = x;
        done = S.done;
        before = E.before;
        piece = E.piece;
        reach = h;
        inside = i;
        at = z;
        start = omega (arith, E.starts);
        first = u;
        last = omega arith;
        within = omega (arith, S.within);
        is = sym (row_assoc (pieces (erase E.rest) (all_marks C)) (pieces (cons x ∅) (skip (yield (erase E.rest)) (all_marks C))) S.done)
            ∙ ap (◌⧺ S.done) (sym (ap (λ (f : Row). pieces f (all_marks C)) E.is ∙ pieces-append (erase E.rest) (cons x ∅) (all_marks C))) ∙ S.is;
        pending = S.pending;
        counted = S.counted;
        marked = S.marked;
      }

module _ {old : List ℕ} {C : Case old} {r : List ℕ} {pos m from a b : ℕ} (L : Last C r pos m from a b) where
  -- the marks of its tokens, and of those behind
  own : List Mark
  own = skip (yield (erase L.rest)) (all_marks C)

  pub some-tokens : a ≤ b
  some-tokens = omega (arith, L.last)

  own-marks : own ≡ marks a (many C - a) C.es C.put
  unfolding own
  own-marks =
      let u = yield (erase L.rest) in
      let n : length u ≡ a = omega (arith, toks-length (erase L.rest), L.first) in
      let k : many C ≡ length u + (many C - a) = omega (arith, L.within, some-tokens) in
      ap (λ (i : ℕ). skip u (marks 0 i C.es C.put)) k ∙ skip-marks u 0 (many C - a) C.es C.put
      ∙ ap (λ (i : ℕ). marks i (many C - a) C.es C.put) (omega arith)

  -- the next place to pass is `from`: the list has all behind it
  on : {r' : List ℕ} {k : ℕ} (done : Row) → Elsewhere r r' → pieces (erase L.rest) (all_marks C) ⧺ done ≡ list C → Pending C.t old C.put r' k done → Going C r' from k
  on done E is p =
      record {
        left = L.rest;
        done = done;
        forest = L.before;
        at = L.at;
        within = omega (arith, L.first, L.within, some-tokens);
        is = is;
        pending = p;
        counted = counts_stand E _ L.counted;
        marked = marks_stand E (many C) (few_tokens C) L.marked;
      }

  -- no tokens
  pub step-none : a ≡ b → Going C r from m
  step-none e =
      on L.done (unmoved r)
      (ap (λ (f : Row). pieces (erase L.rest) (all_marks C) ⧺ (f ⧺ L.done)) (sym (piece-none (skip (yield (erase L.rest)) (all_marks C)) L.tree (omega (arith, L.last)))) ∙ L.is)
      L.pending

  -- ---- a piece with tokens
  module _ (some : a < b) where
    -- the codes put in before its first token
    lo : ℕ
    lo = get_or r (puts_at + a) 0

    hi : ℕ
    hi = get_or r (puts_at + (a + 1)) 0

    codes : List Tok
    codes = inserted (slice lo hi C.put)

    lo_is : lo ≡ put_before a C.es
    unfolding lo
    lo_is = L.marked.puts a (omega (arith, L.within))

    hi_is : hi ≡ put_before (suc a) C.es
    unfolding hi
    hi_is = L.marked.puts (a + 1) (omega (arith, L.within)) ∙ ap (λ (i : ℕ). put_before i C.es) (add-one a)

    enough : put_in C.es ≤ length C.put
    enough = let u = C.order.used in omega arith

    hi_in : hi ≤ length C.put
    hi_in = omega (arith, hi_is, put_within (suc a) C.es, enough)

    lead_is : lead own ≡ codes
    unfolding codes
    lead_is =
        let k : many C - a ≡ suc (many C - a - 1) = omega (arith, L.within) in
        ap lead own-marks ∙ ap (λ (i : ℕ). lead (marks a i C.es C.put)) k ∙ put-at a 0 (many C) C.es C.put C.order.places
        ∙ rw (lo_is, hi_is) refl

    clean-by : Says (clean (yield (cons L.tree ∅)) own) (CleanBy r a b)
    clean-by = rw own-marks (by (yield (cons L.tree ∅)) (toks-length (cons L.tree ∅)))
      where
        by : (u : List Tok) → toks (cons L.tree ∅) ≡ length u → Says (clean u (marks a (many C - a) C.es C.put)) (CleanBy r a b)
        by [] n = absurd (omega (arith, L.last))
        by (y ∷ u) n =
            let k : many C - a ≡ suc (length u) + (many C - b) = omega (arith, L.last, L.within) in
            let z : a + suc (length u) ≡ b = omega (arith, L.last) in
            let w : a + 1 ≡ suc a = omega arith in
            let g = L.marked.gones b L.within in
            let g₀ = L.marked.gones a (omega (arith, L.within)) in
            let p = L.marked.puts b L.within in
            let p₀ = L.marked.puts (a + 1) (omega (arith, L.within)) in
            rw k (says_as (clean-marks (many C) C.es C.put C.order.places enough y u a (many C - b))
            (λ s. let e = rw z at s.0 in let f = rw z at s.1 in record { remain = g ∙ e ∙ sym g₀; bare = p ∙ f ∙ sym (p₀ ∙ ap (λ (i : ℕ). put_before i C.es) w) })
            (λ B. rw z (sym g ∙ B.remain ∙ g₀, sym p ∙ B.bare ∙ p₀ ∙ ap (λ (i : ℕ). put_before i C.es) w)))

    -- a row that ends the list has no more tokens than the text
    last-toks : (f g : Row) → f ⧺ g ≡ list C → toks g ≤ 2048
    last-toks f g e = omega (arith, ap toks e, toks-append f g, few_list C)

    toks-codes : toks (row codes) ≡ hi - lo
    unfolding codes
    toks-codes = toks-row (inserted (slice lo hi C.put)) ∙ length_inserted (slice lo hi C.put) ∙ length-slice lo hi C.put hi_in

    up : lo ≤ hi
    up = omega (arith, lo_is, hi_is, put_grows a (suc a) C.es (omega arith))

    -- ---- it is clean
    module _ (B : CleanBy r a b) where
      clean_is : pieces (erase L.rest) (all_marks C) ⧺ (row codes ⧺ cons L.tree L.done) ≡ list C
      unfolding own
      clean_is =
          let e = piece-clean own L.tree (omega (arith, L.last)) (clean-by.from B) ∙ ap (λ (w : List Tok). row w ⧺ cons L.tree ∅) lead_is in
          ap (pieces (erase L.rest) (all_marks C) ⧺◌)
          (ap (row codes ⧺◌) (sym (cons-row L.tree L.done)) ∙ sym (row_assoc (row codes) (cons L.tree ∅) L.done) ∙ ap (◌⧺ L.done) (sym e))
          ∙ L.is

      clean-toks : m + 1 + (hi - lo) ≤ 2048
      clean-toks =
          omega (
            arith,
            last-toks (pieces (erase L.rest) (all_marks C)) (row codes ⧺ cons L.tree L.done) clean_is,
            toks-append (row codes) (cons L.tree L.done),
            toks-codes,
            ap toks (cons-row L.tree L.done),
            toks-append (cons L.tree ∅) L.done,
            pending_toks L.pending,
            L.last,
          )

      pub push_clean : m < 2048
      push_clean = omega (arith, clean-toks)

      -- the room r₁ has the piece on the list
      module _ (r₁ : List ℕ) (pushed : r₁ ≡ set r (list_at + m) (pos - 1)) where
        low : (i : ℕ) → i ≤ 2048 → get_or r₁ (puts_at + i) 0 ≡ get_or r (puts_at + i) 0
        low i k = rw pushed (get_or-set_other r (list_at + m) (puts_at + i) (pos - 1) 0 (λ e. omega arith))

        lo₁ : get_or r₁ (puts_at + a) 0 ≡ lo
        unfolding lo
        lo₁ = low a (omega (arith, L.within, few_tokens C))

        hi₁ : get_or r₁ (puts_at + (a + 1)) 0 ≡ hi
        unfolding hi
        hi₁ = low (a + 1) (omega (arith, L.within, few_tokens C))

        pub room-clean : Room (m + 1) (get_or r₁ (puts_at + a) 0) (get_or r₁ (puts_at + (a + 1)) 0)
        room-clean = rw (lo₁, hi₁) (record { up = up; high = omega (arith, hi_in, few_put C); fits = clean-toks })

        pub step-clean : get_or old 0 0 ≤ 2048 → 16384 ≤ length r → {r₂ : List ℕ} {k : ℕ} → Pushes r₁ r₂ (m + 1) (get_or r₁ (puts_at + a) 0) (get_or r₁ (puts_at + (a + 1)) 0) k → Going C r₂ from k
        unfolding codes
        step-clean n long {r₂} {k} P =
            let Q : Pushes r₁ r₂ (m + 1) lo hi k = rw (lo₁, hi₁) at P in
            let z : m + 1 ≡ suc m = omega arith in
            let p : Pending C.t old C.put r₁ (m + 1) (cons L.tree L.done) =
            rw (pushed, z) (piece (pos - 1) L.tree (get_or-set_same r (list_at + m) (pos - 1) 0 (omega (arith, push_clean))) (omega (arith, L.inside, L.reach)) L.piece (omega (arith, L.last))
            (pending_stands (λ j q. get_or-set_other r (list_at + m) (list_at + j) (pos - 1) 0 (λ u. omega arith)) L.pending)) in
            let e : Elsewhere r r₁ = rw pushed (pushes m (pos - 1) push_clean (unmoved r)) in
            on (row codes ⧺ cons L.tree L.done) (then e Q.elsewhere) clean_is (Q.holds C.t old C.put (cons L.tree L.done) hi_in p)

    -- ---- it is not
    module _ (not : CleanBy r a b → ⊥) where
      unclean : clean (yield (cons L.tree ∅)) own ≡ false
      unclean = by (clean (yield (cons L.tree ∅)) own) clean-by.to
        where
          by : (c : Bool) → (c ≡ true → CleanBy r a b) → c ≡ false
          by true f = absurd (not (f refl))
          by false f = refl

      -- a token
      module _ (small : kind_at old (pos - 1) < 256) where
        gone_is : pieces (erase L.rest) (all_marks C) ⧺ (row codes ⧺ L.done) ≡ list C
        unfolding own
        gone_is = ap (λ (f : Row). pieces (erase L.rest) (all_marks C) ⧺ (f ⧺ L.done)) (sym (by L.tree (root L.piece) unclean ∙ ap row lead_is)) ∙ L.is
          where
            by : (x : Tree) → Root old (pos - 1) x → clean (yield (cons x ∅)) own ≡ false → pieces (cons x ∅) own ≡ row (lead own)
            by (leaf y) w e = token_gone own y e
            by (node q c) w e = absurd (omega (arith, w.kind))

        pub room_gone : Room m (get_or r (puts_at + a) 0) (get_or r (puts_at + (a + 1)) 0)
        unfolding lo hi
        room_gone =
            record {
              up = up;
              high = omega (arith, hi_in, few_put C);
              fits = omega (
                arith,
                last-toks (pieces (erase L.rest) (all_marks C)) (row codes ⧺ L.done) gone_is,
                toks-append (row codes) L.done,
                toks-codes,
                pending_toks L.pending,
              );
            }

        pub step_gone : {r₂ : List ℕ} {k : ℕ} → Pushes r r₂ m (get_or r (puts_at + a) 0) (get_or r (puts_at + (a + 1)) 0) k → Going C r₂ from k
        unfolding codes lo hi
        step_gone P = on (row codes ⧺ L.done) P.elsewhere gone_is (P.holds C.t old C.put L.done hi_in L.pending)

      -- a node: its children are still to be passed
      pub step-broken : 256 ≤ kind_at old (pos - 1) → Going C r (pos - 1) m
      unfolding own
      step-broken large = by L.tree L.piece L.start L.last unclean L.is
        where
          by : (x : Tree) (P : Piece C.t old (pos - 1) x) → P.start ≡ from → b ≡ a + toks (cons x ∅) → clean (yield (cons x ∅)) own ≡ false
              → pieces (erase L.rest) (all_marks C) ⧺ (pieces (cons x ∅) own ⧺ L.done) ≡ list C → Going C r (pos - 1) m
          by (leaf (mk k i)) P s l e is = absurd (omega (arith, (root P).kind, (root_real P).1, C.few))
          by (node q c) P s l e is =
              let I = inside P in
              let n : I.start ≡ size (erase L.rest) = omega (arith, I.ends, P.ends, L.at) in
              let j : erase (join L.rest I.kids) ≡ erase L.rest ⧺ c = erase-join L.rest I.kids ∙ ap (erase L.rest ⧺◌) I.is in
              record {
                left = join L.rest I.kids;
                done = L.done;
                forest = forest_join L.rest I.kids (omega (arith, n)) L.before I.forest;
                at = ap size j ∙ size-append (erase L.rest) c ∙ omega (arith, I.ends);
                within = omega (arith, ap toks j, toks-append (erase L.rest) c, L.first, L.within);
                is = ap (◌⧺ L.done) (ap (λ (f : Row). pieces f (all_marks C)) j ∙ pieces-append (erase L.rest) c (all_marks C))
                    ∙ row_assoc (pieces (erase L.rest) (all_marks C)) (pieces c own) L.done
                    ∙ ap (λ (f : Row). pieces (erase L.rest) (all_marks C) ⧺ (f ⧺ L.done)) (sym (node_broken own q c (omega arith) e)) ∙ is;
                pending = L.pending;
                counted = L.counted;
                marked = L.marked;
              }
