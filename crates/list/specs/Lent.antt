-- The first 16,384 words of a room, lent alone: what they hold of the list is what the room holds of it.
use Rattle.std.specs.Prelude.{◌≡◌, List, ℕ, ◌+◌, ◌≤◌, ◌<◌, ◌++◌, length, get_or, take, drop}
use Rattle.std.proofs.Common.{sym, ap, ◌∙◌, arith, get_or-take, take-take, length-append, length-drop, length-take-le}
use Rattle.std.proofs.lemmas.List.{take-append-drop, take-append-le, drop-append-le}
use Rattle.std.proofs.Math.Seq.{take-append_seam, drop-append_seam}
use Rattle.definitions.specs.Tree.{Row, toks}
use Rattle.definitions.specs.Moves.{tokened}
use Rattle.theory.specs.Machine.Rows.{toks-append}
use Rattle.list.specs.Pending.{list_at, tokens_at, Pending, pending_stands, pending_toks, Counted}
use Rattle.list.specs.Opening.{Opens, Elsewhere}

module _ {w : List ℕ} (r : List ℕ) (first : w ≡ take 16384 r) where
  pub first_long : 16384 ≤ length r → length w ≡ 16384
  first_long h = ap length first ∙ length-take-le 16384 r h

  word : (j : ℕ) → j < 16384 → get_or w j 0 ≡ get_or r j 0
  word j h = ap (λ (l : List ℕ). get_or l j 0) first ∙ get_or-take 16384 r j 0 h

  pub pending_first : {t old put : List ℕ} {m : ℕ} {f : Row} → m ≤ 2048 → Pending t old put r m f → Pending t old put w m f
  pending_first h = pending_stands (λ j i. word (list_at + j) (omega arith))

  pub pending_whole : {t old put : List ℕ} {m : ℕ} {f : Row} → m ≤ 2048 → Pending t old put w m f → Pending t old put r m f
  pending_whole h = pending_stands (λ j i. sym (word (list_at + j) (omega arith)))

  pub counted_first : (old : List ℕ) → get_or old 0 0 ≤ 2048 → Counted old r → Counted old w
  counted_first old h C j i = word (tokens_at + j) (omega arith) ∙ C j i

  pub counted_whole : (old : List ℕ) → get_or old 0 0 ≤ 2048 → Counted old w → Counted old r
  counted_whole old h C j i = sym (word (tokens_at + j) (omega arith)) ∙ C j i

  pub opens_first : {t old put : List ℕ} {v m : ℕ} {g : Row} → get_or old 0 0 ≤ 2048 → Opens t old put r v m g → Opens t old put w v m g
  opens_first {old = old} h O =
      record {
        prod = O.prod;
        kids = O.kids;
        rest = O.rest;
        few = O.few;
        whole = O.whole;
        pending = pending_first (omega (arith, pending_toks O.pending, toks-append (tokened O.kids) O.rest, ap toks O.is, O.small)) O.pending;
        counted = counted_first old h O.counted;
        is = O.is;
        small = O.small;
      }

-- they are handed back as w
module _ (w r : List ℕ) (long : length w ≡ 16384) where
  pub first_back : w ≡ take 16384 (w ++ drop 16384 r)
  first_back = sym (rw long at (take-append_seam w (drop 16384 r)))

  pub rest_back : drop 16384 (w ++ drop 16384 r) ≡ drop 16384 r
  rest_back = rw long at (drop-append_seam w (drop 16384 r))

  pub elsewhere_back : {u : List ℕ} → u ≡ take 16384 r → 16384 ≤ length r → Elsewhere u w → Elsewhere r (w ++ drop 16384 r)
  elsewhere_back {u} e h E =
      let d = drop 16384 r in
      let l : length u ≡ 16384 = omega (arith, E.long) in
      let z : u ++ d ≡ r = ap (◌++ d) e ∙ take-append-drop 16384 r in
      record {
        below = take-append-le list_at w d (omega arith) ∙ E.below ∙ ap (take list_at) e ∙ take-take list_at 16384 r (omega arith);
        above = drop-append-le tokens_at w d (omega arith) ∙ ap (◌++ d) E.above ∙ sym (drop-append-le tokens_at u d (omega arith)) ∙ ap (drop tokens_at) z;
        long = length-append w d ∙ omega (arith, length-drop 16384 r);
      }
