-- A left-break: the children of a piece, those without tokens dropped, put on the list from the last back.
use Rattle.std.specs.Prelude.{◌≡◌, refl, List, [], ◌∷◌, ℕ, suc, ◌+◌, ◌-◌, ◌≤◌, ◌<◌}
use Rattle.std.proofs.Common.{sym, ap, ◌∙◌, subst, arith, get_or-set_same, get_or-set_other, drop-set-lt}
use lib.ListN.{length, get_or, set, take, drop, length-set}
use Rattle.std.proofs.lemmas.List.{take-set-le}
use Rattle.definitions.specs.Sheet.{T}
use Rattle.definitions.specs.Tree.{Tok, Row, ∅, tok, nod, ◌⧺◌, size, toks, yield, NRow, ε, ntok, nnod, erase}
use Rattle.definitions.specs.Reading.{Tree, leaf, node, cons}
use Rattle.definitions.specs.Moves.{pick, tokened}
use Rattle.theory.specs.Machine.Rows.{toks-length, toks-append, row_assoc, size-append}
use Rattle.tree.specs.Rows.{size_at}
use Rattle.tree.specs.Tokens.{tokens}
use Rattle.list.specs.Pieces.{Forest, Piece, Ending, ending, root, inside, tokens_of}
use Rattle.list.specs.Pending.{list_at, tokens_at, Pending, piece, pending_stands, pending_toks, Counted}

pub cons-row : (x : Tree) (f : Row) → cons x ∅ ⧺ f ≡ cons x f
cons-row (leaf x) f = refl
cons-row (node q c) f = refl

tokened-append : (f g : Row) → tokened (f ⧺ g) ≡ tokened f ⧺ tokened g
tokened-append ∅ g = refl
tokened-append (tok x f) g = ap (tok x) (tokened-append f g)
tokened-append (nod q c f) g = by (yield c) (tokened-append f g)
  where
    by : (u : List Tok) → tokened (f ⧺ g) ≡ tokened f ⧺ tokened g → pick u (tokened (f ⧺ g)) (nod q c (tokened (f ⧺ g))) ≡ pick u (tokened f) (nod q c (tokened f)) ⧺ tokened g
    by [] e = e
    by (x ∷ u) e = ap (nod q c) e

-- a piece with tokens stays, one without goes
tokened-some : (x : Tree) → 0 < toks (cons x ∅) → tokened (cons x ∅) ≡ cons x ∅
tokened-some (leaf x) h = refl
tokened-some (node q c) h = by (yield c) (toks-length c)
  where
    by : (u : List Tok) → toks c ≡ lib.ListN.length u → pick u ∅ (nod q c ∅) ≡ nod q c ∅
    by [] e = absurd (omega arith)
    by (x ∷ u) e = refl

tokened-none : (x : Tree) → toks (cons x ∅) ≡ 0 → tokened (cons x ∅) ≡ ∅
tokened-none (leaf x) h = absurd (omega arith)
tokened-none (node q c) h = by (yield c) (toks-length c)
  where
    by : (u : List Tok) → toks c ≡ lib.ListN.length u → pick u ∅ (nod q c ∅) ≡ ∅
    by [] e = refl
    by (x ∷ u) e = absurd (omega arith)

-- the piece that ends with record v is off the list of m words and about to be opened; then the list is g
pub record Opens (t old put r : List ℕ) (v m : ℕ) (g : Row) : Type 0 where
  pub prod : ℕ
  pub kids : Row
  pub rest : Row
  pub few : T t ≤ 256
  pub whole : Piece t old v (node prod kids)
  pub pending : Pending t old put r m rest
  pub counted : Counted old r
  pub is : tokened kids ⧺ rest ≡ g
  pub small : toks g ≤ 2048

-- the children from record start up to record pos are still to be put on the list
pub record Opening (t old put r : List ℕ) (start pos m : ℕ) (g : Row) : Type 0 where
  pub left : NRow
  pub done : Row
  pub few : T t ≤ 256
  pub is : tokened (erase left) ⧺ done ≡ g
  pub forest : Forest t old start left
  pub at : start + size (erase left) ≡ pos
  pub pending : Pending t old put r m done
  pub counted : Counted old r
  pub small : toks g ≤ 2048

pub opens : {t old put r : List ℕ} {v m : ℕ} {g : Row} → Opens t old put r v m g → (size_at old v ≤ suc v) × Opening t old put r (suc v - size_at old v) v m g
opens {t} {old} {put} {r} {v} {m} {g} O =
    let k = inside O.whole in
    let w = root O.whole in
    let s : k.start ≡ suc v - size_at old v = omega (arith, k.ends, w.many) in (
      omega (arith, k.ends, w.many),
      rw (← s) (record {
        left = k.kids;
        done = O.rest;
        few = O.few;
        is = ap (λ (c : Row). tokened c ⧺ O.rest) k.is ∙ O.is;
        forest = k.forest;
        at = omega (arith, k.ends, ap size k.is);
        pending = O.pending;
        counted = O.counted;
        small = O.small;
      }),
    )

pub opened : {t old put r : List ℕ} {start m : ℕ} {g : Row} → Opening t old put r start start m g → Pending t old put r m g
opened {t} {old} {put} {r} {start} {m} {g} O = by O.left O.at O.is
  where
    by : (f : NRow) → start + size (erase f) ≡ start → tokened (erase f) ⧺ O.done ≡ g → Pending t old put r m g
    by ε a e = subst (Pending t old put r m) e O.pending
    by (ntok k i f) a e = absurd (omega arith)
    by (nnod q i c f) a e = absurd (omega arith)

pub some_size : (x : Tree) → 0 < size (cons x ∅)
some_size (leaf x) = omega arith
some_size (node q c) = omega arith

-- a piece with a token put on the list, one without left off
pub data Keeps (r r' : List ℕ) (m from to : ℕ) : ℕ → Type 0 where
  kept : get_or r (tokens_at + from) 0 < get_or r (tokens_at + to) 0 → r' ≡ set r (list_at + m) (to - 1) → Keeps r r' m from to (m + 1)
  dropped : (get_or r (tokens_at + from) 0 < get_or r (tokens_at + to) 0 → ⊥) → r' ≡ r → Keeps r r' m from to m

-- what is not the list's stands
pub record Elsewhere (r r' : List ℕ) : Type 0 where
  pub below : take list_at r' ≡ take list_at r
  pub above : drop tokens_at r' ≡ drop tokens_at r
  pub long : length r' ≡ length r

-- one child: how far back it starts, and the list with it or without
pub record Child (t old put r : List ℕ) (start pos m : ℕ) (g : Row) : Type 0 where
  pub below : size_at old (pos - 1) ≤ pos
  pub some : 0 < size_at old (pos - 1)
  pub back : start ≤ pos - size_at old (pos - 1)
  pub with : get_or r (tokens_at + (pos - size_at old (pos - 1))) 0 < get_or r (tokens_at + pos) 0
      → (m < 2048) × Opening t old put (set r (list_at + m) (pos - 1)) start (pos - size_at old (pos - 1)) (m + 1) g
  pub without : (get_or r (tokens_at + (pos - size_at old (pos - 1))) 0 < get_or r (tokens_at + pos) 0 → ⊥) → Opening t old put r start (pos - size_at old (pos - 1)) m g

pub child : {t old put r : List ℕ} {start pos m : ℕ} {g : Row} → Opening t old put r start pos m g → start < pos → get_or old 0 0 ≤ 2048 → 16384 ≤ length r → Child t old put r start pos m g
child {t} {old} {put} {r} {start} {pos} {m} {g} O h l long = by (ending (pos - 1) O.left (omega (arith, O.at)) (omega arith) O.forest)
  where
    by : Ending t old start (pos - 1) O.left → Child t old put r start pos m g
    by E =
        let x = E.tree in
        let w = root E.piece in
        let p : suc (pos - 1) ≡ pos = omega arith in
        let at : start + (size (erase E.rest) + size (cons x ∅)) ≡ pos = ap (start +◌) (sym (ap size E.is ∙ size-append (erase E.rest) (cons x ∅))) ∙ O.at in
        let from : E.piece.start ≡ pos - size_at old (pos - 1) = omega (arith, E.starts, w.many) in
        let back : start + size (erase E.rest) ≡ pos - size_at old (pos - 1) = omega (arith, E.starts) in
        let k : tokens old pos ≡ tokens old (pos - size_at old (pos - 1)) + toks (cons x ∅) = ap (tokens old) (sym p) ∙ tokens_of O.few E.piece ∙ ap (λ (s : ℕ). tokens old s + toks (cons x ∅)) from in
        let b = E.piece.forest.within in
        let n = ap size E.piece.is in
        let ca = O.counted (pos - size_at old (pos - 1)) (omega (arith, w.within)) in
        let cb = O.counted pos (omega (arith, w.within)) in
        let some : 0 < size (cons x ∅) = some_size x in
        record {
          below = omega (arith, w.many);
          some = omega (arith, w.many);
          back = omega (arith, w.many);
          with = λ c.
              let e : tokened (erase O.left) ≡ tokened (erase E.rest) ⧺ cons x ∅ =
              ap tokened E.is ∙ tokened-append (erase E.rest) (cons x ∅) ∙ ap (tokened (erase E.rest) ⧺◌) (tokened-some x (omega arith)) in
              let i : tokened (erase E.rest) ⧺ cons x O.done ≡ g =
              ap (tokened (erase E.rest) ⧺◌) (sym (cons-row x O.done)) ∙ sym (row_assoc (tokened (erase E.rest)) (cons x ∅) O.done) ∙ ap (◌⧺ O.done) (sym e) ∙ O.is in
              let few : m < 2048 = omega (
                arith,
                pending_toks O.pending,
                O.small,
                ap toks i,
                toks-append (tokened (erase E.rest)) (cons x O.done),
                ap toks (cons-row x O.done),
                toks-append (cons x ∅) O.done,
              ) in
              let z : m + 1 ≡ suc m = omega arith in (
                few,
                record {
                  left = E.rest;
                  done = cons x O.done;
                  few = O.few;
                  is = i;
                  forest = E.before;
                  at = back;
                  pending = rw z (piece (pos - 1) x (get_or-set_same r (list_at + m) (pos - 1) 0 (omega arith)) (omega (arith, w.within)) E.piece (omega arith)
                      (pending_stands (λ j q. get_or-set_other r (list_at + m) (list_at + j) (pos - 1) 0 (λ u. omega arith)) O.pending));
                  counted = λ j q. get_or-set_other r (list_at + m) (tokens_at + j) (pos - 1) 0 (λ u. omega arith) ∙ O.counted j q;
                  small = O.small;
                },
              );
          without = λ c.
              let e : tokened (erase O.left) ≡ tokened (erase E.rest) ⧺ ∅ =
              ap tokened E.is ∙ tokened-append (erase E.rest) (cons x ∅) ∙ ap (tokened (erase E.rest) ⧺◌) (tokened-none x (omega arith)) in
              record {
                left = E.rest;
                done = O.done;
                few = O.few;
                is = sym (row_assoc (tokened (erase E.rest)) ∅ O.done) ∙ ap (◌⧺ O.done) (sym e) ∙ O.is;
                forest = E.before;
                at = back;
                pending = O.pending;
                counted = O.counted;
                small = O.small;
              };
        }

-- ---- the loop
pub goes : {t old put r r' : List ℕ} {start pos m k : ℕ} {g : Row} → Child t old put r start pos m g → Keeps r r' m (pos - size_at old (pos - 1)) pos k → Opening t old put r' start (pos - size_at old (pos - 1)) k g
goes {t} {old} {put} {start = start} {pos = pos} {m = m} {g = g} C (kept c e) = subst (λ (l : List ℕ). Opening t old put l start (pos - size_at old (pos - 1)) (m + 1) g) (sym e) (C.with c).1
goes {t} {old} {put} {start = start} {pos = pos} {m = m} {g = g} C (dropped c e) = subst (λ (l : List ℕ). Opening t old put l start (pos - size_at old (pos - 1)) m g) (sym e) (C.without c)

pub unmoved : (r : List ℕ) → Elsewhere r r
unmoved r = record { below = refl; above = refl; long = refl }

pub pushes : {r₀ r : List ℕ} (m e : ℕ) → m < 2048 → Elsewhere r₀ r → Elsewhere r₀ (set r (list_at + m) e)
pushes {r₀} {r} m e h E =
    record {
      below = take-set-le list_at r (list_at + m) e (omega arith) ∙ E.below;
      above = drop-set-lt tokens_at r (list_at + m) e (omega arith) ∙ E.above;
      long = length-set r (list_at + m) e ∙ E.long;
    }

pub keeps_elsewhere : {r₀ r r' : List ℕ} {m from to k : ℕ} → (get_or r (tokens_at + from) 0 < get_or r (tokens_at + to) 0 → m < 2048) → Keeps r r' m from to k → Elsewhere r₀ r → Elsewhere r₀ r'
keeps_elsewhere {r₀} {m = m} f (kept c e) E = subst (λ (l : List ℕ). Elsewhere r₀ l) (sym e) (pushes m _ (f c) E)
keeps_elsewhere {r₀} f (dropped c e) E = subst (λ (l : List ℕ). Elsewhere r₀ l) (sym e) E
