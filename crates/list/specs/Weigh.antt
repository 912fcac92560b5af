-- The tokens of the list, entry by entry.
use Rattle.std.specs.Prelude.{◌≡◌, refl, List, ℕ, suc, ◌+◌, ◌-◌, ◌≤◌, ◌<◌, length, get_or}
use Rattle.std.proofs.Common.{[], ◌∷◌, sym, ap, ◌∙◌, subst, arith, length-append}
use Rattle.std.proofs.lemmas.List.{get_or_push, get_or_append_left}
use Rattle.std.specs.List.{push}
use Rattle.definitions.specs.Sheet.{T}
use Rattle.definitions.specs.Tree.{Row, ∅, toks}
use Rattle.definitions.specs.Reading.{cons}
use Rattle.tree.specs.Rows.{size_at}
use Rattle.tree.specs.Tokens.{tokens}
use Rattle.list.specs.Pieces.{root, tokens_of}
use Rattle.list.specs.Pending.{list_at, tokens_at, Pending, Next, old_piece, new_code, next, nothing, Counted, toks_cons, pending_toks}

-- the list of m words is f
pub record Counting (t old put r : List ℕ) (m : ℕ) (f : Row) : Type 0 where
  pub few : T t ≤ 256
  pub pending : Pending t old put r m f
  pub counted : Counted old r
  pub small : toks f ≤ 2048

-- the entry e on top of m words
pub record Weighed (t old put r : List ℕ) (m e : ℕ) (f : Row) : Type 0 where
  pub few : T t ≤ 256
  pub on-top : Next t old put r m e f
  pub counted : Counted old r
  pub small : toks f ≤ 2048

-- it has w of the tokens, and the m words have the rest
pub record Weighs (t old put r : List ℕ) (m w : ℕ) (f : Row) : Type 0 where
  pub rest : Row
  pub pending : Pending t old put r m rest
  pub is : toks f ≡ w + toks rest

-- a piece's tokens, and a code is one
pub record Weight (t old put r : List ℕ) (m e : ℕ) (f : Row) : Type 0 where
  pub piece : e < 2048 → (e < get_or old 0 0) × (size_at old e ≤ suc e) × (get_or r (tokens_at + (suc e - size_at old e)) 0 ≤ get_or r (tokens_at + suc e) 0)
      × Weighs t old put r m (get_or r (tokens_at + suc e) 0 - get_or r (tokens_at + (suc e - size_at old e)) 0) f
  pub code : 2048 ≤ e → Weighs t old put r m 1 f

pub weight : {t old put r : List ℕ} {m e : ℕ} {f : Row} → Weighed t old put r m e f → Weight t old put r m e f
weight {t} {old} {put} {r} {m} {e} {f} W = by e f W.on-top
  where
    by : (e : ℕ) (f : Row) → Next t old put r m e f → Weight t old put r m e f
    by e f (old_piece {f = g} x l P h q) =
        let w = root P in
        let s : P.start ≡ suc e - size_at old e = omega (arith, P.ends, w.many) in
        let a = W.counted (suc e) (omega (arith, w.within)) in
        let b = W.counted (suc e - size_at old e) (omega (arith, w.within)) in
        let k : tokens old (suc e) ≡ tokens old (suc e - size_at old e) + toks (cons x ∅) = tokens_of W.few P ∙ ap (λ (i : ℕ). tokens old i + toks (cons x ∅)) s in
        record {
          piece = λ u. (w.within, omega (arith, P.ends, w.many), omega arith, record { rest = g; pending = q; is = omega (arith, toks_cons x g) });
          code = λ u. absurd (omega arith);
        }
    by e f (new_code {f = g} k l q) = record { piece = λ u. absurd (omega arith); code = λ u. record { rest = g; pending = q; is = omega arith } }

-- ---- k words are still to be weighed, and the others have so many tokens
pub record Weighing (t old put r : List ℕ) (k total : ℕ) (f : Row) : Type 0 where
  pub few : T t ≤ 256
  pub counted : Counted old r
  pub small : toks f ≤ 2048
  pub rest : Row
  pub pending : Pending t old put r k rest
  pub is : toks f ≡ total + toks rest

pub all_weighed : {t old put r : List ℕ} {m : ℕ} {f : Row} → Counting t old put r m f → Weighing t old put r m 0 f
all_weighed {f = f} C = record { few = C.few; counted = C.counted; small = C.small; rest = f; pending = C.pending; is = omega arith }

pub none_weighed : {t old put r : List ℕ} {k total : ℕ} {f : Row} → k ≡ 0 → Weighing t old put r k total f → total ≡ toks f
none_weighed {t} {old} {put} {r} {k} e W = omega (arith, W.is, ap toks (nothing (subst (λ (i : ℕ). Pending t old put r i W.rest) e W.pending)))

pub few_left : {t old put r : List ℕ} {k total : ℕ} {f : Row} → Weighing t old put r k total f → total + k ≤ 2048
few_left W = omega (arith, W.is, W.small, pending_toks W.pending)

pub on-top : {t old put r : List ℕ} {k total : ℕ} {f : Row} → 0 < k → (W : Weighing t old put r k total f) → Weighed t old put r (k - 1) (get_or r (list_at + (k - 1)) 0) W.rest
on-top {t} {old} {put} {r} {k} h W =
    let e : k ≡ suc (k - 1) = omega arith in
    record { few = W.few; on-top = next (k - 1) (subst (λ (i : ℕ). Pending t old put r i W.rest) e W.pending); counted = W.counted; small = omega (arith, W.is, W.small) }

pub one_weighed : {t old put r : List ℕ} {k total w : ℕ} {f : Row} → (W : Weighing t old put r k total f) → Weighs t old put r (k - 1) w W.rest → Weighing t old put r (k - 1) (total + w) f
one_weighed W X = record { few = W.few; counted = W.counted; small = W.small; rest = X.rest; pending = X.pending; is = omega (arith, W.is, X.is) }

-- ---- the words of the list, as they are lent
-- l are the list's first words
abbrev pub Begins : List ℕ → List ℕ → Type 0
Begins r l = (i : ℕ) → i < length l → get_or l i 0 ≡ get_or r (list_at + i) 0

-- its last word off
pub off_end : (r l l' : List ℕ) (x : ℕ) → Begins r l → l ≡ push l' x
    → (length l ≡ suc (length l')) × (x ≡ get_or r (list_at + length l') 0) × Begins r l'
off_end r l l' x B e =
    let n : length l ≡ suc (length l') = ap length e ∙ length-append l' (x ∷ []) ∙ omega arith in (
      n,
      sym (get_or_push l' x 0 (length l') refl) ∙ sym (ap (λ (w : List ℕ). get_or w (length l') 0) e) ∙ B (length l') (omega (arith, n)),
      λ i h. sym (get_or_append_left l' (x ∷ []) 0 i h) ∙ sym (ap (λ (w : List ℕ). get_or w i 0) e) ∙ B i (omega (arith, n)),
    )

module _ {t old put r : List ℕ} {total : ℕ} {f : Row} (l l' : List ℕ) (x : ℕ) (B : Begins r l) (e : l ≡ push l' x) (W : Weighing t old put r (length l) total f) where
  less : length l - 1 ≡ length l'
  less = omega (arith, (off_end r l l' x B e).0)

  pub end_weighed : Weighed t old put r (length l') x W.rest
  end_weighed = let o = off_end r l l' x B e in rw o.1 (rw less at (on-top (omega (arith, o.0)) W))

  pub end_off : {w : ℕ} → Weighs t old put r (length l') w W.rest → Weighing t old put r (length l') (total + w) f
  end_off {w} X = let Y : Weighs t old put r (length l - 1) w W.rest = rw less X in rw less at (one_weighed W Y)
