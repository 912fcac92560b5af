-- What a right-break leaves of a row: the records up to the last token, and the number of breaks by the records after it.
use Rattle.std.specs.Prelude.{◌≡◌, refl, List, [], ◌∷◌, ◌++◌, ℕ, suc, ◌+◌, ◌≤◌, ◌<◌, length}
use Rattle.std.proofs.Common.{sym, ap, ◌∙◌, append-nil, arith, length-append}
use Rattle.definitions.specs.Table.{tm, nt, Table}
use Rattle.definitions.specs.Tree.{Tok, kind, Row, ∅, tok, nod, ◌⧺◌, size, toks, yield}
use Rattle.definitions.specs.Reading.{leaf, node, Stack, push, top}
use Rattle.definitions.specs.Moves.{to, pick, spread, right_break, standing, breaks}
use Rattle.theory.specs.Machine.Rows.{toks-length, yield-append}
use Rattle.theory.specs.Records.Flat.{Word, wtok, wnod, flat, length-flat, trim, toks_of, toks_of_flat, trim-left, trim_right}
use Rattle.theory.specs.Records.FlatStack.{standing-flat}
use Rattle.theory.specs.Records.Scan.{flat_append}

-- the row that it leaves
abbrev pub cut : Row → Row
cut ∅ = ∅
cut (tok x f) = tok x (cut f)
cut (nod q c f) = pick (yield f) (cut c) (nod q c (cut f))

module _ (G : Table) where
  pub break_cut : (f : Row) (σ : Stack) → right_break G f σ ≡ spread G (cut f) σ
  break_cut ∅ σ = refl
  break_cut (tok x f) σ = break_cut f (push σ (to G (top σ) (tm (kind x))) (leaf x))
  break_cut (nod q c f) σ = by (yield f) (break_cut c σ) (break_cut f σ')
    where
      σ' : Stack
      σ' = push σ (to G (top σ) (nt (G.lhs q))) (node q c)

      by : (u : List Tok) → right_break G c σ ≡ spread G (cut c) σ → right_break G f σ' ≡ spread G (cut f) σ' → pick u (right_break G c σ) (right_break G f σ') ≡ spread G (pick u (cut c) (nod q c (cut f))) σ
      by [] kc kf = kc
      by (x ∷ u) kc kf = kf

pub flat-cut : (f : Row) → flat (cut f) ≡ trim (flat f)
flat-cut ∅ = refl
flat-cut (tok x f) = ap (wtok x ∷◌) (flat-cut f)
flat-cut (nod q c f) = by (yield f) (toks_of_flat f) (flat-cut c) (flat-cut f)
  where
    w : Word
    w = wnod q (suc (size c))

    by : (u : List Tok) → toks_of (flat f) ≡ u → flat (cut c) ≡ trim (flat c) → flat (cut f) ≡ trim (flat f) → flat (pick u (cut c) (nod q c (cut f))) ≡ trim (flat c ++ (w ∷ flat f))
    by [] e kc kf = kc ∙ sym (trim-left (flat c) (w ∷ flat f) e)
    by (x ∷ u) e kc kf = ap (λ (l : List Word). flat c ++ (w ∷ l)) kf ∙ sym (trim_right (flat c) (w ∷ flat f) e ∙ ap (flat c ++◌) (trim_right (w ∷ []) (flat f) e))

-- ---- a row by its last piece: without tokens it goes, with tokens what stands before it stays
none : (f : Row) → toks f ≡ 0 → yield f ≡ []
none f e = by (yield f) (toks-length f)
  where
    by : (u : List Tok) → toks f ≡ length u → u ≡ []
    by [] z = refl
    by (x ∷ u) z = absurd (omega arith)

some : (f : Row) → 0 < toks f → (x : Tok) × (u : List Tok) × (yield f ≡ x ∷ u)
some f h = by (yield f) refl (toks-length f)
  where
    by : (u : List Tok) → yield f ≡ u → toks f ≡ length u → (x : Tok) × (u : List Tok) × (yield f ≡ x ∷ u)
    by [] e z = absurd (omega arith)
    by (x ∷ u) e z = (x, u, e)

pub standing-none : (f g : Row) → toks g ≡ 0 → standing (f ⧺ g) ≡ standing f
standing-none f g e =
    sym (standing-flat (f ⧺ g)) ∙ ap (λ (l : List Word). length (trim l)) (flat_append f g) ∙ ap length (trim-left (flat f) (flat g) (toks_of_flat g ∙ none g e)) ∙ standing-flat f

pub standing-some : (f g : Row) → 0 < toks g → standing (f ⧺ g) ≡ size f + standing g
standing-some f g h =
    let s = some g h in
    sym (standing-flat (f ⧺ g)) ∙ ap (λ (l : List Word). length (trim l)) (flat_append f g) ∙ ap length (trim_right (flat f) (flat g) (toks_of_flat g ∙ s.2))
    ∙ omega (arith, length-append (flat f) (trim (flat g)), length-flat f, standing-flat g)

pub standing-size : (f : Row) → standing f ≤ size f
standing-size ∅ = omega arith
standing-size (tok x f) = omega (arith, standing-size f)
standing-size (nod q c f) = by (yield f) (standing-size c) (standing-size f)
  where
    by : (u : List Tok) → standing c ≤ size c → standing f ≤ size f → pick u (standing c) (size c + suc (standing f)) ≤ size c + suc (size f)
    by [] a b = omega arith
    by (x ∷ u) a b = omega arith

pub standing-toks : (f : Row) → toks f ≤ standing f
standing-toks ∅ = omega arith
standing-toks (tok x f) = omega (arith, standing-toks f)
standing-toks (nod q c f) = by (yield f) (toks-length f) (standing-toks c) (standing-toks f)
  where
    by : (u : List Tok) → toks f ≡ length u → toks c ≤ standing c → toks f ≤ standing f → toks c + toks f ≤ pick u (standing c) (size c + suc (standing f))
    by [] e a b = omega arith
    by (x ∷ u) e a b = omega (arith, standing-size c)

breaks-some : (f g : Row) → 0 < toks g → breaks (f ⧺ g) ≡ breaks g
breaks-some ∅ g h = refl
breaks-some (tok x f) g h = breaks-some f g h
breaks-some (nod q c f) g h = by (yield (f ⧺ g)) (yield-append f g) (breaks-some f g h)
  where
    by : (u : List Tok) → u ≡ yield f ++ yield g → breaks (f ⧺ g) ≡ breaks g → pick u (breaks (f ⧺ g) + suc (pick (yield c) 0 (breaks c))) (breaks (f ⧺ g)) ≡ breaks g
    by [] e k = absurd (omega (arith, ap length e, length-append (yield f) (yield g), toks-length g))
    by (x ∷ u) e k = k

-- a piece without tokens is taken off: one break
pub breaks_off : (f : Row) (q : ℕ) (c : Row) → toks c ≡ 0 → breaks (f ⧺ nod q c ∅) ≡ suc (breaks f)
breaks_off ∅ q c e = rw (none c e) refl
breaks_off (tok x f) q c e = breaks_off f q c e
breaks_off (nod p d f) q c e = by (yield (f ⧺ nod q c ∅)) (yield f) (yield-append f (nod q c ∅) ∙ rw (none c e, append-nil) refl) (breaks (f ⧺ nod q c ∅)) (breaks_off f q c e)
  where
    k : ℕ
    k = suc (pick (yield d) 0 (breaks d))

    by : (u v : List Tok) → u ≡ v → (b : ℕ) → b ≡ suc (breaks f) → pick u (b + k) b ≡ suc (pick v (breaks f + k) (breaks f))
    by [] [] z b h = omega arith
    by [] (x ∷ v) z b h = let y : ◌≡◌ {A = ℕ} 0 1 = cc in absurd (omega arith)
    by (x ∷ u) [] z b h = let y : ◌≡◌ {A = ℕ} 0 1 = cc in absurd (omega arith)
    by (x ∷ u) (y ∷ v) z b h = h

-- a piece with tokens is opened: one break, and its children stand in its place
pub breaks_open : (f : Row) (q : ℕ) (c : Row) → 0 < toks c → breaks (f ⧺ nod q c ∅) ≡ suc (breaks (f ⧺ c))
breaks_open f q c h = breaks-some f (nod q c ∅) (omega arith) ∙ by (yield c) (toks-length c) ∙ ap suc (sym (breaks-some f c h))
  where
    by : (u : List Tok) → toks c ≡ length u → 0 + suc (pick u 0 (breaks c)) ≡ suc (breaks c)
    by [] e = absurd (omega arith)
    by (x ∷ u) e = omega arith

pub breaks_token : (f : Row) (x : Tok) → breaks (f ⧺ tok x ∅) ≡ 0
breaks_token f x = breaks-some f (tok x ∅) (omega arith)
