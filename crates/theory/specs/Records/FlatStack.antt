-- The records of a stack: a reduction only appends one, and a right-break cuts off what stands after the last token.
use Rattle.std.specs.Prelude.{◌≡◌, refl, List, [], ◌∷◌, ◌++◌, ℕ, zero, suc, ◌+◌, length}
use Rattle.std.proofs.Common.{sym, ap, ◌∙◌, append_assoc, append-nil, arith, length-append}
use Rattle.definitions.specs.Table.{tm, nt, Table}
use Rattle.definitions.specs.Tree.{Tok, kind, Row, ∅, tok, nod, size, yield}
use Rattle.definitions.specs.Reading.{leaf, node, Stack, bot, push, top, pop, popped}
use Rattle.definitions.specs.Moves.{to, pick, right_break, standing}
use Rattle.theory.specs.Records.Flat.{Word, wtok, wnod, flat, length-flat, trim, toks_of, toks_of_flat, trim-left, trim_right}

abbrev pub flat_s : Stack → List Word
flat_s bot = []
flat_s (push σ s (leaf x)) = flat_s σ ++ (wtok x ∷ [])
flat_s (push σ s (node q c)) = flat_s σ ++ (flat c ++ (wnod q (suc (size c)) ∷ []))

-- so a reduction by p appends `wnod p (suc (size c))` to the words of the stack
pub pop-flat : (d : ℕ) (σ : Stack) (f : Row) {c : Row} {τ : Stack} → pop d σ f ≡ popped c τ → flat_s τ ++ flat c ≡ flat_s σ ++ flat f
pop-flat zero σ f e = cc
pop-flat (suc d) bot f e = cc
pop-flat (suc d) (push σ s (leaf x)) f e = rw append_assoc (pop-flat d σ (tok x f) e)
pop-flat (suc d) (push σ s (node q k)) f e = simp append_assoc (pop-flat d σ (nod q k f) e)

-- the records that a right-break leaves standing
pub standing-flat : (f : Row) → length (trim (flat f)) ≡ standing f
standing-flat ∅ = refl
standing-flat (tok x f) = ap suc (standing-flat f)
standing-flat (nod q c f) = by (standing-flat c) (standing-flat f) (yield f) (toks_of_flat f)
  where
    w : Word
    w = wnod q (suc (size c))

    by : length (trim (flat c)) ≡ standing c → length (trim (flat f)) ≡ standing f → (u : List Tok) → toks_of (flat f) ≡ u
        → length (trim (flat c ++ (w ∷ flat f))) ≡ pick u (standing c) (size c + suc (standing f))
    by kc kf [] e = ap length (trim-left (flat c) (w ∷ flat f) e) ∙ kc
    by kc kf (x ∷ u) e =
        ap length (trim_right (flat c) (w ∷ flat f) e ∙ ap (flat c ++◌) (trim_right (w ∷ []) (flat f) e))
        ∙ omega (arith, length-append (flat c) (w ∷ trim (flat f)), length-flat c)

module _ (G : Table) where
  -- a right-break cuts off the records after the last token
  pub break_flat : (f : Row) (σ : Stack) → flat_s (right_break G f σ) ≡ flat_s σ ++ trim (flat f)
  break_flat ∅ σ = sym (append-nil (flat_s σ))
  break_flat (tok x f) σ = break_flat f (push σ (to G (top σ) (tm (kind x))) (leaf x)) ∙ append_assoc (flat_s σ) (wtok x ∷ []) (trim (flat f))
  break_flat (nod q c f) σ = by (break_flat c σ) (break_flat f σ') (yield f) (toks_of_flat f)
    where
      σ' : Stack
      σ' = push σ (to G (top σ) (nt (G.lhs q))) (node q c)

      w : Word
      w = wnod q (suc (size c))

      by : flat_s (right_break G c σ) ≡ flat_s σ ++ trim (flat c) → flat_s (right_break G f σ') ≡ flat_s σ' ++ trim (flat f) → (u : List Tok) → toks_of (flat f) ≡ u
          → flat_s (pick u (right_break G c σ) (right_break G f σ')) ≡ flat_s σ ++ trim (flat c ++ (w ∷ flat f))
      by kc kf [] e = kc ∙ ap (flat_s σ ++◌) (sym (trim-left (flat c) (w ∷ flat f) e))
      by kc kf (x ∷ u) e =
          kf ∙ append_assoc (flat_s σ) (flat c ++ (w ∷ [])) (trim (flat f)) ∙ ap (flat_s σ ++◌) (append_assoc (flat c) (w ∷ []) (trim (flat f)))
          ∙ ap (flat_s σ ++◌) (sym (trim_right (flat c) (w ∷ flat f) e ∙ ap (flat c ++◌) (trim_right (w ∷ []) (flat f) e)))
