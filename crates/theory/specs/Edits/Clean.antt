-- A piece is clean by the marks exactly where it is clean by document 01's words: its tokens stand side by side in the new text.
use Rattle.std.specs.Prelude.{◌≡◌, refl, true, false, List, [], ◌∷◌, ◌++◌, ℕ, ◌+◌, ◌≤◌, ◌<◌}
use Rattle.std.proofs.Common.{sym, ap, ◌∙◌, append_assoc, arith}
use Rattle.definitions.specs.Tree.{Tok, ident}
use Rattle.definitions.specs.Edits.{Mark, mark, edited, Clean}
use Rattle.theory.specs.Edits.FromMarks.{lead, tight, clean}
use Rattle.theory.specs.Edits.Edited.{clean_is}
use Rattle.theory.specs.Numbers.Counting.{eqn_same, eqn_eq}
use Rattle.theory.specs.Numbers.Identities.{cnt, cnt-append, cnt-edited, cnt_blank, Blanks, Old}

-- ---- an identity that stands once stands at one place
once : (x : Tok) (p q p' q' : List Tok) → cnt (ident x) (p ++ (x ∷ q)) ≤ 1 → p ++ (x ∷ q) ≡ p' ++ (x ∷ q') → q ≡ q'
once x [] q [] q' h e = cc
once x [] q (y ∷ p') q' h e =
    let z : q ≡ p' ++ (x ∷ q') = cc in
    absurd (omega (arith, eqn_same (ident x), ap (cnt (ident x)) z, cnt-append (ident x) p' (x ∷ q')))
once x (y ∷ p) q [] q' h e =
    let z : y ≡ x = cc in
    absurd (omega (arith, eqn_eq {i = ident x} {j = ident y} (ap ident (sym z)), eqn_same (ident x), cnt-append (ident x) p (x ∷ q)))
once x (y ∷ p) q (y' ∷ p') q' h e = once x p q p' q' (omega arith) (cc)

-- what stands at the front of the rest, token by token, is tight
tight_of : (u : List Tok) (ms : List Mark) (b q : List Tok) → Old u → Blanks ms → ((i : ℕ) → 0 < i → cnt i u + cnt i b ≤ 1) → edited u ms ++ b ≡ u ++ q → tight u ms ≡ true
tight_of [] ms b q o k d e = refl
tight_of (x ∷ u) [] b q o k d e = refl
tight_of (x ∷ u) (mark [] true ∷ ms) b q o k d e = tight_of u ms b q o.1 k.1 (λ i h. omega (arith, d i h)) (cc)
tight_of (x ∷ u) (mark [] false ∷ ms) b q o k d e =
    let c = ap (cnt (ident x)) e in
    absurd (omega (arith, c, d (ident x) o.0, cnt-append (ident x) (edited u ms) b, cnt-append (ident x) (x ∷ u) q, cnt-edited (ident x) u ms o.0 k.1, eqn_same (ident x)))
tight_of (x ∷ u) (mark (y ∷ i) true ∷ ms) b q o k d e = let z : y ≡ x = cc in absurd (omega (arith, ap ident z, k.0.0, o.0))
tight_of (x ∷ u) (mark (y ∷ i) false ∷ ms) b q o k d e = let z : y ≡ x = cc in absurd (omega (arith, ap ident z, k.0.0, o.0))

-- the text before, the edited tokens, the text behind
module _ (text a b : List Tok) (x : Tok) (u : List Tok) (ms : List Mark) (is : text ≡ a ++ (edited (x ∷ u) ms ++ b))
    (o : Old (x ∷ u)) (k : Blanks ms) (d : (i : ℕ) → 0 < i → cnt i a + (cnt i (x ∷ u) + cnt i b) ≤ 1) where
  pub clean_so : clean (x ∷ u) ms ≡ true → Clean text (x ∷ u)
  clean_so e =
      record {
        some = omega arith;
        before = a ++ lead ms;
        behind = b;
        stand = is ∙ rw (clean_is x u ms e) (simp append_assoc);
      }

  pub so_clean : Clean text (x ∷ u) → clean (x ∷ u) ms ≡ true
  so_clean c = by ms is k
    where
      by : (ms : List Mark) → text ≡ a ++ (edited (x ∷ u) ms ++ b) → Blanks ms → clean (x ∷ u) ms ≡ true
      by [] is k = refl
      by (mark i true ∷ ms) is k =
          let e : (a ++ i) ++ (x ∷ (edited u ms ++ b)) ≡ c.before ++ (x ∷ (u ++ c.behind)) = simp append_assoc (sym (rw append_assoc at is) ∙ c.stand) in
          let n : cnt (ident x) ((a ++ i) ++ (x ∷ (edited u ms ++ b))) ≤ 1 =
          omega (arith, cnt-append (ident x) (a ++ i) (x ∷ (edited u ms ++ b)), cnt-append (ident x) a i, cnt_blank (ident x) i o.0 k.0, cnt-append (ident x) (edited u ms) b, cnt-edited (ident x) u ms o.0 k.1, d (ident x) o.0) in
          tight_of u ms b c.behind o.1 k.1 (λ j h. omega (arith, d j h)) (once x (a ++ i) (edited u ms ++ b) c.before (u ++ c.behind) n e)
      by (mark i false ∷ ms) is k =
          let e : a ++ ((i ++ edited u ms) ++ b) ≡ c.before ++ (x ∷ (u ++ c.behind)) = sym is ∙ c.stand in
          let w = ap (cnt (ident x)) e in
          absurd (omega (
            arith,
            w,
            cnt-append (ident x) a ((i ++ edited u ms) ++ b),
            cnt-append (ident x) (i ++ edited u ms) b,
            cnt-append (ident x) i (edited u ms),
            cnt_blank (ident x) i o.0 k.0,
            cnt-edited (ident x) u ms o.0 k.1,
            cnt-append (ident x) c.before (x ∷ (u ++ c.behind)),
            d (ident x) o.0,
            eqn_same (ident x),
          ))
