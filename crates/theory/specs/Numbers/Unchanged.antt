-- The same tree again: all numbers stand, and the next number.
use Rattle.std.specs.Prelude.{◌≡◌, refl, ℕ, ◌<◌}
use Rattle.std.proofs.Common.{sym, subst, arith}
use Rattle.std.proofs.Math.Decide.{dec_lt}
use Rattle.definitions.specs.Tree.{Row, NRow, ε, nnod, erase, toks, Fit}
use Rattle.definitions.specs.Numbers.{here, Rises, cε, ccopy, Kept, the_same, by_rule}
use Rattle.theory.specs.Numbers.Number.{Verdict, renumber}
use Rattle.theory.specs.Numbers.Seek.{unique}
use Rattle.theory.specs.Numbers.Rule.{forget_old, news-none, Fair, piece-forget}
use Rattle.theory.specs.Numbers.Base.{only}

module _ (q i : ℕ) (d : NRow) (K : ℕ → ℕ → Row → Type 0) (J : ℕ → Row → Verdict) (F : Fair (nnod q i d ε) K J) (n : ℕ) (O : Fit n (nnod q i d ε)) where
  same_kept : Dec (0 < toks (erase (nnod q i d ε))) → Kept (nnod q i d ε) K n (erase (nnod q i d ε)) (nnod q i d ε) n
  same_kept (no h) = the_same refl (omega arith)
  same_kept (yes h) =
      by_rule (λ g. omega (arith, g.1)) (record {
        is_row = forget_old n (nnod q i d ε) (λ j l. omega (arith, O.below j l));
        low = O.low;
        equal = λ {q = p} {i = a} {j = k} {d = b} {e = c} s l t z. unique s t (sym z) l O.low O.apart;
        own = λ {q = p} {i = a} {j = k} {d = b} s w. F.heir s (rw (piece-forget (nnod q i d ε) K J F n O s) at w);
        others = ccopy here (omega arith) cε;
        rises = subst (λ l. Rises n l n) (sym (news-none n (nnod q i d ε) (λ j l. O.below j l))) refl;
      })

  pub unchanged : ((renumber J (nnod q i d ε) n (erase (nnod q i d ε))).0 ≡ nnod q i d ε) × ((renumber J (nnod q i d ε) n (erase (nnod q i d ε))).1 ≡ n)
  unchanged = only (nnod q i d ε) K J F n O (same_kept (dec_lt 0 (toks (erase (nnod q i d ε)))))
