-- A numbering that follows the rule of kept numbers: a new node takes an old piece's numbers, or the next number upward.
use Rattle.std.specs.Prelude.{ℕ, zero, suc}
use Rattle.std.proofs.Math.Decide.{ℕ_discrete, dec_lt}
use Rattle.definitions.specs.Tree.{mk, Row, ∅, tok, nod, toks, NRow, ε, ntok, nnod, erase}
use Rattle.theory.specs.Decide.{and_d, row_d}

-- of a new node: it takes an old piece's numbers throughout, or an old node's number alone, or the next number
pub data Verdict : Type 0 where
  copy : ℕ → NRow → Verdict
  keep : ℕ → Verdict
  new! : Verdict

abbrev pub or_else : Verdict → Verdict → Verdict
or_else (copy i d) v = copy i d
or_else (keep i) v = keep i
or_else new! v = v

abbrev pub when : {A : Type 0} → Dec A → Verdict → Verdict
when (yes h) v = v
when (no h) v = new!

-- the old piece of production q over c; pieces with tokens only
abbrev pub seek : ℕ → Row → NRow → Verdict
seek q c ε = new!
seek q c (ntok k j f) = seek q c f
seek q c (nnod p j d f) = or_else (when (and_d (ℕ_discrete p q) (row_d (erase d) c)) (copy j d)) (or_else (seek q c d) (seek q c f))

abbrev pub judge : NRow → ℕ → Row → Verdict
judge old q c = when (dec_lt 0 (toks c)) (seek q c old)

abbrev pub put : ℕ → Verdict → (ℕ → NRow × ℕ) → (ℕ → NRow × ℕ) → ℕ → NRow × ℕ
put q (copy i d) kc kf n = (nnod q i d (kf n).0, (kf n).1)
put q (keep i) kc kf n = (nnod q i (kc n).0 (kf (kc n).1).0, (kf (kc n).1).1)
put q new! kc kf n = (nnod q (kc n).1 (kc n).0 (kf (suc (kc n).1)).0, (kf (suc (kc n).1)).1)

abbrev pub either : {A : Type 0} → Dec A → NRow × ℕ → NRow × ℕ → NRow × ℕ
either (yes h) a b = a
either (no h) a b = b

module _ (J : ℕ → Row → Verdict) where
  unfoldable pub number : Row → ℕ → NRow × ℕ
  number ∅ n = (ε, n)
  number (tok (mk k zero) f) n = (ntok k n (number f (suc n)).0, (number f (suc n)).1)
  number (tok (mk k (suc i)) f) n = (ntok k (suc i) (number f n).0, (number f n).1)
  number (nod q c f) n = put q (J q c) (number c) (number f) n

  unfoldable pub renumber : NRow → ℕ → Row → NRow × ℕ
  renumber old n f = either (and_d (row_d (erase old) f) (ℕ_discrete (toks f) 0)) (old, n) (number f n)
