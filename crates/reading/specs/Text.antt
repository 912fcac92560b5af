-- The text by the codes: what is left to read from a place on, and what stands next there.
use Rattle.std.specs.Prelude.{◌≡◌, List, [], ◌∷◌, ℕ, zero, suc, ◌<◌, length, get_or, drop}
use Rattle.std.proofs.Common.{arith}
use Rattle.definitions.specs.Tree.{mk, Row, tok, row}
use Rattle.definitions.specs.Edits.{Codes, inserted}
use Rattle.machine.specs.Steps.{Stands, token, end}

-- what is left to read once i codes are shifted
abbrev pub unread : List ℕ → ℕ → Row
unread codes i = row (inserted (drop i codes))

-- a code, or 0 for the end mark
pub stands : (T : ℕ) (codes : List ℕ) (i : ℕ) → Codes T codes → Stands (unread codes i) (get_or codes i 0) 0
stands T [] zero k = end
stands T [] (suc i) k = end
stands T (x ∷ codes) zero k = token k.0
stands T (x ∷ codes) (suc i) k = stands T codes i k.2

-- after a token comes what the next code stands in
pub unread_next : (codes : List ℕ) (i : ℕ) {k j : ℕ} {f : Row} → unread codes i ≡ tok (mk k j) f → (i < length codes) × (unread codes (suc i) ≡ f)
unread_next [] zero e = let z : ◌≡◌ {A = ℕ} 0 1 = cc in absurd (omega arith)
unread_next [] (suc i) e = let z : ◌≡◌ {A = ℕ} 0 1 = cc in absurd (omega arith)
unread_next (x ∷ codes) zero e = (omega arith, cc)
unread_next (x ∷ codes) (suc i) e = let r = unread_next codes i e in (omega arith, r.1)
