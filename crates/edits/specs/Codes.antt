-- The inserted codes, one by one.
use Rattle.std.specs.Prelude.{List, [], ◌∷◌, ℕ, zero, suc, ◌<◌, length, get_or}
use Rattle.std.proofs.Common.{arith}
use Rattle.definitions.specs.Edits.{Codes}

-- a code is a terminal of the n other than the end mark
pub record Known (n code : ℕ) : Type 0 where
  pub above : 0 < code
  pub below : code < n

-- the first m codes are
abbrev pub Knowns : ℕ → List ℕ → ℕ → Type 0
Knowns n codes m = (i : ℕ) → i < m → Known n (get_or codes i 0)

pub to_codes : (n : ℕ) (codes : List ℕ) → Knowns n codes (length codes) → Codes n codes
to_codes n [] f = tt
to_codes n (a ∷ codes) f =
    let k = f zero (omega arith) in
    (k.above, k.below, to_codes n codes (λ i h. f (suc i) (omega arith)))

pub from_codes : (n : ℕ) (codes : List ℕ) → Codes n codes → Knowns n codes (length codes)
from_codes n [] k i h = absurd (omega arith)
from_codes n (a ∷ codes) k zero h = record { above = k.0; below = k.1 }
from_codes n (a ∷ codes) k (suc i) h = from_codes n codes k.2 i (omega arith)
