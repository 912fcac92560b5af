-- How large a number of one, two or eight bytes can be; and a place in n rows of w cells.
use Rattle.std.specs.Prelude.{List, ℕ, ◌+◌, ◌*◌, ◌^◌, ◌<◌}
use Rattle.std.proofs.Common.{suc-mul, mul-le-mul, mul-le-mul_right, arith, Fits}
use Rattle.std.specs.Int.{w8}
use Rattle.definitions.specs.Sheet.{byte, word, eight}

-- every byte is a byte
abbrev pub Bytes : List ℕ → Type 0
Bytes t = (i : ℕ) → byte t i < 256

-- of a lent sheet Rattle tells so: it is handed to a proof as `c.shared-slice-known.given`
pub lent_bytes : (t : List ℕ) → ((i : ℕ) → Fits w8 (byte t i)) → Bytes t
lent_bytes t f i = (f i).fits

module _ (t : List ℕ) (b : Bytes t) where
  pub word_small : (i : ℕ) → word t i < 65536
  word_small i = omega (arith, b i, b (i + 1))

  pub eight-small : (i : ℕ) → eight t i < 2 ^ 64
  eight-small i = omega (arith, word_small i, word_small (i + 2), word_small (i + 4), word_small (i + 6))

-- cell a of row s is one of n rows of w cells
pub cell_within : (s a n w : ℕ) → s < n → a < w → s * w + a < n * w
cell_within s a n w h k = omega (arith, suc-mul s w, mul-le-mul_right w h)

pub product_small : (m n : ℕ) → m < 256 → n < 256 → m * n < 65536
product_small m n h k = omega (arith, mul-le-mul {n₁ = m} {m₁ = n} {n₂ = 255} {m₂ = 255} (omega arith) (omega arith))
