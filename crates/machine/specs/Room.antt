-- How the working room holds the machine: from word 0 the nodes' records in written order, three words each; at 6,144 + p the state
-- after the first p nodes. The top piece's root is the last record, and its size says where the piece starts.
use Rattle.std.specs.Prelude.{◌≡◌, List, [], ◌∷◌, ℕ, ◌+◌, ◌*◌, get_or, take, set}
use Rattle.definitions.specs.Tree.{kind, ident}
use Rattle.definitions.specs.Reading.{Tree, Stack, bot, push, held}
use Rattle.theory.specs.Records.Flat.{Word, wtok, wnod}
use Rattle.theory.specs.Records.FlatStack.{flat_s}

-- a record's three words: kind; a token's identity (0 for an inserted one), and 0 for an inner node; size
abbrev pub kind_w : Word → ℕ
kind_w (wtok x) = kind x
kind_w (wnod q n) = 256 + q

abbrev pub ident_w : Word → ℕ
ident_w (wtok x) = ident x
ident_w (wnod q n) = 0

abbrev pub size_w : Word → ℕ
size_w (wtok x) = 1
size_w (wnod q n) = n

unfoldable pub enc : List Word → List ℕ
enc [] = []
enc (w ∷ l) = kind_w w ∷ ident_w w ∷ size_w w ∷ enc l

-- where the states start, and the first word past them
abbrev pub states_at : ℕ
states_at = 6144

abbrev pub states_end : ℕ
states_end = 8193

-- the state after each piece of the stack
pub data States (r : List ℕ) : Stack → Type 0 where
  base : get_or r states_at 0 ≡ 0 → States r bot
  over : {σ : Stack} {s : ℕ} {t : Tree} → get_or r (states_at + held (push σ s t)) 0 ≡ s → States r σ → States r (push σ s t)

-- the room r holds the n nodes of σ
pub record Holds (r : List ℕ) (n : ℕ) (σ : Stack) : Type 0 where
  pub many : n ≡ held σ
  pub states : States r σ
  pub records : take (3 * n) r ≡ enc (flat_s σ)

-- one record more, and the state after it
abbrev pub row3 : List ℕ → ℕ → ℕ → ℕ → ℕ → List ℕ
row3 r n a b c = set (set (set r (3 * n) a) (3 * n + 1) b) (3 * n + 2) c

abbrev pub put : List ℕ → ℕ → ℕ → ℕ → ℕ → ℕ → List ℕ
put r n s a b c = set (row3 r n a b c) (states_at + (n + 1)) s
