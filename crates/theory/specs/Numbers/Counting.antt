-- How often a number or an identity stands in a row: laws of counting, and of the pieces of a tree.
use Rattle.std.specs.Prelude.{◌≡◌, refl, List, [], ◌∷◌, ◌++◌, ℕ, zero, suc, ◌+◌, ◌≤◌, ◌<◌}
use Rattle.std.proofs.Common.{ap, arith}
use Rattle.std.proofs.Math.Decide.{ℕ_discrete, dec_lt}
use lib.ListN.{length, length-append}
use Rattle.definitions.specs.Tree.{Row, ∅, tok, nod, size, yield, ident, toks, NRow, ε, ntok, nnod, erase, bit, eqn, toc, noc, occ, nums}
use Rattle.definitions.specs.Numbers.{Sub, here, under, later, past}

-- ---- eqn is 1 where the two are equal, else 0
bit_yes : {A : Type 0} (d : Dec A) → A → bit d ≡ 1
bit_yes (yes h) a = refl
bit_yes (no h) a = absurd (h a)

bit_no : {A : Type 0} (d : Dec A) → (A → ⊥) → bit d ≡ 0
bit_no (yes h) a = absurd (a h)
bit_no (no h) a = refl

bit_of : {A : Type 0} (d : Dec A) → 0 < bit d → A
bit_of (yes h) l = h
bit_of (no h) l = absurd (omega arith)

pub eqn_same : (i : ℕ) → eqn i i ≡ 1
unfolding eqn
eqn_same i = bit_yes (ℕ_discrete i i) refl

pub eqn_eq : {i j : ℕ} → i ≡ j → eqn i j ≡ 1
unfolding eqn
eqn_eq {i} {j} e = bit_yes (ℕ_discrete i j) e

pub eqn-other : {i j : ℕ} → (i ≡ j → ⊥) → eqn i j ≡ 0
unfolding eqn
eqn-other {i} {j} h = bit_no (ℕ_discrete i j) h

pub eqn_of : (i j : ℕ) → 0 < eqn i j → i ≡ j
unfolding eqn
eqn_of i j h = bit_of (ℕ_discrete i j) h

bit_le : {A : Type 0} (d : Dec A) → bit d ≤ 1
bit_le (yes h) = omega arith
bit_le (no h) = omega arith

pub eqn_le : (i j : ℕ) → eqn i j ≤ 1
unfolding eqn
eqn_le i j = bit_le (ℕ_discrete i j)

-- how often an identity stands in a row
abbrev pub ids : ℕ → Row → ℕ
ids i ∅ = 0
ids i (tok x f) = eqn i (ident x) + ids i f
ids i (nod q c f) = ids i c + ids i f

-- the identities of the tokens directly in the row
abbrev pub direct : Row → List ℕ
direct ∅ = []
direct (tok x f) = ident x ∷ direct f
direct (nod q c f) = direct f

abbrev pub among : ℕ → List ℕ → ℕ
among i [] = 0
among i (x ∷ l) = eqn i x + among i l

-- how often below the top of the row
abbrev pub deep : ℕ → Row → ℕ
deep i ∅ = 0
deep i (tok x f) = deep i f
deep i (nod q c f) = ids i c + deep i f

pub ids_split : (i : ℕ) (f : Row) → ids i f ≡ among i (direct f) + deep i f
ids_split i ∅ = refl
ids_split i (tok x f) = omega (arith, ids_split i f)
ids_split i (nod q c f) = omega (arith, ids_split i f)

pub toc-ids : (i : ℕ) (r : NRow) → toc i r ≡ ids i (erase r)
toc-ids i ε = refl
toc-ids i (ntok k j f) = omega (arith, toc-ids i f)
toc-ids i (nnod p j c f) = omega (arith, toc-ids i c, toc-ids i f)

pub length-yield : (f : Row) → length (yield f) ≡ toks f
length-yield ∅ = refl
length-yield (tok x f) = ap suc (length-yield f)
length-yield (nod q c f) = omega (arith, lib.ListN.length-append (yield c) (yield f), length-yield c, length-yield f)

-- ---- pieces of pieces
pub sub-sub : {p q i j : ℕ} {c d r : NRow} → Sub p i c d → Sub q j d r → Sub p i c r
sub-sub a here = under a
sub-sub a (under b) = under (sub-sub a b)
sub-sub a (later b) = later (sub-sub a b)
sub-sub a (past b) = past (sub-sub a b)

pub sub-toc : {q j : ℕ} {d r : NRow} (i : ℕ) → Sub q j d r → toc i d ≤ toc i r
sub-toc i here = omega arith
sub-toc i (under s) = omega (arith, sub-toc i s)
sub-toc i (later s) = omega (arith, sub-toc i s)
sub-toc i (past s) = omega (arith, sub-toc i s)

pub sub-noc : {q j : ℕ} {d r : NRow} (i : ℕ) → Sub q j d r → noc i d + eqn i j ≤ noc i r
sub-noc i here = omega arith
sub-noc i (under s) = omega (arith, sub-noc i s)
sub-noc i (later s) = omega (arith, sub-noc i s)
sub-noc i (past s) = sub-noc i s

pub sub-size : {q j : ℕ} {d r : NRow} → Sub q j d r → size (erase d) < size (erase r)
sub-size here = omega arith
sub-size (under s) = omega (arith, sub-size s)
sub-size (later s) = omega (arith, sub-size s)
sub-size (past s) = omega (arith, sub-size s)

pub sub-toks : {q j : ℕ} {d r : NRow} → Sub q j d r → toks (erase d) ≤ toks (erase r)
sub-toks here = omega arith
sub-toks (under s) = omega (arith, sub-toks s)
sub-toks (later s) = omega (arith, sub-toks s)
sub-toks (past s) = omega (arith, sub-toks s)

-- a token of the text: a row with a token has one
pub some_token : (r : NRow) → occ 0 r ≡ 0 → 0 < toks (erase r) → (x : ℕ) × (0 < x) × (0 < ids x (erase r))
some_token ε z h = absurd (omega arith)
some_token (ntok k zero f) z h = absurd (omega (arith, eqn_same 0))
some_token (ntok k (suc i) f) z h = (suc i, omega arith, omega (arith, eqn_same (suc i)))
some_token (nnod p j c f) z h = by (dec_lt 0 (toks (erase c))) (λ l. some_token c (omega arith) l) (λ l. some_token f (omega arith) l)
  where
    by : Dec (0 < toks (erase c)) → (0 < toks (erase c) → (x : ℕ) × (0 < x) × (0 < ids x (erase c))) → (0 < toks (erase f) → (x : ℕ) × (0 < x) × (0 < ids x (erase f)))
        → (x : ℕ) × (0 < x) × (0 < ids x (erase c) + ids x (erase f))
    by (yes l) a b = let t = a l in (t.0, t.1, omega (arith, t.2))
    by (no l) a b = let t = b (omega arith) in (t.0, t.1, omega (arith, t.2))

-- ---- the numbers in written order
pub length-nums : (r : NRow) → length (nums r) ≡ size (erase r)
length-nums ε = refl
length-nums (ntok k i f) = ap suc (length-nums f)
length-nums (nnod q i c f) = omega (arith, length-append (nums c) (i ∷ nums f), length-nums c, length-nums f)

pub among-append : (i : ℕ) (a b : List ℕ) → among i (a ++ b) ≡ among i a + among i b
among-append i [] b = omega arith
among-append i (x ∷ a) b = omega (arith, among-append i a b)

-- how often a number stands is how often it is among the written numbers
pub occ-nums : (i : ℕ) (r : NRow) → occ i r ≡ among i (nums r)
occ-nums i ε = refl
occ-nums i (ntok k j f) = omega (arith, occ-nums i f)
occ-nums i (nnod q j c f) = omega (arith, among-append i (nums c) (j ∷ nums f), occ-nums i c, occ-nums i f)
