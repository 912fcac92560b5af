-- A whole shift: the piece over the stack, and what it comes to.
use Rattle.std.specs.Prelude.{◌≡◌, refl, Option, Some, None, ℕ, suc, ◌+◌, ◌≤◌, ◌<◌, length, take}
use Rattle.std.proofs.Common.{sym, ap, ◌∙◌, arith, take_at}
use mathlib.Core.List.{List, [], ◌∷◌, ◌++◌}
use Rattle.std.proofs.Math.ListN.{get_elem?}
use Rattle.std.proofs.Math.Seq.{take-length}
use Rattle.definitions.specs.Table.{Table}
use Rattle.definitions.specs.Tree.{Tok, Row, ∅, nod, size, toks, yield}
use Rattle.definitions.specs.Reading.{Stack}
use Rattle.definitions.specs.Moves.{pick, right_break, standing, breaks}
use Rattle.theory.specs.Machine.Rows.{toks-length}
use Rattle.theory.specs.Records.Flat.{Word, wtok, wnod, flat, trim, grow}
use Rattle.theory.specs.Records.FlatStack.{standing-flat}
use Rattle.theory.specs.Records.Stand.{at_in}
use Rattle.machine.specs.Room.{Holds}
use Rattle.updating.specs.Records.{records_of, Reads}
use Rattle.updating.specs.Copy.{Copied, copied_all}
use Rattle.updating.specs.declared.shifting.Whole.{Whole}

-- the run is of the piece q over c, which has tokens, and the room holds σ
pub record Ripe (G : Table) (run r : List ℕ) (n : ℕ) (σ : Stack) (q : ℕ) (c : Row) : Type 0 where
  pub holds : Holds r n σ
  pub reads : Reads G (records_of run) (flat (nod q c ∅))
  pub some : 0 < toks c

pub record Shifted (G : Table) (r : List ℕ) (n : ℕ) (σ : Stack) (c : Row) (m b : ℕ) : Type 0 where
  pub many : m ≡ n + standing c
  pub room : m ≤ 2048
  pub holds : Holds r m (right_break G c σ)
  pub broken : b ≡ suc (breaks c)

-- what a whole shift comes to
abbrev pub Shifts : Table → List ℕ → ℕ → Stack → Row → Option Whole → Type 0
Shifts G r n σ c (Some w) = Shifted G r n σ c w.held w.breaks
Shifts G r n σ c None = 2048 < n + standing c

prefix : (l : List Word) → (b : List Word) × (trim l ++ b ≡ l)
prefix [] = ([], refl)
prefix (wtok x ∷ l) = let r = prefix l in (r.0, ap (wtok x ∷◌) r.1)
prefix (wnod q n ∷ l) = by (trim l) refl (prefix l)
  where
    by : (u : List Word) → trim l ≡ u → (b : List Word) × (trim l ++ b ≡ l) → (b : List Word) × (grow (wnod q n) u ++ b ≡ wnod q n ∷ l)
    by [] e r = (wnod q n ∷ l, refl)
    by (x ∷ u) e r = (r.0, ap (wnod q n ∷◌) (rw e at r.1))

-- a piece's records up to the last token are its children's
pub piece_stands : (q : ℕ) (c : Row) → length (trim (flat (nod q c ∅))) ≡ standing c
piece_stands q c = standing-flat (nod q c ∅)

pub piece-breaks : (q : ℕ) (c : Row) → 0 < toks c → breaks (nod q c ∅) ≡ suc (breaks c)
piece-breaks q c h = by (yield c) (toks-length c)
  where
    by : (u : List Tok) → toks c ≡ length u → 0 + suc (pick u 0 (breaks c)) ≡ suc (breaks c)
    by [] e = absurd (omega arith)
    by (x ∷ u) e = omega arith

-- what is copied of the whole run is copied of those
trimmed : (G : Table) {r₀ r : List ℕ} {n j : ℕ} (l us : List Word) → (b : List Word) → us ++ b ≡ l → j ≡ length us → Copied G r₀ r n l j → Copied G r₀ r n us j
trimmed G {j = j} l us b z e C =
    let w : take j l ≡ take j us = ap (take j) (sym z) ∙ take_at us b j (sym e) ∙ sym (ap (λ (i : ℕ). take i us) e ∙ take-length us) in
    record {
      records = rw (← w) C.records;
      states = C.states;
      led = λ i x h f. C.led i x h (ap (λ (u : List Word). get_elem? u i) (sym z) ∙ at_in us b i f);
    }

pub copied_piece : (G : Table) {r₀ r run : List ℕ} {n m : ℕ} {σ : Stack} {q : ℕ} {c : Row} → Ripe G run r₀ n σ q c → m ≡ standing c → Copied G r₀ r n (flat (nod q c ∅)) m → Holds r (n + m) (right_break G c σ)
copied_piece G {q = q} {c = c} R e C =
    let p = prefix (flat c) in
    copied_all G c e R.holds
    (trimmed G (flat (nod q c ∅)) (trim (flat c)) (p.0 ++ (wnod q (suc (size c)) ∷ [])) (sym (mathlib.Core.List.append_assoc (trim (flat c)) p.0 (wnod q (suc (size c)) ∷ [])) ∙ ap (◌++ (wnod q (suc (size c)) ∷ [])) p.1) (e ∙ sym (standing-flat c)) C)
