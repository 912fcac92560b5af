-- Inserted codes put on the reading list, the last first.
use Rattle.std.specs.Prelude.{◌≡◌, List, ◌∷◌, ℕ, suc, ◌+◌, ◌-◌, ◌≤◌, ◌<◌, length, get_or, set}
use Rattle.std.proofs.Common.{ap, ◌∙◌, arith, add-one, get_or-set_same, get_or-set_other}
use Rattle.std.proofs.Math.Seq.{slice, slice_empty, slice-cons}
use Rattle.definitions.specs.Tree.{Row, ◌⧺◌, row}
use Rattle.definitions.specs.Edits.{inserted}
use Rattle.list.specs.Pending.{list_at, Pending, code, pending_stands}
use Rattle.list.specs.Opening.{Elsewhere, unmoved, pushes}

-- the codes from lo up to hi are put on the list of m words, which has k words then
pub record Pushes (r r' : List ℕ) (m lo hi k : ℕ) : Type 0 where
  pub many : k ≡ m + (hi - lo)
  pub elsewhere : Elsewhere r r'
  pub holds : (t old put : List ℕ) (f : Row) → hi ≤ length put → Pending t old put r m f → Pending t old put r' k (row (inserted (slice lo hi put)) ⧺ f)

pub pushes_none : (r : List ℕ) (m hi : ℕ) → Pushes r r m hi hi m
pushes_none r m hi = record { many = omega arith; elsewhere = unmoved r; holds = λ t old put f h p. rw (slice_empty hi put) p }

-- one code more
pub pushes_code : {r r' : List ℕ} {m j hi k : ℕ} → Pushes r r' m j hi k → 0 < j → j ≤ hi → k < 2048 → 16384 ≤ length r
    → Pushes r (set r' (list_at + k) (2048 + (j - 1))) m (j - 1) hi (k + 1)
pushes_code {r} {r'} {m} {j} {hi} {k} P h l n long =
    record {
      many = omega (arith, P.many);
      elsewhere = pushes k (2048 + (j - 1)) n P.elsewhere;
      holds = λ t old put f b p.
          let z : suc (j - 1) ≡ j = omega arith in
          let s : slice (j - 1) hi put ≡ get_or put (j - 1) 0 ∷ slice j hi put =
          slice-cons (j - 1) hi put 0 (omega arith) b ∙ ap (λ (i : ℕ). get_or put (j - 1) 0 ∷ slice i hi put) z in
          rw (s, add-one) (code (j - 1) (get_or-set_same r' (list_at + k) (2048 + (j - 1)) 0 (omega (arith, P.elsewhere.long))) (omega arith)
          (pending_stands (λ i q. get_or-set_other r' (list_at + k) (list_at + i) (2048 + (j - 1)) 0 (λ e. omega arith)) (P.holds t old put f b p)));
    }
