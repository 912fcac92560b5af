-- The set after n rounds, of numbers below n, is closed: another round adds nothing to it. And a round that gathers left sides.
use Rattle.std.specs.Prelude.{◌≡◌, refl, Bool, true, false, cond, List, ℕ, zero, suc, ◌<◌}
use Rattle.std.proofs.lemmas.Bool.{false≢true}
use Rattle.theory.specs.Check.Every.{times}
use Rattle.theory.specs.Check.Sets.{empty, one, holds}
use Rattle.definitions.specs.Sheet.{P, left}
use Rattle.theory.specs.Check.GrammarTest.{lefts}
use Rattle.theory.specs.Check.Says.{Says, says_as}
use Rattle.theory.specs.Check.SetLaws.{says_joins, says_one, says_empty}
use Rattle.theory.specs.Check.Rounds.{Under, stable}

module _ (n : ℕ) (next : ℕ → ℕ) (mono : (a b : ℕ) → Under n (holds a) (holds b) → Under n (holds (next a)) (holds (next b))) where
  abbrev after : ℕ → ℕ
  after k = times k next empty

  grow : (k : ℕ) → Under n (holds (after k)) (holds (after (suc k)))
  grow zero = λ i h e. absurd (says_empty i e)
  grow (suc k) = mono (after k) (after (suc k)) (grow k)

  pub closed : Under n (holds (next (times n next empty))) (holds (times n next empty))
  closed = stable n (λ k i. holds (after k) i) grow (λ k u. mono (after (suc k)) (after k) u)

-- one round: n is the left side of a production that passes
pub record Lefts (t : List ℕ) (ok : ℕ → Bool) (n : ℕ) : Type 0 where
  pub rule : ℕ
  pub exists : rule < P t
  pub passes : ok rule ≡ true
  pub for : left t rule ≡ n

pub says_pick : (b : Bool) (m n : ℕ) → Says (holds (cond b (one m) empty) n) ((b ≡ true) × (m ≡ n))
says_pick true m n = says_as (says_one m n) (λ e. (refl, e)) (λ r. r.1)
says_pick false m n = record { to = λ h. absurd (says_empty n h); from = λ r. absurd (false≢true r.0) }

pub says_lefts : (t : List ℕ) (ok : ℕ → Bool) (n : ℕ) → Says (holds (lefts t ok) n) (Lefts t ok n)
says_lefts t ok n =
    says_as (says_joins (P t) (λ p. cond (ok p) (one (left t p)) empty) n)
    (λ r. let h = (says_pick (ok r.0) (left t r.0) n).to r.2 in record { rule = r.0; exists = r.1; passes = h.0; for = h.1 })
    (λ r. (r.rule, r.exists, (says_pick (ok r.rule) (left t r.rule) n).from (r.passes, r.for)))

-- a stronger test leaves fewer left sides
pub lefts_mono : (t : List ℕ) (n : ℕ) (f g : ℕ → Bool) → ((p : ℕ) → p < P t → f p ≡ true → g p ≡ true)
    → Under n (holds (lefts t f)) (holds (lefts t g))
lefts_mono t n f g h i l e =
    let r = (says_lefts t f i).to e in
    (says_lefts t g i).from (record { rule = r.rule; exists = r.exists; passes = h r.rule r.exists r.passes; for = r.for })
