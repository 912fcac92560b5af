-- What the lines need of a fresh reading: the code's answers by their number, and how many nodes an accepted tree has at most.
use Rattle.std.specs.Prelude.{◌≡◌, refl, Result, Ok, Err, List, ◌++◌, ℕ, ◌≤◌, ◌<◌, length, get_or}
use Rattle.std.proofs.Common.{sym, ap, ◌∙◌, arith}
use Rattle.definitions.specs.Reading as Reading
use Rattle.definitions.specs.Answers.{refusal, accepted, Told}
use Rattle.theory.specs.Demands.Afresh.{read, seven, eight, nine}
use Rattle.theory.specs.Demands.Calls.{one, two, three, four, next, six, reads, Afreshed}
use Rattle.reading.specs.Fresh.{told, refuses_with}
use Rattle.answers.specs.Values.{counts_of, value_of, refusal_of, number_of, place_of}
use Rattle.answers.specs.declared.Counts.{Counts}
use Rattle.answers.specs.declared.Refusal.{Refusal}
use Rattle.answers.specs.declared.Refusal.TheVariants.{Small, Layout, Grammar, States, OldTree, Text, NoAction, NoRoom, NoGoto, NoNumber}
use Rattle.lines.specs.Program.{ok_line, node_lines, no_line, lines_by, lines}

-- number 0 is acceptance
refusal-many : (r : Refusal) → 0 < number_of (refusal_of r)
refusal-many Small = omega arith
refusal-many Layout = omega arith
refusal-many Grammar = omega arith
refusal-many States = omega arith
refusal-many OldTree = omega arith
refusal-many Text = omega arith
refusal-many (NoAction i) = omega arith
refusal-many NoRoom = omega arith
refusal-many NoGoto = omega arith
refusal-many NoNumber = omega arith

pub taken : (a : Result Counts Refusal) → number_of (value_of a) ≡ 0 → (k : Reading.Counts) × (value_of a ≡ accepted k)
taken (Ok k) e = (counts_of k, refl)
taken (Err r) e = let z = refusal-many r in absurd (omega arith)

-- any other is the refusal's
pub refused : (a : Result Counts Refusal) → (number_of (value_of a) ≡ 0 → ⊥) → value_of a ≡ refusal (number_of (value_of a)) (place_of (value_of a))
refused (Ok k) n = absurd (n refl)
refused (Err r) n = refuses_with r

-- ---- the lines by the answer
module _ (tree room : List ℕ) (x : Told) where
  pub prints_tree : (k : Counts) → told (Ok k) tree room ≡ x → ok_line (get_or tree 0 0) (get_or tree 1 0) ++ node_lines tree (get_or tree 0 0) ≡ lines x
  prints_tree k e = ap lines e

  pub prints_refusal : (r : Refusal) (n place : ℕ) → n ≡ number_of (refusal_of r) → place ≡ place_of (refusal_of r) → told (Err r) tree room ≡ x → no_line n place ≡ lines x
  prints_refusal r n place d g e =
      ap (λ k. no_line k place) d ∙ ap (λ i. no_line (number_of (refusal_of r)) i) g ∙ ap (λ v. lines_by v tree) (sym (refuses_with r)) ∙ ap lines e

-- ---- what an accepted call has
pub record Few (tree tree' : List ℕ) : Type 0 where
  pub nodes : get_or tree' 0 0 ≤ 2048
  pub wide : 6146 ≤ length tree

pub few : {t codes : List ℕ} {first : ℕ} {tree room : List ℕ} {x : Told} {k : Reading.Counts} → Afreshed t codes first tree room x → x.answer ≡ accepted k → Few tree x.tree
few (one h) e = let z : ◌≡◌ {A = ℕ} 0 1 = cc in absurd (omega arith)
few (two h l) e = let z : ◌≡◌ {A = ℕ} 0 1 = cc in absurd (omega arith)
few (three h l g) e = let z : ◌≡◌ {A = ℕ} 0 1 = cc in absurd (omega arith)
few (four h l g s) e = let z : ◌≡◌ {A = ℕ} 0 1 = cc in absurd (omega arith)
few (next h a (six n)) e = let z : ◌≡◌ {A = ℕ} 0 1 = cc in absurd (omega arith)
few (next h a (reads x (read d l n f c o))) e = let z = o.nodes in record { nodes = omega arith; wide = h.wide }
few (next h a (reads x (seven p n))) e = let z : ◌≡◌ {A = ℕ} 0 1 = cc in absurd (omega arith)
few (next h a (reads x (eight n))) e = let z : ◌≡◌ {A = ℕ} 0 1 = cc in absurd (omega arith)
few (next h a (reads x (nine d l n))) e = let z : ◌≡◌ {A = ℕ} 0 1 = cc in absurd (omega arith)
