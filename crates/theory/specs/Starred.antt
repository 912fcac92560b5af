-- The starred examples of document 01, as one list under one theorem: trees, numbers, next numbers, counts and refusals, whatever tree
-- and room of enough words are lent.
use Rattle.std.specs.Prelude.{◌≡◌, List, [], ◌∷◌, ◌++◌, map, ℕ, ◌≤◌, length, drop}
use Rattle.std.proofs.Math.Path.{refl}
use Rattle.std.proofs.Common.{◌∙◌}
use Rattle.std.proofs.Math.Decide.{dec_le, dec_lt, ℕ_discrete}
use Rattle.definitions.specs.House.{house}
use Rattle.definitions.specs.Table.{table_of}
use Rattle.definitions.specs.Tree.{eqn, erase, yield, row}
use Rattle.definitions.specs.Moves.{read}
use Rattle.theory.specs.Numbers.Number.{number, renumber}
use Rattle.definitions.specs.Answers.{accepted, Told, cleared, refuse}
use Rattle.theory.specs.Answers.{read_text, read_list, afresh, afresh_in, update, update_in, enough, taken_on}
use Rattle.definitions.specs.States.{Accepted}
use Rattle.definitions.specs.Examples.{Question, read as ask, edit, Reply, gives, refuses, Example, starred}
use Rattle.theory.specs.Check.Judge.{judged}
use Rattle.theory.specs.Tree.Build.{build}
use Rattle.theory.specs.Tree.InOrderD.{tree_in}
use Rattle.theory.specs.Edits.EditsD.{edits_in, text_in}
use Rattle.theory.specs.Check.HouseAccepted.{house_accepted}

module _ (tree room : List ℕ) where
  abbrev pub answer : Question → Told
  answer (ask codes) = afresh house codes 1 tree room
  answer (edit row edits codes) = update house row edits codes tree room

  abbrev pub expected : Reply → Told
  expected (gives words counts) = record { answer = accepted counts; tree = words ++ drop (length words) tree; room = cleared room }
  expected (refuses n i) = refuse tree room n i

  -- the reading, once the table is taken
  abbrev pub inside : Accepted house → Question → Told
  inside a (ask codes) = read_text house codes 1 tree room (text_in house codes 1)
  inside a (edit old edits codes) = read_list house old edits codes tree room (tree_in house old a.layout) (λ r. edits_in house (yield (erase r)) edits codes)

  computed : (a : Accepted house) → map (λ e. inside a e.asked) starred ≡ map (λ e. expected e.told) starred
  unfolding starred house text_in tree_in build edits_in table_of eqn ℕ_discrete dec_le dec_lt read number renumber
  computed a = refl

  module _ (wide : 6146 ≤ length tree) (roomy : 16384 ≤ length room) where
    within : (q : Question) (x : Told) → ((a : Accepted house) → inside a q ≡ x) → answer q ≡ x
    unfolding afresh update afresh_in update_in
    within (ask codes) x e = enough tree room (afresh_in house codes 1 tree room) wide roomy ∙ taken_on house (judged house) house_accepted tree room _ x e
    within (edit old edits codes) x e = enough tree room (update_in house old edits codes tree room) wide roomy ∙ taken_on house (judged house) house_accepted tree room _ x e

    pub each : (l : List Example) → ((a : Accepted house) → map (λ e. inside a e.asked) l ≡ map (λ e. expected e.told) l)
        → map (λ e. answer e.asked) l ≡ map (λ e. expected e.told) l
    each [] h = refl
    each (e ∷ l) h =
        let a = within e.asked (expected e.told) (λ a. cc (h a)) in
        let b = each l (λ a. cc (h a)) in cc

    pub starred_right : map (λ e. answer e.asked) starred ≡ map (λ e. expected e.told) starred
    starred_right = each starred computed
