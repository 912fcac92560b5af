-- Document 01's number, place and counts for each case of the code's answer.
use Rattle.std.specs.Prelude.{ℕ, Result, Ok, Err}
use Rattle.definitions.specs.Reading as Reading
use Rattle.definitions.specs.Answers as Answers
use Rattle.definitions.specs.Answers.{refusal, accepted}
use Rattle.answers.specs.declared.Counts.{Counts}
use Rattle.answers.specs.declared.Refusal.{Refusal}
use Rattle.answers.specs.declared.Refusal.TheVariants.{Small, Layout, Grammar, States, OldTree, Text, NoAction, NoRoom, NoGoto, NoNumber}

abbrev pub counts_of : Counts → Reading.Counts
counts_of k = record { lefts = k.lefts; rights = k.rights; wholes = k.wholes; shifts = k.shifts; reductions = k.reductions }

-- "Numbers of refusal"
abbrev pub refusal_of : Refusal → Answers.Answer
refusal_of Small = refusal 1 0
refusal_of Layout = refusal 2 0
refusal_of Grammar = refusal 3 0
refusal_of States = refusal 4 0
refusal_of OldTree = refusal 5 0
refusal_of Text = refusal 6 0
refusal_of (NoAction i) = refusal 7 i
refusal_of NoRoom = refusal 8 0
refusal_of NoGoto = refusal 10 0
refusal_of NoNumber = refusal 9 0

abbrev pub value_of : Result Counts Refusal → Answers.Answer
value_of (Ok k) = accepted (counts_of k)
value_of (Err e) = refusal_of e

-- an answer's number and place; 0 and 0 for an accepted call
abbrev pub number_of : Answers.Answer → ℕ
number_of (refusal n i) = n
number_of (accepted k) = 0

abbrev pub place_of : Answers.Answer → ℕ
place_of (refusal n i) = i
place_of (accepted k) = 0
