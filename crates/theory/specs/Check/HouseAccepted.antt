-- The house table is accepted: the tests computed on its 320 bytes. And the judgements on it compute, each to "yes".
use Rattle.std.specs.Prelude.{◌≡◌, refl, true, ℕ}
use Rattle.definitions.specs.House.{house}
use Rattle.definitions.specs.Sheet.{Layout}
use Rattle.definitions.specs.States.{Accepted}
use Rattle.theory.specs.Check.LayoutTest.{layout}
use Rattle.theory.specs.Check.GrammarTest.{grammar}
use Rattle.theory.specs.Check.StatesTest.{states, cond1, cond2, cond3, cond4, cond5, cond6, cond7}
use Rattle.theory.specs.Check.Judge.{accepts, says_accepts, decided, judged}

accepts-house : accepts house ≡ true
unfolding house accepts layout grammar states cond1 cond2 cond3 cond4 cond5 cond6 cond7
accepts-house = refl

pub house_accepted : Accepted house
house_accepted = (says_accepts house).to accepts-house

-- 1 where the judgement is yes
abbrev one-if : {A : Type 0} → Dec A → ℕ
one-if (yes a) = 1
one-if (no n) = 0

house_laid_out : one-if (judged house).layout ≡ 1
unfolding house judged decided layout
house_laid_out = refl

house_keeps_rules : (l : Layout house) → one-if ((judged house).rules l) ≡ 1
unfolding house judged decided grammar
house_keeps_rules l = refl

house_meets_conditions : (l : Layout house) → one-if ((judged house).states l) ≡ 1
unfolding house judged decided states cond1 cond2 cond3 cond4 cond5 cond6 cond7
house_meets_conditions l = refl
