-- The numbers of the seven state conditions, as document 01 counts them.
use Rattle.std.specs.Prelude.{ℕ}
use Rattle.table.specs.declared.Condition.{Condition}
use Rattle.table.specs.declared.Condition.TheVariants.{Start, Closure, Move, End, Only, Entry, Chain}

abbrev pub condition : Condition → ℕ
condition Start = 1
condition Closure = 2
condition Move = 3
condition End = 4
condition Only = 5
condition Entry = 6
condition Chain = 7
