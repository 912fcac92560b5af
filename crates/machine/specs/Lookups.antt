-- What the code's actions and gotos stand for, and what the table says beyond the sheet's states, terminals and nonterminals.
use Rattle.std.specs.Prelude.{◌≡◌, Bool, ◌&&◌, List, ℕ, ◌≤◌, Some, None}
use Rattle.std.specs.Prelude as Prelude
use Rattle.std.proofs.Math.Path.{refl}
use Rattle.std.proofs.Math.Bool.{true, false, cond}
use Rattle.std.proofs.Math.Option.{Option, none, some}
use Rattle.std.proofs.Math.Dec.{ltb}
use Rattle.std.proofs.Common.{le-ltb}
use Rattle.definitions.specs.Sheet.{T, N, S, action}
use Rattle.definitions.specs.Sheet as Sheet
use Rattle.definitions.specs.Table as Table
use Rattle.definitions.specs.Table.{err, acc, sh, red, act_of, goto_of, table_of}
use Rattle.machine.specs.declared.Act.{Act}
use Rattle.machine.specs.declared.Act.TheVariants.{Error, Accept, Shift, Reduce}

abbrev pub act_is : Act → Table.Act
act_is Error = err
act_is Accept = acc
act_is (Shift s) = sh s
act_is (Reduce p) = red p

abbrev pub goto_is : Prelude.Option ℕ → Option ℕ
goto_is (Some s) = some s
goto_is None = none

module _ (t : List ℕ) where
  pub act_states : (s a : ℕ) → S t ≤ s → (table_of t).act s a ≡ err
  unfolding table_of
  act_states s a h = rw (le-ltb s (S t) h)

  pub act_terminals : (s a : ℕ) → T t ≤ a → (table_of t).act s a ≡ err
  unfolding table_of
  act_terminals s a h = by (ltb s (S t))
    where
      by : (b : Bool) → cond (b && ltb a (T t)) (act_of (action t s a)) err ≡ err
      by true = rw (le-ltb a (T t) h)
      by false = refl

  pub goto-states : (s n : ℕ) → S t ≤ s → (table_of t).goto s n ≡ none
  unfolding table_of
  goto-states s n h = rw (le-ltb s (S t) h)

  pub goto_nonterminals : (s n : ℕ) → N t ≤ n → (table_of t).goto s n ≡ none
  unfolding table_of
  goto_nonterminals s n h = by (ltb s (S t))
    where
      by : (b : Bool) → cond (b && ltb n (N t)) (goto_of (Sheet.goto t s n)) none ≡ none
      by true = rw (le-ltb n (N t) h)
      by false = refl
