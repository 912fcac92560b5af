-- The turn of a token or the end mark over a reading list, where the action on it is no reduction: what the machine did, as afresh, with the
-- list behind it.
use Rattle.std.specs.Prelude.{◌≡◌, Result, Ok, Err, List, ℕ, ◌-◌, drop}
use Rattle.definitions.specs.Table.{Act, red, table_of}
use Rattle.definitions.specs.Tree.{Row}
use Rattle.definitions.specs.Reading.{Stack, top}
use Rattle.definitions.specs.Reading as Reading
use Rattle.definitions.specs.Moves.{turn}
use Rattle.machine.specs.declared.Move.{Move}
use Rattle.machine.specs.declared.Move.TheVariants.{Shifted, Reduced, Taken}
use Rattle.machine.specs.declared.Stuck.{Stuck}
use Rattle.machine.specs.Room.{states_end, Holds}
use Rattle.machine.specs.Steps.{Stands, Did}
use Rattle.updating.specs.Turns.{Listed, Does, list_stands, behind}
use Rattle.updating.specs.declared.Turn.{Turn}
use Rattle.updating.specs.declared.Turn.TheVariants.{Plain}

-- what the turn of the next terminal k, of identity i, comes to over the rows r and, after it, r': x is the action on it
pub record Next (t old put r : List ℕ) (n m : ℕ) (x : Act) (k i : ℕ) (σ : Stack) (f : Row) : Type 0 where
  pub holds : Holds r n σ
  pub listed : Listed t old put r m f
  pub stands : Stands f k i
  pub seen : x ≡ (table_of t).act (top σ) k
  pub other : (p : ℕ) → x ≡ red p → ⊥

abbrev pub Takes : List ℕ → List ℕ → ℕ → Act → ℕ → ℕ → Result Turn Stuck → Type 0
Takes r r' n x k i o =
    (t old put : List ℕ) (m : ℕ) (σ : Stack) (f : Row) → Next t old put r n m x k i σ f → Does t old put r' n m σ f (turn (table_of t) (2048 - n) σ f) o

module _ {t old put r : List ℕ} {m : ℕ} {f : Row} (L : Listed t old put r m f) (r' : List ℕ) (d : drop states_end r' ≡ drop states_end r) (n k i : ℕ) (σ : Stack) (o : Reading.Turn) where
  pub moved : (v : Move) → Did r' n σ f k i o (Ok v) → Does t old put r' n m σ f o (Ok (Plain v))
  moved Shifted D =
      let w = D.0 in
      let b = behind L w.next in
      (record { stack = _; rest = w.rest; is = w.is; holds = w.holds; listed = list_stands d b.1 }, b.0)
  moved Reduced D = let w = D.0 in record { stack = w.stack; rest = f; is = w.is; holds = w.holds; listed = list_stands d L }
  moved Taken D = D

  pub stopped : (e : Stuck) → Did r' n σ f k i o (Err e) → Does t old put r' n m σ f o (Err e)
  stopped e D = (D, list_stands d L)
