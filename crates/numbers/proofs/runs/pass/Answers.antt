-- `runs::pass` meets its contract: a token's word, or a node's. Assumes nothing.
use mathlib.Core.Path.{◌≡◌, refl}
use mathlib.Core.List.{List}
use Prim.Native.Nat.{ℕ, ◌+◌, ◌≤◌, ◌<◌}
use native.Mathlib.Omega.{arith}
use lib.Seq.{take-set-le}
use Rattle.machine.specs.Room.{states_at}
use Rattle.numbers.specs.Records.{front, kind_of}
use Rattle.numbers.specs.Runs.{pass_token, pass_node}
use Rattle.numbers.proofs.runs.pass.Goals as goal
use Rattle.numbers.proofs.runs.pass.Goals.{After-run_start, After-word_of-v}

-- the kind that is found
token : (c : After-run_start) (lent : List ℕ) → front c.args.room.now ≡ front lent → kind_of (front lent) c.args.r.at < 256
token c lent z = let k = rw z at c.kind_of.ensures.0 in omega (arith, k, c.if-kind_of-lt256.true)

node : (c : After-word_of-v) (lent : List ℕ) → front c.args.room.now ≡ front lent → 256 ≤ kind_of (front lent) c.args.r.at
node c lent z = let k = rw z at c.kind_of.ensures.0 in omega (arith, k, c.if-kind_of-lt256.false)

pub returns-then-kind_of-lt256 : goal.returns-then-kind_of-lt256
unfolding front
returns-then-kind_of-lt256 c =
    let r = c.args.r in
    let w = c.token_spot-w.result in
    record {
      started = λ lent n S h W.
          let z = W.judging.records in
          let k : r.at < 2048 = omega (arith, S.few) in
          pass_token S c.args.old.now.known W h (omega (arith, c.told-room)) (token c lent z) (rw z at c.token_spot-w.ensures)
          (rw (take-set-le states_at c.args.room.now (states_at + r.at) w (omega arith), z) at c.run_start.ensures);
      next = refl;
    }

pub returns-else-kind_of-lt256 : goal.returns-else-kind_of-lt256
returns-else-kind_of-lt256 c =
    record {
      started = λ lent n S h W.
          let z = W.judging.records in
          pass_node S c.args.old.now.known W h (omega (arith, c.told-room)) (node (goal.at.returns-else-kind_of-lt256 c).After-word_of-v lent z) (rw z at c.first_of.ensures) c.word_of-v.ensures;
      next = refl;
    }
