-- The first 16,384 words of a room, lent on as an array: the stack that they hold, and the room once they are handed back.
use Rattle.std.specs.Prelude.{◌≡◌, Result, Ok, Err, List, ◌++◌, ℕ, ◌≤◌, length, take, drop}
use Rattle.std.proofs.Common.{sym, ap, ◌∙◌, arith, take-take, length-drop, length-take-le}
use Rattle.std.proofs.lemmas.List.{take-append-drop, take-append-le, drop-append-le}
use Rattle.definitions.specs.Tree.{Row}
use Rattle.definitions.specs.Reading.{Stack, Turn}
use Rattle.machine.specs.Room.{states_end, Holds}
use Rattle.machine.specs.Laws.{holds_stand}
use Rattle.machine.specs.Steps.{Did}
use Rattle.machine.specs.declared.Stuck.{Stuck}
use Rattle.machine.specs.declared.Move.{Move}
use Rattle.machine.specs.declared.Move.TheVariants.{Shifted, Reduced, Taken}

-- the room's stack stands in them
pub holds_first : {w r : List ℕ} {n : ℕ} {σ : Stack} → w ≡ take 16384 r → n ≤ 2048 → Holds r n σ → Holds w n σ
holds_first {r = r} e l = holds_stand l (ap (take states_end) e ∙ take-take states_end 16384 r (omega arith))

-- they are handed back as xs
pub rest_back : (xs room : List ℕ) → 16384 ≤ length room → drop states_end xs ≡ drop states_end (take 16384 room) → drop states_end (xs ++ drop 16384 room) ≡ drop states_end room
rest_back xs room h e =
    let u = take 16384 room in
    let d = drop 16384 room in
    let l = length-take-le 16384 room h in
    let n : states_end ≤ length xs = omega (arith, ap length e, length-drop states_end xs, length-drop states_end u) in
    drop-append-le states_end xs d n ∙ ap (◌++ d) e ∙ sym (drop-append-le states_end u d (omega arith)) ∙ ap (drop states_end) (take-append-drop 16384 room)

-- what a turn leaves in them, it leaves in the room
module _ (w r : List ℕ) (long : length w ≡ 16384) {n : ℕ} (few : n ≤ 2048) where
  holds_back : {m : ℕ} {σ : Stack} → m ≤ 2048 → Holds w m σ → Holds (w ++ drop 16384 r) m σ
  holds_back l = holds_stand l (take-append-le states_end w (drop 16384 r) (omega (arith, long)))

  pub did_back : (σ : Stack) (f : Row) (k i : ℕ) (o : Turn) (x : Result Move Stuck) → Did w n σ f k i o x → Did (w ++ drop 16384 r) n σ f k i o x
  did_back σ f k i o (Ok Shifted) D = let T = D.0 in (record { state = T.state; rest = T.rest; next = T.next; is = T.is; holds = holds_back (omega (arith, D.1)) T.holds }, D.1)
  did_back σ f k i o (Ok Reduced) D = let L = D.0 in (record { stack = L.stack; is = L.is; holds = holds_back (omega (arith, D.1)) L.holds }, D.1)
  did_back σ f k i o (Ok Taken) D = (D.0, holds_back few D.1)
  did_back σ f k i o (Err e) D = D
