-- What stood in the first words does not show once they are wiped.
use Rattle.std.specs.Prelude.{◌≡◌, List, ◌++◌, ℕ, ◌≤◌, length, take, drop, replicate}
use Rattle.std.proofs.Common.{ap, arith, length-drop, length-take-le}
use Rattle.std.proofs.lemmas.Slice.{drop-append-drop}
use Rattle.definitions.specs.Answers.{cleared}
use Rattle.machine.specs.Room.{states_end}

-- the first words of a room are lent on as an array: xs, once a reading is through
pub cleared-front : (xs room : List ℕ) → 16384 ≤ length room → drop states_end xs ≡ drop states_end (take 16384 room) → cleared (xs ++ drop 16384 room) ≡ cleared room
unfolding cleared
cleared-front xs room l e =
    let d = ap length e in
    let t = length-take-le 16384 room l in
    let n : length xs ≡ 16384 = omega (arith, d, length-drop states_end xs, length-drop states_end (take 16384 room)) in
    ap (λ (m : List ℕ). replicate 16384 0 ++ m) (drop-append-drop 16384 room xs 16384 (omega arith) n)
