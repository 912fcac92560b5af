-- Document 01, "Numbers of refusal": their order, what an accepted call answers, and what each lent row holds afterwards.
-- Each call is a function of all that is lent and of the judgements on it, one way or the other; the theory makes them, by computing.
use Rattle.std.specs.Prelude.{List, ◌++◌, ℕ, ◌+◌, ◌*◌, ◌≤◌, length, drop, replicate}
use Rattle.std.proofs.Math.Decide.{dec_le}
use Rattle.definitions.specs.Sheet.{T}
use Rattle.definitions.specs.States.{Judged, Accepted}
use Rattle.definitions.specs.Table.{table_of}
use Rattle.definitions.specs.Tree.{Row, ∅, row, NRow, erase, size, yield, written, InOrder}
use Rattle.definitions.specs.Reading.{cons, Stack, bot, push, End, taken, refused, Counts, zeros}
use Rattle.definitions.specs.Moves.{Done, reading}
use Rattle.definitions.specs.Edits.{Edit, Codes, EditsInOrder, inserted}

-- a refusal's number and place; or accepted, with five counts
pub data Answer : Type 0 where
  refusal : ℕ → ℕ → Answer
  accepted : Counts → Answer

-- "An accepted call also answers five counts"; "A refusal gives five zero counts"
abbrev pub counts_of : Answer → Counts
counts_of (refusal n i) = zeros
counts_of (accepted k) = k

-- the answer, and the two lent rows afterwards
pub record Told : Type 0 where
  pub answer : Answer
  pub tree : List ℕ
  pub room : List ℕ

abbrev pub if : {A B : Type 0} → Dec A → B → B → B
if (yes h) a b = a
if (no h) a b = b

abbrev pub given : {A B : Type 0} → Dec A → (A → B) → B → B
given (yes h) f b = f h
given (no h) f b = b

-- ---- the table check: 0 for yes, or the refusal
abbrev pub check_by : (t : List ℕ) → Judged t → ℕ
check_by t j = given j.layout (λ l. if (j.rules l) (if (j.states l) 0 4) 3) 2

-- ---- "Working room: as lent after 1; otherwise its first 16,384 words are 0 and the rest as lent."
unfoldable pub cleared : List ℕ → List ℕ
cleared room = replicate 16384 0 ++ drop 16384 room

-- "A refusal .. leaves the tree to write as lent."
abbrev pub refuse : List ℕ → List ℕ → ℕ → ℕ → Told
refuse tree room n i = record { answer = refusal n i; tree = tree; room = cleared room }

-- "Acceptance writes 2+3n words and no more."
abbrev pub accept : List ℕ → List ℕ → NRow → ℕ → Counts → Told
accept tree room r next k = record { answer = accepted k; tree = written r next ++ drop (2 + 3 * size (erase r)) tree; room = cleared room }

-- 9: "accepted, but next (or first) number plus new numbers exceeds 4,294,967,295"
abbrev pub numbered : List ℕ → List ℕ → NRow × ℕ → Counts → Told
numbered tree room n k = if (dec_le n.1 4294967295) (accept tree room n.0 n.1 k) (refuse tree room 9 0)

-- the tree that was accepted
abbrev pub tree_of : Stack → Row
tree_of bot = ∅
tree_of (push σ s t) = cons t ∅

-- 7, 8 and 10 as the reading meets them
abbrev pub ending : List ℕ → List ℕ → (Row → NRow × ℕ) → Counts → End → Told
ending tree room numbers k (taken σ) = numbered tree room (numbers (tree_of σ)) k
ending tree room numbers k (refused n i) = refuse tree room n i

abbrev pub finished : List ℕ → List ℕ → (Row → NRow × ℕ) → Done → Told
finished tree room numbers d = ending tree room numbers d.counts d.end

-- 1: "tree to write below 6,146 words or room below 16,384 words"
abbrev pub roomed : List ℕ → List ℕ → Told → Told
roomed tree room told =
    if (dec_le 6146 (length tree)) (if (dec_le 16384 (length room)) told
    (record { answer = refusal 1 0; tree = tree; room = room })) (record { answer = refusal 1 0; tree = tree; room = room })

-- 2: "table layout or range wrong"; 3: "a grammar rule broken"; 4: "a state condition broken"
abbrev pub tabled : (t : List ℕ) → Judged t → List ℕ → List ℕ → (Accepted t → Told) → Told
tabled t j tree room f =
    given j.layout (λ l. given (j.rules l) (λ g. given (j.states l) (λ s. f (record { layout = l; rules = g; states = s }))
    (refuse tree room 4 0)) (refuse tree room 3 0)) (refuse tree room 2 0)

-- ---- reading afresh: "token codes (32-bit words, 1..T−1, at most 2,048), first number (at least 1)"
pub record TextInOrder (t codes : List ℕ) (first : ℕ) : Type 0 where
  pub known : Codes (T t) codes
  pub few : length codes ≤ 2048
  pub number : 1 ≤ first

-- 6, then the reading; "Nodes are numbered in their written order from the first number": `numbers`
abbrev pub read_text_by : (Row → NRow × ℕ) → (t codes : List ℕ) (first : ℕ) (tree room : List ℕ) → Dec (TextInOrder t codes first) → Told
read_text_by numbers t codes first tree room d =
    if d (finished tree room numbers (reading (table_of t) 2048 (row (inserted codes)))) (refuse tree room 6 0)

-- ---- updating: 5, 6, then the reading of the list; numbers go on from the old tree's next number. `list` is the reading list
-- (`ReadingList`), `numbers` the numbering by the rule (`Kept`): of each there is one
abbrev pub read_list_by : (NRow → List Edit → Row) → (NRow → Row → NRow × ℕ) → (t old edits codes tree room : List ℕ) → Dec ((r : NRow) × InOrder t old r)
    → ((r : NRow) → Dec ((es : List Edit) × EditsInOrder t (yield (erase r)) edits codes es)) → Told
read_list_by list numbers t old edits codes tree room in_order edit =
    given in_order (λ r. given (edit r.0) (λ e.
    finished tree room (numbers r.0) (reading (table_of t) 2048 (list r.0 e.0)))
    (refuse tree room 6 0)) (refuse tree room 5 0)
