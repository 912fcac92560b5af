-- Document 01's small program, on the bytes of its standard input: what it prints. A byte is its number in ASCII.
use Rattle.std.specs.Prelude.{cond, List, [], ◌∷◌, ◌++◌, ℕ, zero, suc, ◌+◌, ◌*◌, ◌/◌, ◌%◌, eqb, ltb, length, get_or, take, drop}
use Rattle.definitions.specs.Answers.{Answer, refusal, accepted, Told}
use Rattle.theory.specs.Answers.{afresh}

-- ---- "The program reads from standard input the table's length (two bytes), table, token count (two bytes), codes (a byte each),
-- first number (four bytes)"; numbers are high byte first
abbrev pub two : List ℕ → ℕ → ℕ
two input i = get_or input i 0 * 256 + get_or input (i + 1) 0

abbrev pub table_length : List ℕ → ℕ
table_length input = two input 0

abbrev pub table_in : List ℕ → List ℕ
table_in input = take (table_length input) (drop 2 input)

abbrev pub token_count : List ℕ → ℕ
token_count input = two input (2 + table_length input)

abbrev pub codes_in : List ℕ → List ℕ
codes_in input = take (token_count input) (drop (4 + table_length input) input)

abbrev pub first_in : List ℕ → ℕ
first_in input =
    let at = 4 + table_length input + token_count input in
    two input at * 65536 + two input (at + 2)

-- as many bytes as all of that has. An input that ends within a length is shorter than this whatever the missing bytes are taken to be
abbrev pub whole_length : List ℕ → ℕ
whole_length input = 8 + table_length input + token_count input

-- ---- numbers in decimal, with no zero in front: one digit, or the digits of the tenth part and then the last. k digits at most
unfoldable pub numeral : ℕ → ℕ → List ℕ
numeral zero n = []
numeral (suc k) n = cond (ltb n 10) ((48 + n) ∷ []) (numeral k (n / 10) ++ ((48 + n % 10) ∷ []))

-- ten digits hold a word of 32 bits
unfoldable pub decimal : ℕ → List ℕ
decimal n = numeral 10 n

-- a number, and the byte behind it: 32 is the space, 10 ends a line
abbrev pub part : ℕ → ℕ → List ℕ
part n b = decimal n ++ (b ∷ [])

-- ---- "prints `ok` with count and next number": 111 and 107 are o and k
abbrev pub ok_line : ℕ → ℕ → List ℕ
ok_line n next = (111 ∷ 107 ∷ 32 ∷ []) ++ (part n 32 ++ part next 10)

-- "then kind, number, size of each node, a line each"
abbrev pub node_line : ℕ → ℕ → ℕ → List ℕ
node_line kind number size = part kind 32 ++ (part number 32 ++ part size 10)

-- the first n nodes of a row
unfoldable pub node_lines : List ℕ → ℕ → List ℕ
node_lines tree zero = []
node_lines tree (suc i) = node_lines tree i ++ node_line (get_or tree (2 + 3 * i) 0) (get_or tree (3 + 3 * i) 0) (get_or tree (4 + 3 * i) 0)

-- "or `no`, number, place": 110 and 111 are n and o
abbrev pub no_line : ℕ → ℕ → List ℕ
no_line n place = (110 ∷ 111 ∷ 32 ∷ []) ++ (part n 32 ++ part place 10)

abbrev pub lines_by : Answer → List ℕ → List ℕ
lines_by (accepted k) tree = ok_line (get_or tree 0 0) (get_or tree 1 0) ++ node_lines tree (get_or tree 0 0)
lines_by (refusal n place) tree = no_line n place

abbrev pub lines : Told → List ℕ
lines told = lines_by told.answer told.tree

-- ---- "Input too short or too long prints `no 0 0`"; else the input is read afresh, over a tree to write and a room that are lent
unfoldable pub printed : (input tree room : List ℕ) → List ℕ
printed input tree room =
    cond (eqb (length input) (whole_length input))
    (lines (afresh (table_in input) (codes_in input) (first_in input) tree room))
    (no_line 0 0)
