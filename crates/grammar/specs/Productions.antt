-- Document 01: "A production is thus one row of eight symbols". What the rows, the lengths and the left sides hold of a sheet.
use Rattle.std.specs.Prelude.{◌≡◌, List, ℕ, ◌+◌, ◌-◌, ◌≤◌, ◌<◌, length, get_or, take, drop}
use Rattle.std.proofs.lemmas.List.{get_or-take, get_or-drop, length-take-le, length-drop}
use Rattle.std.proofs.Common.{◌∙◌, inl, inr, arith}
use Rattle.grammar.specs.declared.production.Production.{Production}
use Rattle.definitions.specs.Sheet.{T, P, left, len, symbol, IsSymbol, Layout}

-- x may be a symbol: a terminal below 64, or 128 + a nonterminal below 64
abbrev pub Small : ℕ → Type 0
Small x = (x < 192) × (x < 128 → x < 64)

-- symbol k of eight by value
abbrev pub Row : List ℕ → ℕ → List ℕ → Type 0
Row t p row = (k : ℕ) → k < 8 → get_or row k 0 ≡ symbol t p k

-- the value is production p of the sheet
pub record Made (t : List ℕ) (p : ℕ) (v : Production) : Type 0 where
  pub side : v.left ≡ left t p
  pub size : v.len ≡ len t p
  pub eight : length v.symbols ≡ 8
  pub row : Row t p v.symbols

-- the values are the productions of the sheet; `other` is what `get_or` would answer past the last value, where no production is
abbrev pub Held : List ℕ → List Production → Type 0
Held t ps = (p : ℕ) (other : Production) → p < P t → Made t p (get_or ps p other)

-- the list is the right side of production p
pub record Right (t : List ℕ) (p : ℕ) (xs : List ℕ) : Type 0 where
  pub size : length xs ≡ len t p
  pub each : (k : ℕ) → k < len t p → get_or xs k 0 ≡ symbol t p k
  pub small : (k : ℕ) → k < len t p → Small (get_or xs k 0)

-- ---- what a sheet well laid out says of them

module _ (t : List ℕ) (l : Layout t) where
  pub few : P t ≤ 200
  few = l.head.productions.1

  pub len_short : (p : ℕ) → p < P t → len t p ≤ 8
  len_short p h = (l.productions p h).short

  pub left-small : (p : ℕ) → p < P t → left t p < 64
  left-small p h = omega (arith, (l.productions p h).of, l.head.nonterminals)

  -- a symbol below 128 is a terminal
  pub terminal_known : (p k : ℕ) → p < P t → k < len t p → symbol t p k < 128 → symbol t p k < T t
  terminal_known p k h i s = go ((l.productions p h).used k i)
    where
      go : IsSymbol t (symbol t p k) → symbol t p k < T t
      go (inl e) = e
      go (inr e) = omega arith

  pub symbol-small : (p k : ℕ) → p < P t → k < len t p → Small (symbol t p k)
  symbol-small p k h i = (go ((l.productions p h).used k i), λ s. omega (arith, terminal_known p k h i s, l.head.terminals))
    where
      go : IsSymbol t (symbol t p k) → symbol t p k < 192
      go (inl e) = omega (arith, l.head.terminals)
      go (inr e) = omega (arith, l.head.nonterminals)

-- what is left of a right side from place d on
module _ (t : List ℕ) (p d : ℕ) (xs : List ℕ) (r : Right t p xs) (h : d ≤ len t p) where
  pub rest_long : length (take (length xs - d) (drop d xs)) ≡ len t p - d
  rest_long = take_long ∙ (let e = r.size in omega arith)
    where
      take_long : length (take (length xs - d) (drop d xs)) ≡ length xs - d
      take_long = length-take-le (length xs - d) (drop d xs) (omega (arith, length-drop d xs))

  pub rest_at : (i : ℕ) → i < length (take (length xs - d) (drop d xs)) → get_or (take (length xs - d) (drop d xs)) i 0 ≡ symbol t p (d + i)
  rest_at i k =
      get_or-take (length xs - d) (drop d xs) i 0 (omega (arith, rest_long, r.size))
      ∙ get_or-drop d xs i 0 ∙ r.each (d + i) (omega (arith, rest_long))
