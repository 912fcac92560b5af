-- The sheet's grammar and moves as the derivations and the machine use them: right sides, actions and gotos by name.
use Rattle.std.specs.Prelude.{cond, ◌&&◌, List, [], ◌∷◌, ℕ, zero, suc, ◌-◌, ◌<◌, leb, ltb, eqb}
use Rattle.std.proofs.Math.Option.{Option, none, some}
use Rattle.definitions.specs.Sheet.{T, N, P, S, left, len, symbol, action, goto}
use Rattle.definitions.specs.States.{In}

-- "A symbol is a terminal's number, or 128 + a nonterminal's."
pub data Sym : Type 0 where
  tm : ℕ → Sym
  nt : ℕ → Sym

abbrev pub sym_of : ℕ → Sym
sym_of x = cond (ltb x 128) (tm x) (nt (x - 128))

-- "0 error, 1 accept, 256+s shift to s, 512+p reduce by p"
pub data Act : Type 0 where
  err : Act
  acc : Act
  sh : ℕ → Act
  red : ℕ → Act

abbrev pub act_of : ℕ → Act
act_of w =
    cond (eqb w 1) acc
    (cond (leb 512 w) (red (w - 512))
    (cond (leb 256 w) (sh (w - 256)) err))

-- "a state, or 255 for none"
abbrev pub goto_of : ℕ → Option ℕ
goto_of g = cond (eqb g 255) none (some g)

-- productions, the start symbol, left and right sides, actions, gotos, and "(p,d,a) in s"
pub record Table : Type 1 where
  pub prods : ℕ
  pub start : ℕ
  pub lhs : ℕ → ℕ
  pub rhs : ℕ → List Sym
  pub act : ℕ → ℕ → Act
  pub goto : ℕ → ℕ → Option ℕ
  pub Item : ℕ → ℕ → ℕ → ℕ → Type 0

-- n symbols of production p from place k on
abbrev pub symbols : List ℕ → ℕ → ℕ → ℕ → List Sym
symbols t p k zero = []
symbols t p k (suc n) = sym_of (symbol t p k) ∷ symbols t p (suc k) n

-- (p,d,a) is in the state s of the sheet
pub record Looks (t : List ℕ) (s p d a : ℕ) : Type 0 where
  pub state : s < S t
  pub terminal : a < T t
  pub item : In t s p d a

-- the table of a sheet; beyond what the sheet has there is no right side, no move and no item
unfoldable pub table_of : List ℕ → Table
table_of t =
    record {
      prods = P t;
      start = symbol t 0 0 - 128;
      lhs = left t;
      rhs = λ p. cond (ltb p (P t)) (symbols t p 0 (len t p)) [];
      act = λ s a. cond (ltb s (S t) && ltb a (T t)) (act_of (action t s a)) err;
      goto = λ s n. cond (ltb s (S t) && ltb n (N t)) (goto_of (goto t s n)) none;
      Item = Looks t;
    }

-- the state that a transition leads to: a shift on a terminal, a goto on a nonterminal
abbrev pub shift_of : Act → Option ℕ
shift_of err = none
shift_of acc = none
shift_of (sh s) = some s
shift_of (red p) = none

abbrev pub trans : Table → ℕ → Sym → Option ℕ
trans G s (tm a) = shift_of (G.act s a)
trans G s (nt B) = G.goto s B
