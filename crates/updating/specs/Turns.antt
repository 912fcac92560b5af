-- What a turn of the code says of the definitions' turn: the list and the stack before it and after it.
use Rattle.std.specs.Prelude.{◌≡◌, refl, true, false, Some, None, Result, Ok, Err, List, ℕ, zero, suc, ◌+◌, ◌-◌, ◌≤◌, ◌<◌, length, get_or, take, drop}
use Rattle.std.specs.Prelude as Prelude
use Rattle.std.specs.Option.{is_some}
use Rattle.std.proofs.Common.{sym, ap, ◌∙◌, subst, arith, get_or-drop, drop-drop}
use Rattle.std.proofs.Math.Option.{Option, some}
use Rattle.std.proofs.Math.Decide.{dec_le}
use Rattle.definitions.specs.Sheet.{T}
use Rattle.definitions.specs.Table.{Act, err, acc, sh, red, Table, table_of}
use Rattle.definitions.specs.Tree.{Tok, Row, ∅, tok, nod, ◌⧺◌, toks, yield, look, words}
use Rattle.definitions.specs.Reading.{Tree, leaf, node, cons, Stack, push, top, held, shifted, taken, refused, Move, reduction, token_shift, whole_shift, left_break, on, stop}
use Rattle.definitions.specs.Reading as Reading
use Rattle.definitions.specs.Moves.{standing, breaks, tokened, fits, right_break, turn}
use Rattle.definitions.specs.Moves as Moves
use Rattle.definitions.specs.Edits.{Codes}
use Rattle.theory.specs.Machine.Rows.{toks-length}
use Rattle.theory.specs.Machine.Update.{yield-left}
use Rattle.machine.specs.Lookups.{goto_is}
use Rattle.machine.specs.Room.{states_end, Holds}
use Rattle.machine.specs.Laws.{holds_stand}
use Rattle.machine.specs.declared.Stuck.{Stuck}
use Rattle.machine.specs.Back.{stuck_of, Landed, Lands}
use Rattle.tree.specs.Shaped as Rows
use Rattle.tree.specs.Rows.{length-words}
use Rattle.list.specs.Pieces.{Piece}
use Rattle.list.specs.Pending.{list_at, tokens_at, Pending, none, piece, code, pending_stands, Counted}
use Rattle.list.specs.Opening.{Opens, Elsewhere}
use Rattle.list.specs.Weigh.{Counting}
use Rattle.updating.specs.Records.{piece_reads}
use Rattle.updating.specs.Shift.{Ripe, Shifted}
use Rattle.machine.specs.declared.Move.TheVariants as Afresh
use Rattle.updating.specs.declared.Turn.{Turn}
use Rattle.updating.specs.declared.Turn.TheVariants as Code

-- ---- the list in the room
pub record Listed (t old put r : List ℕ) (m : ℕ) (f : Row) : Type 0 where
  pub few : T t ≤ 256
  pub codes : Codes (T t) put
  pub pending : Pending t old put r m f
  pub counted : Counted old r
  pub small : toks f ≤ 2048

-- what the machine writes leaves the list, and what is put on the list leaves the stack
pub list_stands : {t old put r r' : List ℕ} {m : ℕ} {f : Row} → drop states_end r' ≡ drop states_end r → Listed t old put r m f → Listed t old put r' m f
list_stands {r = r} {r' = r'} e L =
    let same : (j : ℕ) → get_or r' (states_end + j) 0 ≡ get_or r (states_end + j) 0 = λ j. sym (get_or-drop states_end r' j 0) ∙ ap (λ (l : List ℕ). get_or l j 0) e ∙ get_or-drop states_end r j 0 in
    record {
      few = L.few;
      codes = L.codes;
      pending = pending_stands (λ j h. same j) L.pending;
      counted = λ j h. let z : tokens_at + j ≡ states_end + (2048 + j) = omega arith in ap (λ (i : ℕ). get_or r' i 0) z ∙ same (2048 + j) ∙ ap (λ (i : ℕ). get_or r i 0) (sym z) ∙ L.counted j h;
      small = L.small;
    }

pub stack_stands : {r r' : List ℕ} {n : ℕ} {σ : Stack} → n ≤ 2048 → take list_at r' ≡ take list_at r → Holds r n σ → Holds r' n σ
stack_stands = holds_stand

pub counts_stand : (old r r' : List ℕ) → drop tokens_at r' ≡ drop tokens_at r → Counted old r → Counted old r'
counts_stand old r r' e C j h = sym (get_or-drop tokens_at r' j 0) ∙ ap (λ (l : List ℕ). get_or l j 0) e ∙ get_or-drop tokens_at r j 0 ∙ C j h

-- the words past those that a reading uses
pub record Above (r r' : List ℕ) : Type 0 where
  pub rest : drop 16384 r' ≡ drop 16384 r
  pub long : length r' ≡ length r

pub above_states : {r r' : List ℕ} → drop states_end r' ≡ drop states_end r → length r' ≡ length r → Above r r'
above_states {r} {r'} e l = record { rest = sym (drop-drop 8191 states_end r') ∙ ap (drop 8191) e ∙ drop-drop 8191 states_end r; long = l }

pub above_list : {r r' : List ℕ} → Elsewhere r r' → Above r r'
above_list {r} {r'} E = record { rest = sym (drop-drop 6143 tokens_at r') ∙ ap (drop 6143) E.above ∙ drop-drop 6143 tokens_at r; long = E.long }

-- ---- what a turn comes to
pub record Goes (t old put r : List ℕ) (n m : ℕ) (o : Reading.Turn) (v : Move) : Type 0 where
  pub stack : Stack
  pub rest : Row
  pub is : o ≡ on v stack rest
  pub holds : Holds r n stack
  pub listed : Listed t old put r m rest

pub record Wholly (t old put r : List ℕ) (m : ℕ) (o : Reading.Turn) (n b : ℕ) : Type 0 where
  pub kids : Row
  pub goes : Goes t old put r n m o (whole_shift kids)
  pub broken : b ≡ suc (breaks kids)

-- the turn o over the n nodes of σ and a list of m words, f, by the code's outcome; where it stops, the list is as it was
abbrev pub Does : List ℕ → List ℕ → List ℕ → List ℕ → ℕ → ℕ → Stack → Row → Reading.Turn → Result Turn Stuck → Type 0
Does t old put r n m σ f o (Ok (Code.Plain Afresh.Shifted)) = Goes t old put r (n + 1) (m - 1) o token_shift × (0 < m)
Does t old put r n m σ f o (Ok (Code.Plain Afresh.Reduced)) = Goes t old put r (n + 1) m o reduction
Does t old put r n m σ f o (Ok (Code.Whole w)) = Wholly t old put r (m - 1) o w.held w.breaks × (0 < m)
Does t old put r n m σ f o (Ok (Code.Left k)) = Goes t old put r n k o left_break
Does t old put r n m σ f o (Ok (Code.Plain Afresh.Taken)) = (o ≡ stop (taken σ)) × Holds r n σ
Does t old put r n m σ f o (Err e) = (o ≡ stop (stuck_of (shifted σ) e)) × Listed t old put r m f

-- ---- a reduction
abbrev pub Reduces : List ℕ → ℕ → Row → Reading.Turn → Result Unit Stuck → Type 0
Reduces r n f o (Ok _) = Landed r n f o
Reduces r n f o (Err e) = (i : ℕ) → o ≡ stop (stuck_of i e)

-- ---- a piece next: the entry v on top of the list
pub record Facing (t old put run r : List ℕ) (n m v : ℕ) (σ : Stack) (f : Row) : Type 0 where
  pub prod : ℕ
  pub kids : Row
  pub rest : Row
  pub is : f ≡ nod prod kids rest
  pub some : 0 < toks kids
  pub more : 0 < m
  pub piece : Piece t old v (node prod kids)
  pub run_is : run ≡ words piece.row
  pub holds : Holds r n σ
  pub whole : Listed t old put r m f
  pub behind : Listed t old put r (m - 1) rest

toks_nod : (q : ℕ) (c f : Row) → toks (tokened c ⧺ f) ≡ toks (nod q c f)
toks_nod q c f = toks-length (tokened c ⧺ f) ∙ ap length (yield-left c f) ∙ sym (toks-length (nod q c f))

-- the code's goto, none or one
pub no_goto : (o : Prelude.Option ℕ) → is_some o ≡ false → goto_is o ≡ Option.none
no_goto (Some s) e = cc
no_goto None e = refl

pub a_goto : (o : Prelude.Option ℕ) → is_some o ≡ true → (s : ℕ) × (goto_is o ≡ some s)
a_goto (Some s) e = (s, refl)
a_goto None e = absurd (cc)

module _ {t old put run r : List ℕ} {n m v : ℕ} {σ : Stack} {f : Row} (F : Facing t old put run r n m v σ f) where
  pub ripe : Ripe (table_of t) run r n σ F.prod F.kids
  ripe = record { holds = F.holds; reads = rw F.run_is (piece_reads F.whole.few F.piece); some = F.some }

  pub opens : Opens t old put r v (m - 1) (tokened F.kids ⧺ F.rest)
  opens =
      record {
        prod = F.prod;
        kids = F.kids;
        rest = F.rest;
        few = F.whole.few;
        whole = F.piece;
        pending = F.behind.pending;
        counted = F.whole.counted;
        is = refl;
        small = omega (arith, toks_nod F.prod F.kids F.rest, ap toks F.is, F.whole.small);
      }

  -- no goto: a left-break
  pub left-broken : {r' : List ℕ} {k : ℕ} {o : Option ℕ} → n ≤ 2048 → o ≡ Option.none → Pending t old put r' k (tokened F.kids ⧺ F.rest) → Elsewhere r r'
      → Goes t old put r' n k (Moves.enter (table_of t) (2048 - n) σ F.kids F.rest o) left_break
  left-broken {r' = r'} l e P E =
      record {
        stack = σ;
        rest = tokened F.kids ⧺ F.rest;
        is = rw e refl;
        holds = stack_stands l E.below F.holds;
        listed = record { few = F.whole.few; codes = F.whole.codes; pending = P; counted = counts_stand old r r' E.above F.whole.counted; small = opens.small };
      }

  -- a goto: a whole shift, within the room or not
  pub shifted_whole : {r' : List ℕ} {h b s : ℕ} {o : Option ℕ} → n ≤ 2048 → o ≡ some s → Shifted (table_of t) r' n σ F.kids h b → drop states_end r' ≡ drop states_end r
      → Wholly t old put r' (m - 1) (Moves.enter (table_of t) (2048 - n) σ F.kids F.rest o) h b
  shifted_whole l e S d =
      record {
        kids = F.kids;
        broken = S.broken;
        goes = record { stack = right_break (table_of t) F.kids σ; rest = F.rest; is = rw e (by (dec_le (standing F.kids) (2048 - n))); holds = S.holds; listed = list_stands d F.behind };
      }
    where
      by : (x : Dec (standing F.kids ≤ 2048 - n)) → fits x (on (whole_shift F.kids) (right_break (table_of t) F.kids σ) F.rest) ≡ on (whole_shift F.kids) (right_break (table_of t) F.kids σ) F.rest
      by (yes h) = refl
      by (no h) = absurd (h (omega (arith, S.many, S.room)))

  pub no_room : {s : ℕ} {o : Option ℕ} → n ≤ 2048 → o ≡ some s → 2048 < n + standing F.kids → Moves.enter (table_of t) (2048 - n) σ F.kids F.rest o ≡ stop (refused 8 0)
  no_room k e l = rw e (by (dec_le (standing F.kids) (2048 - n)))
    where
      by : (x : Dec (standing F.kids ≤ 2048 - n)) → fits x (on (whole_shift F.kids) (right_break (table_of t) F.kids σ) F.rest) ≡ stop (refused 8 0)
      by (yes h) = absurd (omega arith)
      by (no h) = refl

  -- its run is no longer than the records that a tree may have
  pub short : Rows.Holds old → length run ≤ 6144
  short H =
      let P = F.piece in
      let z = ap length F.run_is ∙ length-words P.row in
      omega (arith, P.forest.within, H.0)

-- ---- a reduction's room
module _ (G : Table) (n p : ℕ) (σ : Stack) (f : Row) where
  pub reduce_full : 2048 ≤ n → Reading.reduce G (2048 - n) p σ f ≡ stop (refused 8 0)
  reduce_full h = let e : 2048 - n ≡ 0 = omega arith in rw e refl

  reduce-some : n < 2048 → Reading.reduce G (2048 - n) p σ f ≡ Reading.settle G p f (Reading.pop (length (G.rhs p)) σ ∅)
  reduce-some h = let e : 2048 - n ≡ suc (2047 - n) = omega arith in rw e refl

  pub reduces : (r : List ℕ) (o : Result Unit Stuck) → n < 2048 → Lands r n f (Reading.settle G p f (Reading.pop (length (G.rhs p)) σ ∅)) o → Reduces r n f (Reading.reduce G (2048 - n) p σ f) o
  reduces r (Ok u) h L = record { stack = L.stack; is = reduce-some h ∙ L.is; holds = L.holds }
  reduces r (Err e) h L = λ i. reduce-some h ∙ L.1 ∙ ap (λ (s : Stuck). stop (stuck_of i s)) (sym L.0)

-- ---- a token next: the list behind it
pub behind : {t old put r : List ℕ} {m : ℕ} {f : Row} {x : Tok} {g : Row} → Listed t old put r m f → f ≡ tok x g → (0 < m) × Listed t old put r (m - 1) g
behind {t} {old} {put} {r} {m} {f} {x} {g} L e = by m f L.pending e L.small
  where
    made : (m : ℕ) {h : Row} → Pending t old put r m h → h ≡ g → toks g ≤ 2048 → (0 < suc m) × Listed t old put r (suc m - 1) g
    made m P z l =
        let p : suc m - 1 ≡ m = omega arith in
        (omega arith, rw p (record { few = L.few; codes = L.codes; pending = subst (Pending t old put r m) z P; counted = L.counted; small = l }))

    by : (m : ℕ) (f : Row) → Pending t old put r m f → f ≡ tok x g → toks f ≤ 2048 → (0 < m) × Listed t old put r (m - 1) g
    by zero (tok x f) P e l = elim P [ ]
    by zero (nod q c f) P e l = elim P [ ]
    by zero ∅ none e l = let z : ◌≡◌ {A = ℕ} 0 1 = cc in absurd (omega arith)
    by (suc m) f (piece v (leaf y) q i P h k) e l = made m k (cc) (omega (arith, ap toks e))
    by (suc m) f (piece v (node q c) w i P h k) e l = let z : ◌≡◌ {A = ℕ} 0 1 = cc in absurd (omega arith)
    by (suc m) f (code c q i k) e l = made m k (cc) (omega (arith, ap toks e))

-- ---- a reduction, whatever is next
turn_reduces : (G : Table) (r p : ℕ) (σ : Stack) (f : Row) → G.act (top σ) (look 0 (yield f)) ≡ red p → turn G r σ f ≡ Reading.reduce G r p σ f
turn_reduces G r p σ ∅ e = ap (λ (a : Act). Reading.plain G r a σ ∅) e
turn_reduces G r p σ (tok x f) e = ap (λ (a : Act). Reading.plain G r a σ (tok x f)) e
turn_reduces G r p σ (nod q c f) e = ap (λ (a : Act). Moves.piece G r a σ q c f) e

module _ {t old put r : List ℕ} {m : ℕ} {f : Row} {k : ℕ} {x : Act} (n p : ℕ) (σ : Stack) (L : Listed t old put r m f) (e : x ≡ (table_of t).act (top σ) k) (l : k ≡ look 0 (yield f)) (z : x ≡ red p) where
  is_reduction : turn (table_of t) (2048 - n) σ f ≡ Reading.reduce (table_of t) (2048 - n) p σ f
  is_reduction = turn_reduces (table_of t) (2048 - n) p σ f (ap ((table_of t).act (top σ)) (sym l) ∙ sym e ∙ z)

  pub reduced : {r' : List ℕ} → drop states_end r' ≡ drop states_end r → Landed r' n f (Reading.reduce (table_of t) (2048 - n) p σ f) → Does t old put r' n m σ f (turn (table_of t) (2048 - n) σ f) (Ok (Code.Plain Afresh.Reduced))
  reduced d D = record { stack = D.stack; rest = f; is = is_reduction ∙ D.is; holds = D.holds; listed = list_stands d L }

  pub not_reduced : {r' : List ℕ} (s : Stuck) → drop states_end r' ≡ drop states_end r → ((i : ℕ) → Reading.reduce (table_of t) (2048 - n) p σ f ≡ stop (stuck_of i s))
      → Does t old put r' n m σ f (turn (table_of t) (2048 - n) σ f) (Err s)
  not_reduced s d D = (is_reduction ∙ D (shifted σ), list_stands d L)

-- ---- a piece next, where the action on its first token is no reduction
pub data Other : Act → Type 0 where
  error : Other err
  accept : Other acc
  shift : {s : ℕ} → Other (sh s)

pub other_not : {x : Act} → Other x → (p : ℕ) → x ≡ red p → ⊥
other_not error p e = let z : ◌≡◌ {A = ℕ} 0 1 = cc in omega arith
other_not accept p e = let z : ◌≡◌ {A = ℕ} 0 1 = cc in omega arith
other_not shift p e = let z : ◌≡◌ {A = ℕ} 0 1 = cc in omega arith

module _ {t old put run r : List ℕ} {n m v : ℕ} {σ : Stack} {f : Row} (F : Facing t old put run r n m v σ f) where
  abbrev G : Table
  G = table_of t

  abbrev over : Option ℕ
  over = G.goto (top σ) (G.lhs F.prod)

  pub enters : {k : ℕ} {x : Act} (r' : List ℕ) (o : Result Turn Stuck) → x ≡ G.act (top σ) k → k ≡ look 0 (yield f) → Other x
      → Does t old put r' n m σ f (Moves.enter G (2048 - n) σ F.kids F.rest over) o → Does t old put r' n m σ f (turn G (2048 - n) σ f) o
  enters {k} {x} r' o e l y D = subst (λ (w : Reading.Turn). Does t old put r' n m σ f w o) (sym (is_piece ∙ ap (λ (a : Act). Moves.piece G (2048 - n) a σ F.prod F.kids F.rest) (sym (e ∙ ap (G.act (top σ)) l)) ∙ by x y)) D
    where
      is_piece : turn G (2048 - n) σ f ≡ Moves.piece G (2048 - n) (G.act (top σ) (look 0 (yield f))) σ F.prod F.kids F.rest
      is_piece = rw F.is refl

      by : (x : Act) → Other x → Moves.piece G (2048 - n) x σ F.prod F.kids F.rest ≡ Moves.enter G (2048 - n) σ F.kids F.rest over
      by err error = refl
      by acc accept = refl
      by (sh s) shift = refl
      by (red p) x = elim x [ ]

-- ---- the tokens of the list
pub counting_of : {t old put r : List ℕ} {m : ℕ} {f : Row} → Listed t old put r m f → Counting t old put r m f
counting_of L = record { few = L.few; pending = L.pending; counted = L.counted; small = L.small }
