-- The loop of turns: what is left of the reading comes to what the whole comes to.
use Rattle.std.specs.Prelude.{◌≡◌, refl, cond, Result, Ok, Err, List, ℕ, zero, suc, ◌+◌, ◌-◌, ◌*◌, ◌≤◌, ◌<◌, ltb, get_or}
use Rattle.std.proofs.Common.{sym, ap, ◌∙◌, subst, arith, lt-ltb, le-ltb}
use Rattle.definitions.specs.Table.{table_of}
use Rattle.definitions.specs.Tree.{Row, ∅, size, toks, yield, look}
use Rattle.definitions.specs.Reading.{Tree, leaf, node, cons, Stack, bot, shifted, End, taken, Counts, zeros, Move, reduction, token_shift, whole_shift, left_break, stop}
use Rattle.definitions.specs.Moves.{cost, tally, turn, Done, read, reading}
use Rattle.theory.specs.Machine.Rows.{toks-length}
use Rattle.theory.specs.Machine.Room.{moved}
use Rattle.answers.specs.Values.{counts_of}
use Rattle.answers.specs.declared.Counts as Code
use Rattle.answers.specs.declared.Refusal.{Refusal}
use Rattle.machine.specs.declared.Stuck.{Stuck}
use Rattle.machine.specs.Back.{stuck_of}
use Rattle.machine.specs.Room.{Holds}
use Rattle.reading.specs.Turns.{end_of, read-on, read_stop}
use Rattle.tree.specs.Rows.{size_at}
use Rattle.list.specs.Pieces.{root}
use Rattle.list.specs.Pending.{list_at, Pending, none, piece, code}
use Rattle.updating.specs.Turns.{Listed, Goes, Above}
use Rattle.updating.specs.Shrink.{broken, Still, shrunk}

-- ---- the nodes of the list, by its words
abbrev pub entry_size : List ℕ → ℕ → ℕ
entry_size old e = cond (ltb e 2048) (size_at old e) 1

abbrev pub list_size : List ℕ → List ℕ → ℕ → ℕ
list_size old r zero = 0
list_size old r (suc m) = entry_size old (get_or r (list_at + m) 0) + list_size old r m

size-cons : (x : Tree) (f : Row) → size (cons x f) ≡ size (cons x ∅) + size f
size-cons (leaf x) f = omega arith
size-cons (node q c) f = omega arith

pub list-size : {t old put r : List ℕ} {m : ℕ} {f : Row} → Pending t old put r m f → list_size old r m ≡ size f
list-size none = refl
list-size {old = old} {r = r} (piece {m = m} {f = f} v x e l P h q) = rw (e, lt-ltb v 2048 l) (omega (arith, (root P).many, size-cons x f, list-size q))
list-size (code {m = m} k e l q) = rw (e, le-ltb (2048 + k) 2048 (omega arith)) (omega (arith, list-size q))

pub few_nodes : {t old put r : List ℕ} {m : ℕ} {f : Row} → get_or old 0 0 ≤ 2048 → Pending t old put r m f → size f ≤ 2048 * m
few_nodes h none = omega arith
few_nodes {old = old} h (piece {f = f} v x e l P k q) = omega (arith, P.forest.within, ap size P.is, size-cons x f, few_nodes h q)
few_nodes h (code k e l q) = omega (arith, few_nodes h q)

-- ---- how a reading ends, by the code's answer
pub record Accepts (r : List ℕ) (d : Done) (n : ℕ) (k : Counts) : Type 0 where
  pub stack : Stack
  pub is : d.end ≡ taken stack
  pub counts : d.counts ≡ k
  pub small : n ≤ 2048
  pub holds : Holds r n stack

-- a refusal that a reading can end with: by what stopped it, and the tokens shifted, of which there are few
abbrev pub Stopped : Refusal → Type 0
Stopped e = (s : Stuck) × (i : ℕ) × (i ≤ 2048) × (end_of e ≡ stuck_of i s)

abbrev pub Ends : List ℕ → Done → Result (ℕ × Code.Counts) Refusal → Type 0
Ends r d (Ok a) = Accepts r d a.0 (counts_of a.1)
Ends r d (Err e) = (d.end ≡ end_of e) × Stopped e

-- ---- the loop
pub record Running (t old put r₀ r : List ℕ) (f₀ : Row) (n m next : ℕ) (k : Counts) : Type 0 where
  pub small : n ≤ 2048
  pub above : Above r₀ r
  pub stack : Stack
  pub rest : Row
  pub holds : Holds r n stack
  pub listed : Listed t old put r m rest
  pub looks : next ≡ look 0 (yield rest)
  pub moves : ℕ
  pub enough : 2048 + size rest < moves + n
  pub left : read (table_of t) moves (2048 - n) k stack rest ≡ reading (table_of t) 2048 f₀
  pub tokens : shifted stack + toks rest ≡ toks f₀
  pub spent : k.lefts + k.wholes + k.shifts + k.reductions + moves ≡ suc (2048 + size f₀)
  pub breaks : k.rights + size rest ≤ size f₀

pub begins : {t old put r₀ r : List ℕ} {f : Row} {m next : ℕ} → Above r₀ r → Holds r 0 bot → Listed t old put r m f → next ≡ look 0 (yield f) → Running t old put r₀ r f 0 m next zeros
begins {f = f} A H L e =
    record {
      small = omega arith;
      above = A;
      stack = bot;
      rest = f;
      holds = H;
      listed = L;
      looks = e;
      moves = suc (2048 + size f);
      enough = omega arith;
      left = refl;
      tokens = omega arith;
      spent = omega arith;
      breaks = omega arith;
    }

one_of : (v : Move) (k : Counts) → ((tally v k).lefts + (tally v k).wholes + (tally v k).shifts + (tally v k).reductions ≡ suc (k.lefts + k.wholes + k.shifts + k.reductions)) × ((tally v k).rights ≡ k.rights + broken v)
one_of reduction k = (omega arith, omega arith)
one_of token_shift k = (omega arith, omega arith)
one_of (whole_shift c) k = (omega arith, omega arith)
one_of left_break k = (omega arith, omega arith)

-- counts agree field by field
counts-same : (a b : Counts) → a.lefts ≡ b.lefts → a.rights ≡ b.rights → a.wholes ≡ b.wholes → a.shifts ≡ b.shifts → a.reductions ≡ b.reductions → a ≡ b
counts-same a b p q u v w =
    ap (λ (x : ℕ). record { lefts = x; rights = a.rights; wholes = a.wholes; shifts = a.shifts; reductions = a.reductions }) p
    ∙ ap (λ (x : ℕ). record { lefts = b.lefts; rights = x; wholes = a.wholes; shifts = a.shifts; reductions = a.reductions }) q
    ∙ ap (λ (x : ℕ). record { lefts = b.lefts; rights = b.rights; wholes = x; shifts = a.shifts; reductions = a.reductions }) u
    ∙ ap (λ (x : ℕ). record { lefts = b.lefts; rights = b.rights; wholes = b.wholes; shifts = x; reductions = a.reductions }) v
    ∙ ap (λ (x : ℕ). record { lefts = b.lefts; rights = b.rights; wholes = b.wholes; shifts = b.shifts; reductions = x }) w

pub with_counts : {t old put r₀ r : List ℕ} {f₀ : Row} {n m next : ℕ} {k : Counts} (k' : Counts) → Running t old put r₀ r f₀ n m next k
    → k.lefts ≡ k'.lefts → k.rights ≡ k'.rights → k.wholes ≡ k'.wholes → k.shifts ≡ k'.shifts → k.reductions ≡ k'.reductions → Running t old put r₀ r f₀ n m next k'
with_counts {t} {old} {put} {r₀} {r} {f₀} {n} {m} {next} {k} k' R p q u v w = subst (λ (x : Counts). Running t old put r₀ r f₀ n m next x) (counts-same k k' p q u v w) R

pub above_on : {r₀ r r' : List ℕ} → Above r₀ r → Above r r' → Above r₀ r'
above_on A B = record { rest = B.rest ∙ A.rest; long = B.long ∙ A.long }

module _ {t old put r₀ r : List ℕ} {f₀ : Row} {n m next : ℕ} {k : Counts} (R : Running t old put r₀ r f₀ n m next k) where
  one_more : (j : ℕ) × (R.moves ≡ suc j)
  one_more = by R.moves R.enough
    where
      by : (j : ℕ) → 2048 + size R.rest < j + n → (i : ℕ) × (j ≡ suc i)
      by zero l = absurd (omega (arith, R.small))
      by (suc j) l = (j, refl)

  module _ {r' : List ℕ} {n' m' : ℕ} {v : Move} (g : Goes t old put r' n' m' (turn (table_of t) (2048 - n) R.stack R.rest) v) where
    -- nodes held, and the list, after the move
    pub held_then : n' ≡ n + cost v
    held_then = g.holds.many ∙ (moved (table_of t) (2048 - n) R.stack R.rest g.is).holds ∙ ap (◌+ cost v) (sym R.holds.many)

    pub small_then : n' ≤ 2048
    small_then = omega (arith, held_then, (moved (table_of t) (2048 - n) R.stack R.rest g.is).within, R.small)

    -- the loop's measure falls
    pub falls : (2048 - n') + list_size old r' m' < (2048 - n) + list_size old r m
    falls =
        omega (arith, list-size g.listed.pending, list-size R.listed.pending, held_then, small_then, (shrunk (table_of t) (2048 - n) R.stack R.rest g.is).less)

    -- what stands next stays where nothing is shifted
    pub looks_still : Still v → next ≡ look 0 (yield g.rest)
    looks_still u = R.looks ∙ ap (look 0) (sym ((shrunk (table_of t) (2048 - n) R.stack R.rest g.is).text u))

    pub goes : {next' : ℕ} → Above r r' → next' ≡ look 0 (yield g.rest) → Running t old put r₀ r' f₀ n' m' next' (tally v k)
    goes A e =
        let j = one_more.0 in
        let z = one_more.1 in
        let w = moved (table_of t) (2048 - n) R.stack R.rest g.is in
        let s = shrunk (table_of t) (2048 - n) R.stack R.rest g.is in
        let c : 2048 - n - cost v ≡ 2048 - n' = omega (arith, held_then, w.within) in
        let q = read-on (table_of t) j (2048 - n) k R.stack R.rest g.is in
        let o = one_of v k in
        record {
          small = small_then;
          above = above_on R.above A;
          stack = g.stack;
          rest = g.rest;
          holds = g.holds;
          listed = g.listed;
          looks = e;
          moves = j;
          enough = omega (arith, R.enough, held_then, s.less);
          left = sym (rw c at q) ∙ (rw z at R.left);
          tokens = omega (arith, w.tokens, R.tokens, toks-length g.rest, toks-length R.rest);
          spent = omega (arith, R.spent, o.0);
          breaks = omega (arith, R.breaks, o.1, s.breaks);
        }

  -- the end
  pub ends : {x : End} → turn (table_of t) (2048 - n) R.stack R.rest ≡ stop x → reading (table_of t) 2048 f₀ ≡ record { end = x; counts = k }
  ends e = sym R.left ∙ ap (λ (j : ℕ). read (table_of t) j (2048 - n) k R.stack R.rest) one_more.1 ∙ read_stop (table_of t) one_more.0 (2048 - n) k R.stack R.rest e

  -- no count is larger than the nodes of the list and the room
  pub counts_few : (k.lefts ≤ 2049 + size f₀) × (k.rights ≤ size f₀) × (k.wholes ≤ 2049 + size f₀) × (k.shifts ≤ 2049 + size f₀) × (k.reductions ≤ 2049 + size f₀)
  counts_few = (omega (arith, R.spent), omega (arith, R.breaks), omega (arith, R.spent), omega (arith, R.spent), omega (arith, R.spent))
