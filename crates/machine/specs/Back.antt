-- Popping by sizes: the top piece ends where the records do, and its root says how far back it starts; and where a reduction lands.
use Rattle.std.specs.Prelude.{◌≡◌, refl, Some, None, Result, Ok, Err, List, [], ◌∷◌, ◌++◌, ℕ, suc, ◌+◌, ◌-◌, ◌*◌, ◌≤◌, ◌<◌, length, get_or, take}
use Rattle.std.specs.Prelude as Prelude
use Rattle.std.proofs.Common.{take-take, sym, ap, ◌∙◌, append_assoc, append-nil, arith, length-append}
use Rattle.std.proofs.Math.Seq.{take-append_seam}
use Rattle.std.proofs.Math.Option.{Option, none, some}
use Rattle.definitions.specs.Table.{Table}
use Rattle.definitions.specs.Tree.{Row, ∅, size}
use Rattle.definitions.specs.Reading.{Tree, leaf, node, cons, Stack, bot, push, top, held, under, pop, End, refused, reduction, Turn, on, stop, settle}
use Rattle.theory.specs.Records.Flat.{wtok, wnod, flat, length-flat}
use Rattle.theory.specs.Records.FlatStack.{flat_s}
use Rattle.machine.specs.Room.{size_w, enc, States, over, Holds, put}
use Rattle.machine.specs.Laws.{enc-append, length-enc, last, inside, flat_push, size-last, length-inside, length-flat_s, size-at, pushed}
use Rattle.machine.specs.declared.Stuck.{Stuck}
use Rattle.machine.specs.declared.Stuck.TheVariants.{NoAction, NoRoom, NoGoto}

-- j of d pieces are still to be popped, and pos nodes are left
pub record Backing (r : List ℕ) (d : ℕ) (σ : Stack) (j pos : ℕ) : Type 0 where
  pub kids : Row
  pub below : Stack
  pub is : pop d σ ∅ ≡ pop j below kids
  pub at : pos ≡ held below
  pub words : flat_s below ++ flat kids ≡ flat_s σ
  pub states : States r below

pub begin : {r : List ℕ} {n : ℕ} {σ : Stack} (d : ℕ) → Holds r n σ → Backing r d σ d n
begin {σ = σ} d h = record { kids = ∅; below = σ; is = refl; at = h.many; words = append-nil (flat_s σ); states = h.states }

cons-flat : (τ : Stack) (s : ℕ) (t : Tree) (c : Row) → flat_s τ ++ flat (cons t c) ≡ flat_s (push τ s t) ++ flat c
cons-flat τ s (leaf x) c = sym (append_assoc (flat_s τ) (wtok x ∷ []) (flat c))
cons-flat τ s (node q k) c = simp append_assoc

-- one piece further back
pub back1 : {r : List ℕ} {n d : ℕ} {σ : Stack} {j pos : ℕ} → Holds r n σ → Backing r d σ (suc j) pos → 0 < pos
    → (get_or r (3 * pos - 1) 0 ≤ pos) × Backing r d σ j (pos - get_or r (3 * pos - 1) 0)
back1 {r} {n} {d} {σ} {j} {pos} h P p = by P.kids P.below P.is P.at P.words P.states
  where
    by : (c : Row) (τ : Stack) → pop d σ ∅ ≡ pop (suc j) τ c → pos ≡ held τ → flat_s τ ++ flat c ≡ flat_s σ → States r τ
        → (get_or r (3 * pos - 1) 0 ≤ pos) × Backing r d σ j (pos - get_or r (3 * pos - 1) 0)
    by c bot e a w x = absurd (omega arith)
    by c (push τ s t) e a w (over x k) =
        let m = size-last t in
        let l = length-inside t in
        let i : length (flat_s τ ++ inside t) ≡ held τ + length (inside t) = omega (arith, length-append (flat_s τ) (inside t), length-flat_s τ) in
        let all = ap length w ∙ length-flat_s σ ∙ sym h.many in
        let z : get_or r (3 * pos - 1) 0 ≡ size_w (last t) =
        size-at r n (flat_s τ ++ inside t) (last t) (flat c) (3 * pos - 1) (h.records ∙ ap enc (sym w ∙ ap (◌++ flat c) (flat_push τ s t)))
        (omega (arith, length-append (flat_s (push τ s t)) (flat c), length-flat_s (push τ s t))) (omega arith) in
        (omega arith, record { kids = cons t c; below = τ; is = e; at = omega arith; words = cons-flat τ s t c ∙ w; states = k })

pub none_left : {r : List ℕ} {d : ℕ} {σ : Stack} {j : ℕ} → Backing r d σ (suc j) 0 → pop d σ ∅ ≡ under
none_left {r} {d} {σ} {j} P = by P.kids P.below P.is P.at
  where
    by : (c : Row) (τ : Stack) → pop d σ ∅ ≡ pop (suc j) τ c → 0 ≡ held τ → pop d σ ∅ ≡ under
    by c bot e a = e
    by c (push τ s t) e a = absurd (omega (arith, length-inside t))

-- what a pop of d pieces finds: where they start, or the bottom before that
abbrev pub Backs : List ℕ → ℕ → Stack → Prelude.Option ℕ → Type 0
Backs r d σ (Some pos) = Backing r d σ 0 pos
Backs r d σ None = pop d σ ∅ ≡ under

pub back_size : {r : List ℕ} {n d : ℕ} {σ : Stack} {pos : ℕ} → Holds r n σ → (B : Backing r d σ 0 pos) → n ≡ pos + size B.kids
back_size {σ = σ} h B =
    omega (arith, h.many, B.at, ap length B.words, length-append (flat_s B.below) (flat B.kids), length-flat B.kids, length-flat_s σ, length-flat_s B.below)

-- the room holds what is left too
pub popped : {r : List ℕ} {n d : ℕ} {σ : Stack} {pos : ℕ} → Holds r n σ → (B : Backing r d σ 0 pos) → Holds r pos B.below
popped {r} {n} {pos = pos} h B =
    let X = enc (flat_s B.below) in
    let e : 3 * pos ≡ length X = omega (arith, B.at, length-enc (flat_s B.below), length-flat_s B.below) in
    record {
      many = B.at;
      states = B.states;
      records = sym (take-take (3 * pos) (3 * n) r (omega (arith, back_size h B)))
          ∙ ap (take (3 * pos)) (h.records ∙ ap enc (sym B.words) ∙ enc-append (flat_s B.below) (flat B.kids))
          ∙ rw e (take-append_seam X (enc (flat B.kids)));
    }

-- ---- a reduction over n nodes, with f left to read
pub record Landed (r : List ℕ) (n : ℕ) (f : Row) (o : Turn) : Type 0 where
  pub stack : Stack
  pub is : o ≡ on reduction stack f
  pub holds : Holds r (n + 1) stack

-- the definitions' refusal, after i tokens shifted
abbrev pub stuck_of : ℕ → Stuck → End
stuck_of i NoAction = refused 7 i
stuck_of i NoRoom = refused 8 0
stuck_of i NoGoto = refused 10 0

abbrev pub Lands : List ℕ → ℕ → Row → Turn → Result Unit Stuck → Type 0
Lands r n f o (Ok _) = Landed r n f o
Lands r n f o (Err e) = (e ≡ NoGoto) × (o ≡ stop (refused 10 0))

module _ (G : Table) {r : List ℕ} {n : ℕ} {σ : Stack} (f : Row) (p : ℕ) (h : Holds r n σ) {pos : ℕ} (B : Backing r (length (G.rhs p)) σ 0 pos)
    {x : Option ℕ} (g : x ≡ G.goto (top B.below) (G.lhs p)) where
  pub nowhere : x ≡ none → settle G p f (pop (length (G.rhs p)) σ ∅) ≡ stop (refused 10 0)
  nowhere z = rw (B.is, ← g, z) refl

  pub landed : (s : ℕ) → x ≡ some s → 16384 ≤ length r → n < 2048 → Landed (put r n s (256 + p) 0 (n - pos + 1)) n f (settle G p f (pop (length (G.rhs p)) σ ∅))
  landed s z long room =
      let c = B.kids in
      let v = wnod p (suc (size c)) in
      let e : n - pos + 1 ≡ suc (size c) = omega (arith, back_size h B) in
      let k : flat_s (push B.below s (node p c)) ≡ flat_s σ ++ (v ∷ []) = sym (append_assoc (flat_s B.below) (flat c) (v ∷ [])) ∙ ap (◌++ (v ∷ [])) B.words in
      record {
        stack = push B.below s (node p c);
        is = rw (B.is, ← g, z) refl;
        holds = rw e (pushed v B.below s (node p c) long room h (omega (arith, back_size h B, B.at)) B.states k);
      }
