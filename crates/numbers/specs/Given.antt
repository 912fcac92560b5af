-- What the numbering is lent: an old tree in order, and the new tree's records in the room. Both are such rows as the code walks over,
-- and a record of the one is a record of the other exactly where the trees' records agree.
use Rattle.std.specs.Prelude.{◌≡◌, List, [], ◌∷◌, ℕ, zero, suc, ◌+◌, ◌-◌, ◌*◌, ◌≤◌, ◌<◌, length, get_or, take}
use Rattle.std.proofs.Common.{sym, ap, ◌∙◌, subst, arith, get_or-take}
use Rattle.std.proofs.Math.Option.{some}
use Rattle.std.proofs.Math.Decide.{dec_lt}
use Rattle.std.proofs.Math.ListN.{get_elem?}
use Rattle.definitions.specs.Sheet.{T}
use Rattle.definitions.specs.Tree.{mk, kind, Row, ∅, size, yield, NRow, ε, ntok, nnod, erase, nums, InOrder}
use Rattle.definitions.specs.Reading.{Tree, leaf, node, cons}
use Rattle.theory.specs.Records.Flat.{Word, wtok, wnod, flat, length-flat, toks_of, toks_of_flat}
use Rattle.theory.specs.Records.Stand.{at_left, at_right, at_beyond}
use Rattle.theory.specs.Records.Scan.{recs}
use Rattle.theory.specs.Numbers.Counting.{among, occ-nums, length-nums}
use Rattle.theory.specs.Edits.EditedText.{Known, known_kinds}
use Rattle.machine.specs.Room.{kind_w, ident_w, size_w, enc}
use Rattle.machine.specs.Laws.{last, size-last}
use Rattle.tree.specs.Rows.{kind_at, number_at, size_at, Stands, holds_stands}
use Rattle.tree.specs.Numbers.{places, numbered, stands_nums}
use Rattle.numbers.specs.Pointwise.{at_some, agree_at, among-at, among_two}
use Rattle.numbers.specs.Roots.{Root, root-at, root-last, size-some, bound_size}
use Rattle.numbers.specs.Records.{front, kind_of, number_of, size_of, Shape, OldRow, Same, front_at}

-- r is the old tree, f the new one; the room holds the new one's n records
pub record Given (old room : List ℕ) (n : ℕ) (r : NRow) (f : Row) : Type 0 where
  pub table : List ℕ
  pub few : T table ≤ 256
  pub in_order : InOrder table old r
  pub known : Known (T table) (yield f)
  pub small : n ≤ 2048
  pub many : n ≡ size f
  pub records : take (3 * n) room ≡ enc (flat f)

-- ---- a record's three words; an old inner node's number is no part of its record
pub record Is (R : List ℕ) (i : ℕ) (w : Word) : Type 0 where
  pub kind : kind_of R i ≡ kind_w w
  pub number : number_of R i ≡ ident_w w
  pub size : size_of R i ≡ size_w w

pub record IsOld (old : List ℕ) (k : ℕ) (w : Word) : Type 0 where
  pub kind : kind_at old k ≡ kind_w w
  pub number : kind_w w < 256 → number_at old k ≡ ident_w w
  pub size : size_at old k ≡ size_w w

enc-at : (ws : List Word) (i : ℕ) {w : Word} → get_elem? ws i ≡ some w → Is (enc ws) i w
unfolding enc
enc-at [] i e = let z : ◌≡◌ {A = ℕ} 0 1 = cc in absurd (omega arith)
enc-at (x ∷ ws) zero {w} e = let z : x ≡ w = cc in record { kind = ap kind_w z; number = ap ident_w z; size = ap size_w z }
enc-at (x ∷ ws) (suc i) e =
    let r = enc-at ws i e in
    let l = kind_w x ∷ ident_w x ∷ size_w x ∷ enc ws in
    let a : 3 * suc i ≡ suc (suc (suc (3 * i))) = omega arith in
    let b : 3 * suc i + 1 ≡ suc (suc (suc (3 * i + 1))) = omega arith in
    let c : 3 * suc i + 2 ≡ suc (suc (suc (3 * i + 2))) = omega arith in
    record {
      kind = ap (λ (m : ℕ). get_or l m 0) a ∙ r.kind;
      number = ap (λ (m : ℕ). get_or l m 0) b ∙ r.number;
      size = ap (λ (m : ℕ). get_or l m 0) c ∙ r.size;
    }

old_at : (old : List ℕ) (r : NRow) (a k b : ℕ) {w : Word} → b ≡ a + k → Stands old a r → get_elem? (recs r) k ≡ some w → IsOld old b w
old_at old ε a k b z s e = let y : ◌≡◌ {A = ℕ} 0 1 = cc in absurd (omega arith)
old_at old (ntok x i f) a zero b {w} z s e =
    let y : b ≡ a = omega arith in
    let v : wtok (mk x i) ≡ w = cc in
    let q = s.0 in
    rw (y, ← v) (record { kind = q.kind; number = λ h. q.number; size = q.size })
old_at old (ntok x i f) a (suc k) b z s e = old_at old f (suc a) k b (omega arith) s.1 e
old_at old (nnod p i c f) a k b {w} z s e = by (dec_lt k (size (erase c))) (dec_lt (size (erase c)) k) (λ g. old_at old c a k b z s.0.0 g) (λ l g. old_at old f (suc (a + size (erase c))) (k - suc (size (erase c))) b (omega arith) s.1 g)
  where
    v : Word
    v = wnod p (suc (size (erase c)))

    by : Dec (k < size (erase c)) → Dec (size (erase c) < k) → (get_elem? (recs c) k ≡ some w → IsOld old b w) → (size (erase c) < k → get_elem? (recs f) (k - suc (size (erase c))) ≡ some w → IsOld old b w) → IsOld old b w
    by (yes l) g kc kf = kc (sym (at_left (recs c) (v ∷ recs f) k (omega (arith, length-flat (erase c)))) ∙ e)
    by (no l) (yes g) kc kf = kf g (sym (at_right (recs c) (v ∷ recs f) k (suc (k - suc (size (erase c)))) (omega (arith, length-flat (erase c)))) ∙ e)
    by (no l) (no g) kc kf =
        let u = at_right (recs c) (v ∷ recs f) k 0 (omega (arith, length-flat (erase c))) in
        let t : v ≡ w = cc in
        let y : b ≡ a + size (erase c) = omega arith in
        let q = s.0.1 in
        rw (y, ← t) (record { kind = q.kind; number = λ h. absurd (omega arith); size = q.size })

number-at : (old : List ℕ) (a c k b : ℕ) {y : ℕ} → b ≡ a + k → get_elem? (numbered old (places a c)) k ≡ some y → number_at old b ≡ y
number-at old a zero k b z e = let y : ◌≡◌ {A = ℕ} 0 1 = cc in absurd (omega arith)
number-at old a (suc c) zero b z e = let y : b ≡ a = omega arith in rw y (cc)
number-at old a (suc c) (suc k) b z e = number-at old (suc a) c k b (omega arith) e

-- ---- token kinds are below 256
abbrev pub Low : Word → Type 0
Low (wtok x) = kind x < 256
Low (wnod q n) = Unit {0}

low-at : (T : ℕ) → T ≤ 256 → (l : List Word) → Known T (toks_of l) → (i : ℕ) {w : Word} → get_elem? l i ≡ some w → Low w
low-at T h [] a i e = let z : ◌≡◌ {A = ℕ} 0 1 = cc in absurd (omega arith)
low-at T h (wtok x ∷ l) a zero {w} e = let z : wtok x ≡ w = cc in let y : Low (wtok x) = omega (arith, a.1) in subst Low z y
low-at T h (wtok x ∷ l) a (suc i) e = low-at T h l a.2 i e
low-at T h (wnod q n ∷ l) a zero {w} e = let z : wnod q n ≡ w = cc in let y : Low (wnod q n) = tt in subst Low z y
low-at T h (wnod q n ∷ l) a (suc i) e = low-at T h l a i e

same_word : (x y : Word) → Low x → Low y → kind_w y ≡ kind_w x → size_w y ≡ size_w x → (kind_w x < 256 → ident_w y ≡ ident_w x) → y ≡ x
same_word (wtok (mk k i)) (wtok (mk l j)) a b e s n = let z = n a in cc
same_word (wtok x) (wnod q m) a b e s n = absurd (omega arith)
same_word (wnod p m) (wtok y) a b e s n = absurd (omega arith)
same_word (wnod p m) (wnod q l) a b e s n = let z : q ≡ p = omega arith in cc

module _ {old room : List ℕ} {n : ℕ} {r : NRow} {f : Row} (G : Given old room n r f) where
  abbrev R : List ℕ
  R = front room

  abbrev m : ℕ
  m = size (erase r)

  held : (get_or old 0 0 ≡ m) × (2 + 3 * m ≤ length old)
  held = (holds_stands old r G.in_order.holds).0

  stands : Stands old 0 r
  stands = (holds_stands old r G.in_order.holds).1

  pub count_is : get_or old 0 0 ≡ m
  count_is = held.0

  -- the new tree's records
  pub is_at : (i : ℕ) {w : Word} → get_elem? (flat f) i ≡ some w → Is R i w
  is_at i {w} e =
      let q = enc-at (flat f) i e in
      let s = G.small in
      let l : i < n = omega (arith, at_beyond (flat f) i e, length-flat f, G.many) in
      let word : (x : ℕ) → x < 3 * n → get_or R x 0 ≡ get_or (enc (flat f)) x 0 =
      λ x h. front_at room x (omega arith) ∙ sym (get_or-take (3 * n) room x 0 h) ∙ ap (λ (u : List ℕ). get_or u x 0) G.records in
      record { kind = word (3 * i) (omega arith) ∙ q.kind; number = word (3 * i + 1) (omega arith) ∙ q.number; size = word (3 * i + 2) (omega arith) ∙ q.size }

  pub root : {j : ℕ} → j < n → Root (flat f) j
  root {j} h = root-at f j (omega (arith, G.many))

  -- a record of a piece that stands
  pub part : {j i : ℕ} (x : Root (flat f) j) → x.start ≤ i → i ≤ j → (w : Word) × (get_elem? (flat (cons x.tree ∅)) (i - x.start) ≡ some w) × (get_elem? (flat f) i ≡ some w)
  part {j} {i} x a b =
      let l = flat (cons x.tree ∅) in
      let t = at_some l (i - x.start) (omega (arith, x.ends, length-flat (cons x.tree ∅))) in
      let z : x.start + (i - x.start) ≡ i = omega arith in
      (t.0, t.1, ap (λ (k : ℕ). get_elem? (flat f) k) (sym z) ∙ agree_at (flat f) x.start l (i - x.start) x.agree t.1)

  pub root-size : {j : ℕ} (x : Root (flat f) j) → size_of R j ≡ size (cons x.tree ∅)
  root-size {j} x = (is_at j (root-last x)).size ∙ sym (size-last x.tree)

  pub shape : Shape R n
  shape = record {
    few = G.small;
    some = λ j h. let x = root h in omega (arith, root-size x, size-some x.tree);
    back = λ j h. let x = root h in omega (arith, root-size x, x.ends);
    nest = λ j i h p.
        let x = root h in
        let s = root-size x in
        let y = part x (omega (arith, p.low, x.ends)) p.up in
        omega (arith, (is_at i y.2).size, bound_size (cons x.tree ∅) (i - x.start) y.0 y.1, x.ends, p.low, p.up);
    token = λ j h k. let x = root h in alone x.tree (is_at j (root-last x)) k;
  }
    where
      alone : {j : ℕ} (t : Tree) → Is R j (last t) → kind_of R j < 256 → size_of R j ≡ 1
      alone (leaf x) q k = q.size
      alone (node p c) q k = absurd (omega (arith, q.kind))

  -- the old tree's
  pub old_is : (k : ℕ) {w : Word} → get_elem? (recs r) k ≡ some w → IsOld old k w
  old_is k e = old_at old r 0 k k (omega arith) stands e

  pub old_number : (k : ℕ) {y : ℕ} → get_elem? (nums r) k ≡ some y → (number_at old k ≡ y) × (0 < y)
  old_number k {y} e =
      let g = stands_nums old 0 r stands in
      let a = among-at (nums r) k e in
      (number-at old 0 m k k (omega arith) (ap (λ (l : List ℕ). get_elem? l k) g ∙ e), by y a)
    where
      by : (y : ℕ) → 0 < among y (nums r) → 0 < y
      by zero a = absurd (omega (arith, occ-nums 0 r, G.in_order.numbers.low))
      by (suc y) a = omega arith

  pub old_row : OldRow old m
  old_row = record {
    long = held.1;
    few = G.in_order.nodes.1;
    some = λ k h. let x = num k h in let y = old_number k x.1 in omega (arith, y.0, y.1);
    apart = λ k l h g e.
        let x = num k h in
        let y = num l g in
        let z : x.0 ≡ y.0 = sym (old_number k x.1).0 ∙ e ∙ (old_number l y.1).0 in
        let v = rw z at x.1 in
        once k l y.0 v y.1 (dec_lt k l) (dec_lt l k);
  }
    where
      num : (k : ℕ) → k < m → (y : ℕ) × (get_elem? (nums r) k ≡ some y)
      num k h = at_some (nums r) k (omega (arith, length-nums r))

      once : (k l y : ℕ) → get_elem? (nums r) k ≡ some y → get_elem? (nums r) l ≡ some y → Dec (k < l) → Dec (l < k) → k ≡ l
      once k l y a b (yes h) g = absurd (omega (arith, among_two (nums r) k l h a b, occ-nums y r, G.in_order.numbers.apart y))
      once k l y a b (no h) (yes g) = absurd (omega (arith, among_two (nums r) l k g b a, occ-nums y r, G.in_order.numbers.apart y))
      once k l y a b (no h) (no g) = omega arith

  -- ---- one record is another
  pub new_low : (i : ℕ) {w : Word} → get_elem? (flat f) i ≡ some w → Low w
  new_low i e = low-at (T G.table) G.few (flat f) (rw (toks_of_flat f) G.known) i e

  old_low : (k : ℕ) {w : Word} → get_elem? (recs r) k ≡ some w → Low w
  old_low k e = low-at (T G.table) G.few (recs r) (rw (toks_of_flat (erase r)) (known_kinds (T G.table) r G.in_order.kinds)) k e

  pub same_at : (i k : ℕ) {x : Word} → get_elem? (flat f) i ≡ some x → k < m → Same old R i k → get_elem? (recs r) k ≡ some x
  same_at i k {x} e h s =
      let y = at_some (recs r) k (omega (arith, length-flat (erase r))) in
      let a = is_at i e in
      let b = old_is k y.1 in
      let z = same_word x y.0 (new_low i e) (old_low k y.1) (sym b.kind ∙ s.kind ∙ a.kind) (sym b.size ∙ s.size ∙ a.size)
      (λ l. sym (b.number (omega (arith, b.kind, s.kind, a.kind))) ∙ s.number (omega (arith, a.kind)) ∙ a.number) in
      y.1 ∙ ap some z

  pub at_same : (i k : ℕ) {x : Word} → get_elem? (flat f) i ≡ some x → get_elem? (recs r) k ≡ some x → (k < m) × Same old R i k
  at_same i k e g =
      let a = is_at i e in
      let b = old_is k g in (
        omega (arith, at_beyond (recs r) k g, length-flat (erase r)),
        record { kind = b.kind ∙ sym a.kind; size = b.size ∙ sym a.size; number = λ l. b.number (omega (arith, a.kind)) ∙ sym a.number },
      )
