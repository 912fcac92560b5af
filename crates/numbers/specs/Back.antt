-- The backward pass: the records before e are still to be looked at, and the number words from e on say what each record keeps.
use Rattle.std.specs.Prelude.{◌≡◌, refl}
use Rattle.std.proofs.Math.Path.{sym, ap}
use Rattle.std.proofs.Common.{◌∙◌, arith}
use mathlib.Core.List.{List, [], ◌∷◌, ◌++◌, append_assoc, append-nil}
use Rattle.std.proofs.Math.Option.{Option, none, some}
use Prim.Native.Nat.{ℕ, zero, suc, ◌+◌, ◌-◌, ◌≤◌, ◌<◌}
use Rattle.std.proofs.Math.ListN.{length, length-append, get_elem?}
use Rattle.definitions.specs.Tree.{Tok, mk, ident, Row, ∅, tok, nod, ◌⧺◌, size, NRow, erase, nums}
use Rattle.definitions.specs.Reading.{Tree, leaf, node, cons}
use Rattle.theory.specs.Numbers.Number.{Verdict, new!, judge}
use Rattle.theory.specs.Machine.Rows.{size-append}
use Rattle.theory.specs.Records.Flat.{Word, wtok, wnod, flat, length-flat}
use Rattle.theory.specs.Records.Stand.{at_beyond, Agree, agree_in, agree_right, agree_self}
use Rattle.theory.specs.Records.Scan.{Last, empty, ends, last, flat_append}
use Rattle.theory.specs.Records.Words.{given, source, sources}
use Rattle.machine.specs.Room.{ident_w}
use Rattle.machine.specs.Laws as Laws
use Rattle.tree.specs.Rows.{number_at}
use Rattle.numbers.specs.Pointwise.{agree_at}
use Rattle.numbers.specs.Roots.{Root, root-last}
use Rattle.numbers.specs.Records.{front, number_of, size_of, spot_of, Told, Spots, told-found, in_self}
use Rattle.numbers.specs.Given.{Given, is_at, root-size, shape, old_number, old_row, new_low}
use Rattle.numbers.specs.Verdicts.{Takes, not_kept, kept}
use Rattle.numbers.specs.Copies.{Frame, Copies, Stepped, one, whole}

-- the number words of the records from p on: 0 where a new number is to be given, else the number kept
abbrev pub Codes : List ℕ → ℕ → List (Option ℕ) → Type 0
Codes R p [] = Unit {0}
Codes R p (none ∷ l) = (number_of R p ≡ 0) × Codes R (suc p) l
Codes R p (some i ∷ l) = ((number_of R p ≡ i) × (0 < i)) × Codes R (suc p) l

pub codes_stay : (R R' : List ℕ) (p : ℕ) (l : List (Option ℕ)) → ((i : ℕ) → p ≤ i → number_of R' i ≡ number_of R i) → Codes R p l → Codes R' p l
codes_stay R R' p [] h c = tt
codes_stay R R' p (none ∷ l) h c = (h p (omega arith) ∙ c.0, codes_stay R R' (suc p) l (λ i u. h i (omega arith)) c.1)
codes_stay R R' p (some i ∷ l) h c = ((h p (omega arith) ∙ c.0.0, c.0.1), codes_stay R R' (suc p) l (λ i u. h i (omega arith)) c.1)

codes-join : (R : List ℕ) (p n : ℕ) (a b : List (Option ℕ)) → n ≡ p + length a → Codes R p a → Codes R n b → Codes R p (a ++ b)
codes-join R p n [] b e c d = let z : p ≡ n = omega arith in rw z d
codes-join R p n (none ∷ a) b e c d = (c.0, codes-join R (suc p) n a b (omega arith) c.1 d)
codes-join R p n (some i ∷ a) b e c d = (c.0, codes-join R (suc p) n a b (omega arith) c.1 d)

pub codes-given : (R : List ℕ) (p : ℕ) (l : List ℕ) → ((t y : ℕ) → get_elem? l t ≡ some y → (number_of R (p + t) ≡ y) × (0 < y)) → Codes R p (given l)
codes-given R p [] h = tt
codes-given R p (y ∷ l) h =
    let z : p + 0 ≡ p = omega arith in
    let q = h 0 y refl in
    ((ap (number_of R) (sym z) ∙ q.0, q.1), codes-given R (suc p) l (λ t x e. let z : suc p + t ≡ p + suc t = omega arith in let q = h (suc t) x e in (ap (number_of R) z ∙ q.0, q.1)))

given-append : (a b : List ℕ) → given (a ++ b) ≡ given a ++ given b
given-append [] b = refl
given-append (x ∷ a) b = ap (some x ∷◌) (given-append a b)

pub length-given : (a : List ℕ) → length (given a) ≡ length a
length-given [] = refl
length-given (x ∷ a) = ap suc (length-given a)

sources-append : (J : ℕ → Row → Verdict) (f g : Row) → sources J (f ⧺ g) ≡ sources J f ++ sources J g
unfolding sources
sources-append J ∅ g = refl
sources-append J (tok (mk k zero) f) g = ap (none ∷◌) (sources-append J f g)
sources-append J (tok (mk k (suc i)) f) g = ap (some (suc i) ∷◌) (sources-append J f g)
sources-append J (nod q c f) g = ap (source (J q c) (sources J c) ++◌) (sources-append J f g) ∙ sym (append_assoc (source (J q c) (sources J c)) (sources J f) (sources J g))

-- left is the row of the records before e; what the others keep is known
pub record Backing (n : ℕ) (r : NRow) (f : Row) (room : List ℕ) (e : ℕ) : Type 0 where
  pub left : Row
  pub tail : List Word
  pub splits : flat f ≡ flat left ++ tail
  pub many : size left ≡ e
  pub keeps : List (Option ℕ)
  pub origin : sources (judge r) f ≡ sources (judge r) left ++ keeps
  pub codes : Codes (front room) e keeps
  pub rest : e + length keeps ≡ n

pub begin : (n : ℕ) (r : NRow) (f : Row) (room : List ℕ) → n ≡ size f → Backing n r f room n
begin n r f room h = record {
  left = f;
  tail = [];
  splits = sym (append-nil (flat f));
  many = sym h;
  keeps = [];
  origin = sym (append-nil (sources (judge r) f));
  codes = tt;
  rest = omega arith;
}

pub finish : {n : ℕ} {r : NRow} {f : Row} {room : List ℕ} → Backing n r f room 0 → (a : List (Option ℕ)) × (sources (judge r) f ≡ a) × Codes (front room) 0 a × (length a ≡ n)
unfolding sources
finish {n} {r} {f} {room} B = by B.left B.many B.origin
  where
    by : (g : Row) → size g ≡ 0 → sources (judge r) f ≡ sources (judge r) g ++ B.keeps → (a : List (Option ℕ)) × (sources (judge r) f ≡ a) × Codes (front room) 0 a × (length a ≡ n)
    by ∅ z o = (B.keeps, o, B.codes, omega (arith, B.rest))
    by (tok x g) z o = absurd (omega arith)
    by (nod q c g) z o = absurd (omega arith)

-- ---- one step: the last tree of the row before e
record Tip (n : ℕ) (r : NRow) (f : Row) (room : List ℕ) (e : ℕ) (g : Row) (t : Tree) : Type 0 where
  tail : List Word
  splits : flat f ≡ flat g ++ (flat (cons t ∅) ++ tail)
  many : size g + size (cons t ∅) ≡ e
  keeps : List (Option ℕ)
  origin : sources (judge r) f ≡ sources (judge r) g ++ (sources (judge r) (cons t ∅) ++ keeps)
  codes : Codes (front room) e keeps
  rest : e + length keeps ≡ n

tip : {n : ℕ} {r : NRow} {f : Row} {room : List ℕ} {e : ℕ} → Backing n r f room e → 0 < e → (g : Row) × (t : Tree) × Tip n r f room e g t
tip {n} {r} {f} {room} {e} B h = by B.left (last B.left) B.splits B.many B.origin
  where
    by : (l : Row) → Last l → flat f ≡ flat l ++ B.tail → size l ≡ e → sources (judge r) f ≡ sources (judge r) l ++ B.keeps → (g : Row) × (t : Tree) × Tip n r f room e g t
    by _ empty s m o = absurd (omega arith)
    by _ (ends g t) s m o = (
      g,
      t,
      record {
        tail = B.tail;
        splits = s ∙ ap (◌++ B.tail) (flat_append g (cons t ∅)) ∙ append_assoc (flat g) (flat (cons t ∅)) B.tail;
        many = sym (size-append g (cons t ∅)) ∙ m;
        keeps = B.keeps;
        origin = o ∙ ap (◌++ B.keeps) (sources-append (judge r) g (cons t ∅)) ∙ append_assoc (sources (judge r) g) (sources (judge r) (cons t ∅)) B.keeps;
        codes = B.codes;
        rest = B.rest;
      },
    )

module _ {old lent : List ℕ} {n : ℕ} {r : NRow} {f : Row} (G : Given old lent n r f) (S : Spots old (front lent) (size (erase r)) lent n) {room : List ℕ} {e : ℕ} (F : Frame lent room e) (pos : 0 < e) where
  back : suc (e - 1) ≡ e
  back = omega arith

  module _ {g : Row} {t : Tree} (T : Tip n r f room e g t) where
    start : Agree (flat f) (size g) (flat (cons t ∅))
    start = let X = flat (cons t ∅) in rw T.splits (agree_right (flat g) (X ++ T.tail) (size g) 0 X (omega (arith, length-flat g)) (agree_in X T.tail 0 X (agree_self X)))

    abbrev root : Root (flat f) (e - 1)
    root = record { tree = t; start = size g; ends = T.many ∙ sym back; agree = start }

    number : number_of (front room) (e - 1) ≡ ident_w (Laws.last t)
    number = F.before (e - 1) (omega arith) ∙ (is_at G (e - 1) (root-last root)).number

    told : Told old (front lent) (size (erase r)) (e - 1) (spot_of room (e - 1))
    told = rw (F.spots (e - 1)) (S.told (e - 1) (omega (arith, T.rest)))

    wide : size_of (front room) (e - 1) ≡ size (cons t ∅)
    wide = F.sizes (e - 1) ∙ root-size G root

  -- over one record: a token, or a node that gets a new number
  one_leaf : (x : Tok) {g : Row} → Tip n r f room e g (leaf x) → Backing n r f room (e - 1)
  unfolding sources
  one_leaf (mk k zero) {g} T = record {
    left = g;
    tail = wtok (mk k 0) ∷ T.tail;
    splits = T.splits;
    many = omega (arith, T.many);
    keeps = none ∷ T.keeps;
    origin = T.origin;
    codes = (number T, rw back T.codes);
    rest = omega (arith, T.rest);
  }
  one_leaf (mk k (suc i)) {g} T = record {
    left = g;
    tail = wtok (mk k (suc i)) ∷ T.tail;
    splits = T.splits;
    many = omega (arith, T.many);
    keeps = some (suc i) ∷ T.keeps;
    origin = T.origin;
    codes = ((number T, omega arith), rw back T.codes);
    rest = omega (arith, T.rest);
  }

  one_node : (q : ℕ) (c : Row) {g : Row} → Tip n r f room e g (node q c) → judge r q c ≡ new! → Backing n r f room (e - 1)
  unfolding sources
  one_node q c {g} T v =
      let w = wnod q (suc (size c)) in
      let A = sources (judge r) g in
      let C = sources (judge r) c in
      let regroup : A ++ (((C ++ (none ∷ [])) ++ []) ++ T.keeps) ≡ (A ++ C) ++ (none ∷ T.keeps) = simp (append_assoc, append-nil) in
      record {
        left = g ⧺ c;
        tail = w ∷ T.tail;
        splits =
            T.splits ∙ ap (flat g ++◌) (append_assoc (flat c) (w ∷ []) T.tail)
            ∙ sym (ap (◌++ (w ∷ T.tail)) (flat_append g c) ∙ append_assoc (flat g) (flat c) (w ∷ T.tail));
        many = omega (arith, T.many, size-append g c);
        keeps = none ∷ T.keeps;
        origin =
            T.origin ∙ ap (λ (x : Verdict). A ++ ((source x C ++ []) ++ T.keeps)) v ∙ regroup
            ∙ ap (◌++ (none ∷ T.keeps)) (sym (sources-append (judge r) g c));
        codes = (number T, rw back T.codes);
        rest = omega (arith, T.rest);
      }

  -- over a piece that takes its old numbers
  module _ {room' : List ℕ} {e' : ℕ} (h : 2 ≤ spot_of room (e - 1)) (z : e' + size_of (front room) (e - 1) ≡ e) (C : Copies old room e' e (spot_of room (e - 1)) room') where
    from : {g : Row} {t : Tree} → Tip n r f room e g t → e' ≡ size g
    from T = omega (arith, wide T, T.many)

    whole_leaf : (x : Tok) {g : Row} → Tip n r f room e g (leaf x) → Backing n r f room' e'
    unfolding sources
    whole_leaf x {g} T =
        let p = (told-found (told T) h).1.each (e - 1) (in_self (shape G) (omega (arith, T.rest))) in
        let i = is_at G (e - 1) (root-last (root T)) in
        let k = new_low G (e - 1) (root-last (root T)) in
        let y : number_at old p.place ≡ ident x = p.same.number (omega (arith, i.kind)) ∙ i.number in
        let u : e' ≡ e - 1 = omega (arith, from T, T.many) in
        let o : 0 < ident x = omega (arith, (old_row G).some p.place p.inside) in
        by x T (ap (number_of (front room')) u ∙ C.numbers (e - 1) p.place (omega arith) (omega arith) p.at ∙ y) o
      where
        by : (x : Tok) → Tip n r f room e g (leaf x) → number_of (front room') e' ≡ ident x → 0 < ident x → Backing n r f room' e'
        by (mk k zero) T y o = absurd (omega arith)
        by (mk k (suc i)) T y o = record {
          left = g;
          tail = wtok (mk k (suc i)) ∷ T.tail;
          splits = T.splits;
          many = omega (arith, from T);
          keeps = some (suc i) ∷ T.keeps;
          origin = T.origin;
          codes = ((y, o), let v : suc e' ≡ e = omega (arith, from T, T.many) in rw v (codes_stay (front room) (front room') e T.keeps (λ j l. C.after j l) T.codes));
          rest = omega (arith, T.rest, from T, T.many);
        }

    whole_node : (q : ℕ) (c : Row) {g : Row} → Tip n r f room e g (node q c) → Takes r q c (size g) (spot_of room (e - 1)) → Backing n r f room' e'
    unfolding sources
    whole_node q c {g} T K =
        let N = nums K.inner ++ (K.number ∷ []) in
        let A = sources (judge r) g in
        let u = from T in
        let many : length (given N) ≡ size (nod q c ∅) = length-given N ∙ K.many in
        let regroup : A ++ (((given (nums K.inner) ++ (some K.number ∷ [])) ++ []) ++ T.keeps) ≡ A ++ (given N ++ T.keeps) = rw (given-append (nums K.inner) (K.number ∷ [])) (simp append-nil) in
        record {
          left = g;
          tail = flat (nod q c ∅) ++ T.tail;
          splits = T.splits;
          many = sym u;
          keeps = given N ++ T.keeps;
          origin = T.origin ∙ ap (λ (x : Verdict). A ++ ((source x (sources (judge r) c) ++ []) ++ T.keeps)) K.verdict ∙ regroup;
          codes = codes-join (front room') e' e (given N) T.keeps (omega (arith, T.many)) (codes-given (front room') e' N (λ t y m. took t y m)) (codes_stay (front room) (front room') e T.keeps (λ j l. C.after j l) T.codes);
          rest = omega (arith, T.rest, T.many, length-append (given N) T.keeps);
        }
      where
        took : (t y : ℕ) → get_elem? (nums K.inner ++ (K.number ∷ [])) t ≡ some y → (number_of (front room') (e' + t) ≡ y) × (0 < y)
        took t y m =
            let N = nums K.inner ++ (K.number ∷ []) in
            let a = old_number G (K.place + t) (agree_at (nums r) K.place N t K.numbers m) in
            (C.numbers (e' + t) (K.place + t) (omega arith) (omega (arith, at_beyond N t m, K.many, T.many, from T)) (omega (arith, K.at, from T)) ∙ a.0, a.1)

  pub stepped : {room' : List ℕ} {e' : ℕ} → Backing n r f room e → Stepped old room e room' e' → Backing n r f room' e'
  stepped {e' = e'} B (one h z q) = let t = tip B pos in let y : e' ≡ e - 1 = omega arith in rw (q, y) (by t.0 t.1 t.2 h)
    where
      by : (g : Row) (t : Tree) → Tip n r f room e g t → spot_of room (e - 1) < 2 → Backing n r f room (e - 1)
      by g (leaf x) T h = one_leaf x T
      by g (node q c) T h = one_node q c T (not_kept G q c (e - 1) (size g) (T.many ∙ sym back) (start T) (told T) h)
  stepped {room'} {e'} B (whole h z C) = let t = tip B pos in by t.0 t.1 t.2
    where
      by : (g : Row) (t : Tree) → Tip n r f room e g t → Backing n r f room' e'
      by g (leaf x) T = whole_leaf h z C x T
      by g (node q c) T = whole_node h z C q c T (kept G q c (e - 1) (size g) (T.many ∙ sym back) (start T) (told T) h)
