-- The numbers that the room's records have after the two passes are those of the rule: the words of the renumbered tree, and its next
-- number.
use Rattle.std.specs.Prelude.{◌≡◌, refl, Bool, true, false, List, [], ◌∷◌, ◌++◌, ℕ, suc, ◌+◌, ◌*◌, ◌≤◌, ◌<◌, length, take, drop}
use Rattle.std.proofs.Common.{sym, ap, ◌∙◌, subst, true≢false, arith, take-take}
use Rattle.std.proofs.lemmas.Bool.{false≢true}
use Rattle.std.proofs.Math.Option.{Option, some}
use Rattle.std.proofs.Math.Decide.{ℕ_discrete, dec_le}
use Rattle.std.proofs.Math.ListN.{get_elem?}
use Rattle.definitions.specs.Tree.{Row, nod, size, toks, NRow, ε, ntok, nnod, erase, words, written, nums}
use Rattle.definitions.specs.Reading.{Counts}
use Rattle.definitions.specs.Answers.{accepted, cleared, refuse, numbered}
use Rattle.theory.specs.Decide.{and_d, row_d}
use Rattle.theory.specs.Answers.{if_yes, if_no}
use Rattle.theory.specs.Numbers.Number.{judge, number, either, renumber}
use Rattle.theory.specs.Numbers.Seek as Seek
use Rattle.theory.specs.Numbers.Seek.{Numbering, n∅, nput, nold, ncopy, nkeep, nnew}
use Rattle.theory.specs.Numbers.Base.{judge_copies}
use Rattle.theory.specs.Numbers.Counting.{length-nums}
use Rattle.theory.specs.Records.Flat.{Word, wnod, flat, length-flat}
use Rattle.theory.specs.Records.Stand.{at_beyond}
use Rattle.theory.specs.Records.Scan.{recs}
use Rattle.theory.specs.Records.Words.{given, assign, raised, assign-given, raised-given, forward}
use Rattle.machine.specs.Room.{kind_w, size_w, states_at}
use Rattle.numbers.specs.Records.{front, kind_of, number_of, size_of}
use Rattle.numbers.specs.Given.{Given, is_at, old_number}
use Rattle.numbers.specs.Copies.{Frame, Copies}
use Rattle.numbers.specs.Back.{codes-given, length-given, Backing, finish}
use Rattle.numbers.specs.Whole.{Whole, whole_same, same_whole}
use Rattle.numbers.specs.Write.{news, rows, weave, Forms, rows_all, inscribed}

-- ---- the words of a numbered row are its records with its numbers
weave-append : (a b : List Word) (x y : List ℕ) → length a ≡ length x → weave (a ++ b) (x ++ y) ≡ weave a x ++ weave b y
weave-append [] b [] y h = refl
weave-append [] b (i ∷ x) y h = absurd (omega arith)
weave-append (w ∷ a) b [] y h = absurd (omega arith)
weave-append (w ∷ a) b (i ∷ x) y h = ap (λ (l : List ℕ). kind_w w ∷ i ∷ size_w w ∷ l) (weave-append a b x y (omega arith))

words-weave : (r : NRow) → words r ≡ weave (recs r) (nums r)
words-weave ε = refl
words-weave (ntok k i f) = ap (λ (l : List ℕ). k ∷ i ∷ 1 ∷ l) (words-weave f)
words-weave (nnod q i c f) =
    let a = words-weave c in
    let b = words-weave f in
    rw (a, b) (sym (weave-append (recs c) (wnod q (suc (size (erase c))) ∷ recs f) (nums c) (i ∷ nums f) (omega (arith, length-flat (erase c), length-nums c))))

module _ (old : NRow) where
  pub record Woven (f : Row) (r : NRow) : Type 0 where
    pub many : size (erase r) ≡ size f
    pub records : words r ≡ weave (flat f) (nums r)

  over : (q i : ℕ) {c f : Row} {d r : NRow} → Woven c d → Woven f r → Woven (nod q c f) (nnod q i d r)
  over q i {c} {f} {d} {r} C F =
      let a = C.records in
      let b = F.records in
      let m = C.many in
      record {
        many = omega (arith, C.many, F.many);
        records = rw (a, b, m) (sym (weave-append (flat c) (wnod q (suc (size c)) ∷ flat f) (nums d) (i ∷ nums r) (omega (arith, length-flat c, length-nums d))));
      }

  woven : {n m : ℕ} {f : Row} {r : NRow} → Numbering (judge old) n f r m → Woven f r
  woven n∅ = record { many = refl; records = refl }
  woven (nput {n = n} {k = k} N) = let W = woven N in record { many = ap suc W.many; records = ap (λ (l : List ℕ). k ∷ n ∷ 1 ∷ l) W.records }
  woven (nold {k = k} {i = i} N) = let W = woven N in record { many = ap suc W.many; records = ap (λ (l : List ℕ). k ∷ suc i ∷ 1 ∷ l) W.records }
  woven (ncopy {q = q} {i = i} {c = c} {d = d} e N) =
      let z = (judge_copies old {q = q} {c = c} e).1 in
      over q i (record { many = ap size z; records = subst (λ (x : Row). words d ≡ weave (flat x) (nums d)) z (words-weave d) }) (woven N)
  woven (nkeep {q = q} {i = i} e M N) = over q i (woven M) (woven N)
  woven (nnew {m = m} {q = q} e M N) = over q m (woven M) (woven N)

-- ---- what the room's records say of a tree with its next number
pub record Numbers (R : List ℕ) (n next : ℕ) (x : NRow × ℕ) : Type 0 where
  pub many : size (erase x.0) ≡ n
  pub raises : x.1 ≡ next + news R n
  pub records : words x.0 ≡ rows next R n

forms : (R : List ℕ) (p : ℕ) (ws : List Word) → ((t : ℕ) (w : Word) → get_elem? ws t ≡ some w → (kind_of R (p + t) ≡ kind_w w) × (size_of R (p + t) ≡ size_w w)) → Forms R p ws
forms R p [] h = tt
forms R p (w ∷ ws) h =
    let z : p + 0 ≡ p = omega arith in
    (rw z at (h 0 w refl), forms R (suc p) ws (λ t v e. let z : p + suc t ≡ suc p + t = omega arith in rw z at (h (suc t) v e)))

renumber_yes : (old : NRow) (n : ℕ) (f : Row) → (erase old ≡ f) × (toks f ≡ 0) → renumber (judge old) old n f ≡ (old, n)
unfolding renumber
renumber_yes old n f h = by (and_d (row_d (erase old) f) (ℕ_discrete (toks f) 0))
  where
    by : (d : Dec ((erase old ≡ f) × (toks f ≡ 0))) → either d (old, n) (number (judge old) f n) ≡ (old, n)
    by (yes g) = refl
    by (no g) = absurd (g h)

renumber_no : (old : NRow) (n : ℕ) (f : Row) → ((erase old ≡ f) × (toks f ≡ 0) → ⊥) → renumber (judge old) old n f ≡ number (judge old) f n
unfolding renumber
renumber_no old n f h = by (and_d (row_d (erase old) f) (ℕ_discrete (toks f) 0))
  where
    by : (d : Dec ((erase old ≡ f) × (toks f ≡ 0))) → either d (old, n) (number (judge old) f n) ≡ number (judge old) f n
    by (yes g) = absurd (h g)
    by (no g) = refl

module _ {old lent : List ℕ} {n : ℕ} {r : NRow} {f : Row} (G : Given old lent n r f) {room : List ℕ} (next : ℕ) where
  shapes : Frame lent room 0 → Forms (front room) 0 (flat f)
  shapes F = forms (front room) 0 (flat f) (λ t w e. let z : 0 + t ≡ t = omega arith in rw z (let i = is_at G t e in (F.kinds t ∙ i.kind, F.sizes t ∙ i.size)))

  -- the whole tree as it was
  pub whole_stands : Whole old (front lent) (size (erase r)) n → Copies old lent 0 n 2050 room → Numbers (front room) n next (renumber (judge r) r next f)
  whole_stands w C =
      let s = whole_same G w in
      let e = renumber_yes r next f s in
      let c = codes-given (front room) 0 (nums r) (λ t y g. let o = old_number G t g in let z : 0 + t ≡ t = omega arith in (ap (number_of (front room)) z ∙ C.numbers t t (omega arith) (omega (arith, at_beyond (nums r) t g, length-nums r, w.many)) (omega arith) ∙ o.0, o.1)) in
      let a = rows_all next (front room) n (flat f) (given (nums r)) (omega (arith, length-flat f, G.many)) (omega (arith, length-given (nums r), length-nums r, w.many)) (shapes C.frame) c in
      rw e (record {
        many = w.many;
        raises = sym (raised-given (nums r) next) ∙ sym a.1;
        records = words-weave r ∙ rw s.0 (ap (weave (flat f)) (sym (assign-given (nums r) next))) ∙ sym a.0;
      })

  -- the rule
  pub rule_stands : (Whole old (front lent) (size (erase r)) n → ⊥) → Frame lent room 0 → Backing n r f room 0 → Numbers (front room) n next (renumber (judge r) r next f)
  rule_stands w F B =
      let e = renumber_no r next f (λ s. w (same_whole G s.0 s.1)) in
      let N = Seek.numbered (judge r) f next in
      let X = woven r N in
      let b = finish B in
      let z = b.1 in
      let u = forward (judge r) N in
      let a = rows_all next (front room) n (flat f) b.0 (omega (arith, length-flat f, G.many)) b.3 (shapes F) b.2 in
      rw e (record {
        many = X.many ∙ sym G.many;
        raises = u.1 ∙ ap (λ (l : List (Option ℕ)). raised l next) z ∙ sym a.1;
        records = X.records ∙ ap (weave (flat f)) (u.0 ∙ ap (λ (l : List (Option ℕ)). assign l next) z) ∙ sym a.0;
      })

-- the records that the passes look at are the same
pub given-front : {old room room' : List ℕ} {n : ℕ} {r : NRow} {f : Row} → front room' ≡ front room → Given old room n r f → Given old room' n r f
unfolding front
given-front {room = room} {room' = room'} {n = n} e G =
    let h = G.small in
    record {
      table = G.table;
      few = G.few;
      in_order = G.in_order;
      known = G.known;
      small = G.small;
      many = G.many;
      records = sym (take-take (3 * n) states_at room' (omega arith)) ∙ ap (take (3 * n)) e ∙ take-take (3 * n) states_at room (omega arith) ∙ G.records;
    }

-- ---- what the numbering answers: the tree written, or refusal 9 and the tree as lent
pub record Answers (tree tree' : List ℕ) (x : NRow × ℕ) (yes : Bool) : Type 0 where
  pub taken : yes ≡ true → (x.1 ≤ 4294967295) × (tree' ≡ written x.0 x.1 ++ drop (2 + 3 * size (erase x.0)) tree)
  pub refused : yes ≡ false → (4294967295 < x.1) × (tree' ≡ tree)

pub answer_yes : {R tree tree' : List ℕ} {n next : ℕ} {x : NRow × ℕ} → Numbers R n next x → next + news R n ≤ 4294967295 → tree' ≡ inscribed next R n tree → Answers tree tree' x true
answer_yes {tree = tree} {x = x} N h e =
    let a = N.many in
    let b = N.raises in
    let c = N.records in
    record { taken = λ z. (omega (arith, b), e ∙ rw (a, b, c) refl); refused = λ z. absurd (true≢false z) }

pub answer_no : {R tree : List ℕ} {n next : ℕ} {x : NRow × ℕ} → Numbers R n next x → 4294967295 < next + news R n → Answers tree tree x false
answer_no N h = record { taken = λ z. absurd (false≢true z); refused = λ z. (omega (arith, N.raises), refl) }

-- so the caller tells what document 01 says
pub told_yes : {tree tree' : List ℕ} {x : NRow × ℕ} (room : List ℕ) (k : Counts) → Answers tree tree' x true → numbered tree room x k ≡ record { answer = accepted k; tree = tree'; room = cleared room }
told_yes {tree} {tree'} {x} room k A =
    let a = A.taken refl in
    let e = a.1 in
    if_yes (dec_le x.1 4294967295) _ _ a.0 ∙ rw e refl

pub told_no : {tree tree' : List ℕ} {x : NRow × ℕ} (room : List ℕ) (k : Counts) → Answers tree tree' x false → numbered tree room x k ≡ refuse tree' room 9 0
told_no {tree} {tree'} {x} room k A =
    let a = A.refused refl in
    let e = a.1 in
    if_no (dec_le x.1 4294967295) _ _ (λ l. omega (arith, a.0)) ∙ rw e refl
