-- What a spot word says is what the rule of kept numbers judges: a piece with tokens that stands in the old tree takes its numbers.
use Rattle.std.specs.Prelude.{◌≡◌, refl, List, [], ◌∷◌, ◌++◌, ℕ, suc, ◌+◌, ◌-◌, ◌≤◌, ◌<◌, length, get_or}
use Rattle.std.proofs.Common.{ap, ◌∙◌, arith, length-append}
use Rattle.std.proofs.Math.Option.{some}
use Rattle.std.proofs.Math.Decide.{ℕ_discrete}
use Rattle.std.proofs.Math.ListN.{get_elem?}
use Rattle.definitions.specs.Tree.{Tok, Row, ∅, nod, size, toks, NRow, erase, nums}
use Rattle.definitions.specs.Reading.{node, cons}
use Rattle.theory.specs.Numbers.Number.{copy, new!, judge}
use Rattle.theory.specs.Numbers.Base.{judge_copies}
use Rattle.theory.specs.Numbers.Counting.{length-nums}
use Rattle.theory.specs.Records.Flat.{Word, wtok, wnod, flat, length-flat}
use Rattle.theory.specs.Records.Stand.{at_beyond, Agree, agree_join, stand_agree, agree_stand}
use Rattle.theory.specs.Records.Scan.{recs, bare, spot, lost, Located, judged-at}
use Rattle.theory.specs.Records.Locate.{find, located}
use Rattle.machine.specs.Room.{kind_w}
use Rattle.numbers.specs.Pointwise.{agree_at, agree_each}
use Rattle.numbers.specs.Roots.{Root, root-last, size-some, none-toks, some-toks, length-toks}
use Rattle.numbers.specs.Records.{front, In, At, Has, Bare, Told, told-found, told_lost, told_none}
use Rattle.numbers.specs.Given.{Given, is_at, part, root-size, new_low, same_at, at_same}

-- the numbers that the piece of q over c from record a on takes from the old tree r at the shift w, and where they stand there
pub record Takes (r : NRow) (q : ℕ) (c : Row) (a w : ℕ) : Type 0 where
  pub number : ℕ
  pub inner : NRow
  pub verdict : judge r q c ≡ copy number inner
  pub place : ℕ
  pub at : place + 2050 ≡ a + w
  pub numbers : Agree (nums r) place (nums inner ++ (number ∷ []))
  pub many : length (nums inner ++ (number ∷ [])) ≡ size (nod q c ∅)

token_kind : (w : Word) → kind_w w < 256 → (x : Tok) × (w ≡ wtok x)
token_kind (wtok x) h = (x, refl)
token_kind (wnod q n) h = absurd (omega arith)

module _ {old room : List ℕ} {n : ℕ} {r : NRow} {f : Row} (G : Given old room n r f) where
  abbrev R : List ℕ
  R = front room

  abbrev m : ℕ
  m = size (erase r)

  module _ {j : ℕ} (x : Root (flat f) j) where
    abbrev F : List Word
    F = flat (cons x.tree ∅)

    -- its records are those in the piece
    inside_of : {i : ℕ} → x.start ≤ i → i ≤ j → In R j i
    inside_of a b = record { up = b; low = omega (arith, root-size G x, x.ends) }

    of_inside : {i : ℕ} → In R j i → x.start ≤ i
    of_inside p = omega (arith, root-size G x, x.ends, p.low)

    at_place : (t : ℕ) {w : Word} → get_elem? F t ≡ some w → get_elem? (flat f) (x.start + t) ≡ some w
    at_place t e = agree_at (flat f) x.start F t x.agree e

    within : (t : ℕ) {w : Word} → get_elem? F t ≡ some w → In R j (x.start + t)
    within t e = inside_of (omega arith) (omega (arith, x.ends, at_beyond F t e, length-flat (cons x.tree ∅)))

    -- the piece stands at a shift where its records do
    pub at_agree : {w : ℕ} → At old R m w j → (p : ℕ) × (p + 2050 ≡ x.start + w) × Agree (recs r) p F
    at_agree {w} a =
        let s = x.start in
        let b = a.each s (inside_of (omega arith) (omega (arith, x.ends, size-some x.tree))) in
        let p = b.place in (
          p,
          b.at,
          agree_each (recs r) p F (λ t v e.
              let q = a.each (s + t) (within t e) in
              let z : q.place ≡ p + t = omega (arith, q.at, b.at) in
              rw z at (same_at G (s + t) q.place (at_place t e) q.inside q.same)),
        )

    pub agree_at-shift : (p w : ℕ) → p + 2050 ≡ x.start + w → Agree (recs r) p F → At old R m w j
    agree_at-shift p w z g = record {
      each = λ i h.
          let l = of_inside h in
          let y = part G x l h.up in
          let k : ℕ = p + (i - x.start) in
          let c = at_same G i k y.2 (agree_at (recs r) p F (i - x.start) g y.1) in
          record { place = k; at = omega arith; inside = c.0; same = c.1 };
    }

    -- its tokens
    pub has_toks : Has R j → 0 < toks (cons x.tree ∅)
    has_toks h =
        let p = h.inside in
        let y = part G x (of_inside p) p.up in
        let t = token_kind y.0 (omega (arith, (is_at G h.token y.2).kind, h.kind)) in
        omega (arith, some-toks F (h.token - x.start) t.0 (y.1 ∙ ap some t.1), length-toks (cons x.tree ∅))

    pub bare-toks : Bare R j → toks (cons x.tree ∅) ≡ 0
    bare-toks b =
        omega (arith, length-toks (cons x.tree ∅), none-toks F (λ t y e. low t y e))
      where
        low : (t : ℕ) (y : Tok) → get_elem? F t ≡ some (wtok y) → ⊥
        low t y e = let l = new_low G (x.start + t) (at_place t e) in omega (arith, (is_at G (x.start + t) (at_place t e)).kind, b.none (x.start + t) (within t e))

  -- ---- a node's verdict
  module _ (q : ℕ) (c : Row) (j a : ℕ) (ends : a + size (nod q c ∅) ≡ suc j) (g : Agree (flat f) a (flat (nod q c ∅))) where
    abbrev x : Root (flat f) j
    x = record { tree = node q c; start = a; ends = ends; agree = g }

    abbrev L : Located (recs r) (find (recs r))
    L = located r G.in_order.numbers

    low : a < 2048
    low = omega (arith, G.small, G.many, length-flat f, at_beyond (flat f) j (root-last x))

    pub not_kept : {w : ℕ} → Told old R m j w → w < 2 → judge r q c ≡ new!
    not_kept {w} t h = by (ℕ_discrete w 0)
      where
        by : Dec (w ≡ 0) → judge r q c ≡ new!
        by (yes z) = judged-at r (get_or old 1 0) G.in_order.numbers (find (recs r)) L q c bare (omega (arith, bare-toks x (told_none t z)))
        by (no z) =
            let u = told_lost t (omega arith) in
            judged-at r (get_or old 1 0) G.in_order.numbers (find (recs r)) L q c lost
            (omega (arith, has_toks x u.0), λ p k. u.1 (p + 2050 - a) (agree_at-shift x p (p + 2050 - a) (omega (arith, low)) (stand_agree (recs r) p (nod q c ∅) (k, tt))))

    pub kept : {w : ℕ} → Told old R m j w → 2 ≤ w → Takes r q c a w
    kept {w} t h =
        let u = told-found t h in
        let p = at_agree x u.1 in
        let v = judged-at r (get_or old 1 0) G.in_order.numbers (find (recs r)) L q c (spot p.0) (omega (arith, has_toks x u.0), (agree_stand (recs r) p.0 (nod q c ∅) p.2).0) in
        let d = v.1 in
        let s = judge_copies r {q = q} {c = c} v.2 in
        let z : size (erase d) ≡ size c = ap size s.1 in
        record {
          number = v.0;
          inner = d;
          verdict = v.2;
          place = p.0;
          at = p.1;
          numbers = agree_join (nums r) p.0 (p.0 + size (erase d)) (nums d) (v.0 ∷ []) (omega (arith, length-nums d)) v.3.numbers (v.3.number, tt);
          many = omega (arith, length-append (nums d) (v.0 ∷ []), length-nums d);
        }
