-- The bottom-up search for equal old pieces, linear in the records, and that it judges as `judge` does.
use Rattle.std.specs.Prelude.{◌≡◌, List, [], ◌∷◌, ◌++◌, length}
use Rattle.std.proofs.Math.Path.{refl}
use Rattle.std.proofs.Common.{sym, ap, ◌∙◌, subst, append_assoc}
use Rattle.std.proofs.Math.Option.{Option, none, some}
use Prim.Native.Nat.{ℕ, zero, suc, ◌+◌, ◌-◌, ◌≤◌, ◌<◌}
use native.Mathlib.Omega.{arith}
use Rattle.std.proofs.Math.Decide.{ℕ_discrete, dec_le, dec_lt}
use Rattle.std.proofs.Math.ListN.{get_elem?}
use Rattle.definitions.specs.Tree.{Tok, mk, Row, ∅, tok, nod, ◌⧺◌, size, NRow, ε, ntok, nnod, erase, toks, Fit, nums}
use Rattle.theory.specs.Decide.{map_d, and_d, tok_d}
use Rattle.theory.specs.Machine.Rows.{toks-append}
use Rattle.definitions.specs.Numbers.{Sub, here, under, later, past}
use Rattle.theory.specs.Numbers.Number.{Verdict, copy, keep, new!, judge}
use Rattle.definitions.specs.Reading.{Tree, leaf, node, cons}
use Rattle.theory.specs.Numbers.Base.{judge_copies, judge-keep, judge_finds}
use Rattle.theory.specs.Numbers.Counting.{length-nums}
use Rattle.theory.specs.Records.Flat.{Word, wtok, wnod, flat, length-flat}
use Rattle.theory.specs.Records.Stand.{at_in, at_left, at_right, Agree, agree_in, agree_right, agree_self, agree_all, Stand, stand_agree, agree_stand, bound, same_words}

-- ---- old pieces and their places
stand_in : (a b : List Word) (p : ℕ) (f : Row) → Stand a p f → Stand (a ++ b) p f
stand_in a b p ∅ s = tt
stand_in a b p (tok x f) s = (at_in a b p s.0, stand_in a b (p + 1) f s.1)
stand_in a b p (nod q c f) s = ((stand_in a b p c s.0.0, at_in a b (p + size c) s.0.1), stand_in a b (p + suc (size c)) f s.1)

stand_right : (a b : List Word) (n p : ℕ) (f : Row) → n ≡ length a + p → Stand b p f → Stand (a ++ b) n f
stand_right a b n p ∅ e s = tt
stand_right a b n p (tok x f) e s = (at_right a b n p e ∙ s.0, stand_right a b (n + 1) (p + 1) f (omega arith) s.1)
stand_right a b n p (nod q c f) e s =
    ((stand_right a b n p c e s.0.0, at_right a b (n + size c) (p + size c) (omega arith) ∙ s.0.1), stand_right a b (n + suc (size c)) (p + suc (size c)) f (omega arith) s.1)

-- and back
left_stand : (a b : List Word) (p : ℕ) (f : Row) → p + size f ≤ length a → Stand (a ++ b) p f → Stand a p f
left_stand a b p ∅ h s = tt
left_stand a b p (tok x f) h s = (sym (at_left a b p (omega arith)) ∙ s.0, left_stand a b (p + 1) f (omega arith) s.1)
left_stand a b p (nod q c f) h s =
    ((left_stand a b p c (omega arith) s.0.0, sym (at_left a b (p + size c) (omega arith)) ∙ s.0.1), left_stand a b (p + suc (size c)) f (omega arith) s.1)

right_stand : (a b : List Word) (n p : ℕ) (f : Row) → n ≡ length a + p → Stand (a ++ b) n f → Stand b p f
right_stand a b n p ∅ e s = tt
right_stand a b n p (tok x f) e s = (sym (at_right a b n p e) ∙ s.0, right_stand a b (n + 1) (p + 1) f (omega arith) s.1)
right_stand a b n p (nod q c f) e s =
    ((right_stand a b n p c e s.0.0, sym (at_right a b (n + size c) (p + size c) (omega arith)) ∙ s.0.1), right_stand a b (n + suc (size c)) (p + suc (size c)) f (omega arith) s.1)

-- the records, and the numbers, of the old tree
abbrev pub recs : NRow → List Word
recs r = flat (erase r)

-- the piece q over d, numbered i, stands at p
pub record Placed (old : NRow) (q i : ℕ) (d : NRow) (p : ℕ) : Type 0 where
  pub stands : Stand (recs old) p (nod q (erase d) ∅)
  pub numbers : Agree (nums old) p (nums d)
  pub number : get_elem? (nums old) (p + size (erase d)) ≡ some i

pub placed : {q i : ℕ} {d old : NRow} → Sub q i d old → (p : ℕ) × Placed old q i d p
placed {q} {i} {d} (here {f = f}) = (
  0,
  record {
    stands = (
      (
        stand_in (recs d) (wnod q (suc (size (erase d))) ∷ recs f) 0 (erase d) (agree_stand (recs d) 0 (erase d) (agree_self (recs d))),
        at_right (recs d) (wnod q (suc (size (erase d))) ∷ recs f) (0 + size (erase d)) 0 (omega (arith, length-flat (erase d))),
      ),
      tt,
    );
    numbers = agree_in (nums d) (i ∷ nums f) 0 (nums d) (agree_self (nums d));
    number = at_right (nums d) (i ∷ nums f) (0 + size (erase d)) 0 (omega (arith, length-nums d));
  },
)
placed {q} {i} {d} (under {p = p} {j = j} {c = c} {f = f} s) =
    let r = placed s in (
      r.0,
      record {
        stands = stand_in (recs c) (wnod p (suc (size (erase c))) ∷ recs f) r.0 (nod q (erase d) ∅) r.1.stands;
        numbers = agree_in (nums c) (j ∷ nums f) r.0 (nums d) r.1.numbers;
        number = at_in (nums c) (j ∷ nums f) (r.0 + size (erase d)) r.1.number;
      },
    )
placed {q} {i} {d} (later {p = p} {j = j} {c = c} {f = f} s) =
    let r = placed s in
    let w : Word = wnod p (suc (size (erase c))) in
    let n : ℕ = size (erase c) + suc r.0 in (
      n,
      record {
        stands = stand_right (recs c) (w ∷ recs f) n (suc r.0) (nod q (erase d) ∅) (omega (arith, length-flat (erase c))) (stand_right (w ∷ []) (recs f) (suc r.0) r.0 (nod q (erase d) ∅) (omega arith) r.1.stands);
        numbers = agree_right (nums c) (j ∷ nums f) n (suc r.0) (nums d) (omega (arith, length-nums c)) (agree_right (j ∷ []) (nums f) (suc r.0) r.0 (nums d) (omega arith) r.1.numbers);
        number = at_right (nums c) (j ∷ nums f) (n + size (erase d)) (suc (r.0 + size (erase d))) (omega (arith, length-nums c)) ∙ r.1.number;
      },
    )
placed {q} {i} {d} (past {k = k} {j = j} {f = f} s) =
    let r = placed s in (
      suc r.0,
      record {
        stands = stand_right (wtok (mk k j) ∷ []) (recs f) (suc r.0) r.0 (nod q (erase d) ∅) (omega arith) r.1.stands;
        numbers = agree_right (j ∷ []) (nums f) (suc r.0) r.0 (nums d) (omega arith) r.1.numbers;
        number = at_right (j ∷ []) (nums f) (suc r.0 + size (erase d)) (r.0 + size (erase d)) (omega arith) ∙ r.1.number;
      },
    )

-- what stands in the old records is an old piece
pub old_piece : (q : ℕ) (c : Row) (old : NRow) (p : ℕ) → Stand (recs old) p (nod q c ∅) → (i : ℕ) × (d : NRow) × Sub q i d old × (erase d ≡ c)
old_piece q c ε p s = let e = s.0.1 in let z : ◌≡◌ {A = ℕ} 0 1 = cc in absurd (omega arith)
old_piece q c (ntok k j f) zero s = by (size c) refl s.0.1
  where
    by : (n : ℕ) → size c ≡ n → get_elem? (wtok (mk k j) ∷ recs f) (0 + size c) ≡ some (wnod q (suc (size c))) → (i : ℕ) × (d : NRow) × Sub q i d (ntok k j f) × (erase d ≡ c)
    by zero z e =
        let y : 0 + size c ≡ 0 = omega arith in
        let g : some (wtok (mk k j)) ≡ some (wnod q (suc (size c))) = ap (λ n. get_elem? (wtok (mk k j) ∷ recs f) n) (sym y) ∙ e in
        let x : ◌≡◌ {A = ℕ} 0 1 = cc in absurd (omega arith)
    by (suc n) z e =
        let g = sym (at_right (wtok (mk k j) ∷ []) (recs f) (0 + size c) n (omega arith)) ∙ e in
        absurd (omega (arith, bound (erase f) n g))
old_piece q c (ntok k j f) (suc p) s =
    let r = old_piece q c f p (right_stand (wtok (mk k j) ∷ []) (recs f) (suc p) p (nod q c ∅) (omega arith) s) in (r.0, r.1, past r.2, r.3)
old_piece q c (nnod t j b f) p s = by (dec_lt (p + size c) (size (erase b))) (dec_lt (size (erase b)) (p + size c)) (λ z. old_piece q c b p z) (λ m z. old_piece q c f m z)
  where
    by : Dec (p + size c < size (erase b)) → Dec (size (erase b) < p + size c)
        → (Stand (recs b) p (nod q c ∅) → (i : ℕ) × (d : NRow) × Sub q i d b × (erase d ≡ c)) → ((m : ℕ) → Stand (recs f) m (nod q c ∅) → (i : ℕ) × (d : NRow) × Sub q i d f × (erase d ≡ c))
        → (i : ℕ) × (d : NRow) × Sub q i d (nnod t j b f) × (erase d ≡ c)
    by (yes h) g kb kf =
        let r = kb (left_stand (recs b) (wnod t (suc (size (erase b))) ∷ recs f) p (nod q c ∅) (omega (arith, length-flat (erase b))) s) in (r.0, r.1, under r.2, r.3)
    by (no h) (yes g) kb kf =
        let m : ℕ = p + size c - suc (size (erase b)) in
        let e = sym (at_right (recs b) (wnod t (suc (size (erase b))) ∷ recs f) (p + size c) (suc m) (omega (arith, length-flat (erase b)))) ∙ s.0.1 in
        let l : suc (size c) ≤ suc m = bound (erase f) m e in
        let o : ℕ = p - suc (size (erase b)) in
        let r = kf o (right_stand (wnod t (suc (size (erase b))) ∷ []) (recs f) (suc o) o (nod q c ∅) (omega arith) (right_stand (recs b) (wnod t (suc (size (erase b))) ∷ recs f) p (suc o) (nod q c ∅) (omega (arith, length-flat (erase b))) s)) in
        (r.0, r.1, later r.2, r.3)
    by (no h) (no g) kb kf =
        let e = at_right (recs b) (wnod t (suc (size (erase b))) ∷ recs f) (p + size c) 0 (omega (arith, length-flat (erase b))) in
        let z = s.0.1 in
        let u : t ≡ q = cc in
        let v : suc (size (erase b)) ≡ suc (size c) = cc in
        let y : p ≡ 0 = omega arith in
        let st : Stand (recs b) 0 c = rw y at (left_stand (recs b) (wnod t (suc (size (erase b))) ∷ recs f) p c (omega (arith, length-flat (erase b))) s.0.0) in
        (j, b, subst (λ x. Sub q j b (nnod x j b f)) (sym u) here, same_words (erase b) c (agree_all (recs b) (flat c) (omega (arith, length-flat (erase b), length-flat c)) (stand_agree (recs b) 0 c st)))

-- ---- the search. A row has no token; or stands at p; or stands nowhere
pub data Spot : Type 0 where
  bare : Spot
  spot : ℕ → Spot
  lost : Spot

abbrev pub tested : {A : Type 0} → Dec A → Spot → Spot
tested (yes h) s = s
tested (no h) s = lost

-- a first part of k records and the rest; A and B test a part at a place
abbrev pub meet : (k : ℕ) {A B : ℕ → Type 0} → ((p : ℕ) → Dec (A p)) → ((p : ℕ) → Dec (B p)) → Spot → Spot → Spot
meet k dA dB bare bare = bare
meet k dA dB bare (spot p) = tested (dec_le k p) (tested (dA (p - k)) (spot (p - k)))
meet k dA dB bare lost = lost
meet k dA dB (spot p) bare = tested (dB (p + k)) (spot p)
meet k dA dB (spot p) (spot o) = tested (ℕ_discrete o (p + k)) (spot p)
meet k dA dB (spot p) lost = lost
meet k dA dB lost bare = lost
meet k dA dB lost (spot o) = lost
meet k dA dB lost lost = lost

-- what a spot says of a part with n tokens
abbrev pub Good : (ℕ → Type 0) → ℕ → Spot → Type 0
Good A n bare = n ≡ 0
Good A n (spot p) = (0 < n) × A p
Good A n lost = (0 < n) × ((p : ℕ) → A p → ⊥)

module _ (k : ℕ) {A B : ℕ → Type 0} (dA : (p : ℕ) → Dec (A p)) (dB : (p : ℕ) → Dec (B p)) (n m : ℕ) (uA : (p o : ℕ) → 0 < n → A p → A o → p ≡ o) (uB : (p o : ℕ) → 0 < m → B p → B o → p ≡ o) where
  pub meets : (s t : Spot) → Good A n s → Good B m t → Good (λ p. A p × B (p + k)) (n + m) (meet k dA dB s t)
  meets bare bare g h = omega arith
  meets bare (spot p) g h = by (dec_le k p) (dA (p - k))
    where
      by : (d : Dec (k ≤ p)) (e : Dec (A (p - k))) → Good (λ p. A p × B (p + k)) (n + m) (tested d (tested e (spot (p - k))))
      by (yes l) (yes a) = let z : p - k + k ≡ p = omega arith in (omega (arith, h.0), (a, rw z h.1))
      by (yes l) (no a) = (omega (arith, h.0), λ o x. let z : p - k ≡ o = omega (arith, uB p (o + k) h.0 h.1 x.1) in a (rw z x.0))
      by (no l) e = (omega (arith, h.0), λ o x. omega (arith, uB p (o + k) h.0 h.1 x.1))
  meets bare lost g h = (omega (arith, h.0), λ p x. h.1 (p + k) x.1)
  meets (spot p) bare g h = by (dB (p + k))
    where
      by : (d : Dec (B (p + k))) → Good (λ p. A p × B (p + k)) (n + m) (tested d (spot p))
      by (yes b) = (omega (arith, g.0), (g.1, b))
      by (no b) = (omega (arith, g.0), λ o x. let z = uA p o g.0 g.1 x.0 in b (rw z x.1))
  meets (spot p) (spot o) g h = by (ℕ_discrete o (p + k))
    where
      by : (d : Dec (o ≡ p + k)) → Good (λ p. A p × B (p + k)) (n + m) (tested d (spot p))
      by (yes e) = (omega (arith, g.0), (g.1, rw e at h.1))
      by (no e) = (omega (arith, g.0), λ q x. e (let z = uA p q g.0 g.1 x.0 in omega (arith, uB o (q + k) h.0 h.1 x.1)))
  meets (spot p) lost g h = (omega (arith, g.0), λ q x. h.1 (q + k) x.1)
  meets lost bare g h = (omega (arith, g.0), λ q x. g.1 q x.0)
  meets lost (spot o) g h = (omega (arith, g.0), λ q x. g.1 q x.0)
  meets lost lost g h = (omega (arith, g.0), λ q x. g.1 q x.0)

-- ---- tests of records
pub wtok_part : {x y : Tok} → wtok x ≡ wtok y → x ≡ y
wtok_part e = cc

pub same_wnod : {q p n m : ℕ} → (q ≡ p) × (n ≡ m) → wnod q n ≡ wnod p m
same_wnod t = let a = t.0 in let b = t.1 in cc

pub wnod_parts : {q p n m : ℕ} → wnod q n ≡ wnod p m → (q ≡ p) × (n ≡ m)
wnod_parts e = (cc, cc)

pub wtok-wnod : {x : Tok} {q n : ℕ} → wtok x ≡ wnod q n → ⊥
wtok-wnod e = let z : ◌≡◌ {A = ℕ} 0 1 = cc in omega arith

pub none-some : {w : Word} → none ≡ some w → ⊥
none-some e = let z : ◌≡◌ {A = ℕ} 0 1 = cc in omega arith

pub some_part : {v w : Word} → some v ≡ some w → v ≡ w
some_part e = cc

abbrev pub word_d : (v w : Word) → Dec (v ≡ w)
word_d (wtok x) (wtok y) = map_d (λ e. ap wtok e) wtok_part (tok_d x y)
word_d (wtok x) (wnod q n) = no wtok-wnod
word_d (wnod q n) (wtok x) = no (λ e. wtok-wnod (sym e))
word_d (wnod q n) (wnod p m) = map_d same_wnod wnod_parts (and_d (ℕ_discrete q p) (ℕ_discrete n m))

abbrev pub opt_d : (v : Option Word) (w : Word) → Dec (v ≡ some w)
opt_d none w = no none-some
opt_d (some v) w = map_d (λ e. ap some e) some_part (word_d v w)

abbrev pub stand_d : (W : List Word) (f : Row) (p : ℕ) → Dec (Stand W p f)
stand_d W ∅ p = yes tt
stand_d W (tok x f) p = and_d (opt_d (get_elem? W p) (wtok x)) (stand_d W f (p + 1))
stand_d W (nod q c f) p = and_d (and_d (stand_d W c p) (opt_d (get_elem? W (p + size c)) (wnod q (suc (size c))))) (stand_d W f (p + suc (size c)))

-- where the old tokens stand: `locate` is handed in, and each token of W is found at its record
pub record Located (W : List Word) (locate : Tok → Option ℕ) : Type 0 where
  pub there : (x : Tok) (p : ℕ) → locate x ≡ some p → get_elem? W p ≡ some (wtok x)
  pub only : (x : Tok) (p : ℕ) → get_elem? W p ≡ some (wtok x) → locate x ≡ some p

abbrev pub spot_of : Option ℕ → Spot
spot_of none = lost
spot_of (some p) = spot p

abbrev pub close : (W : List Word) → ℕ → ℕ → Spot → Spot
close W q n bare = bare
close W q n (spot p) = tested (opt_d (get_elem? W (p + n)) (wnod q (suc n))) (spot p)
close W q n lost = lost

module _ (W : List Word) (locate : Tok → Option ℕ) where
  -- the piece of q over c stands at p
  abbrev pub Node : ℕ → Row → ℕ → Type 0
  Node q c p = Stand W p c × (get_elem? W (p + size c) ≡ some (wnod q (suc (size c))))

  node_d : (q : ℕ) (c : Row) (p : ℕ) → Dec (Node q c p)
  node_d q c p = and_d (stand_d W c p) (opt_d (get_elem? W (p + size c)) (wnod q (suc (size c))))

  -- tokens first, then each node after its children: a tokenless part is compared only where it meets a part that stands
  unfoldable pub scan : Row → Spot
  unfolding node_d
  scan ∅ = bare
  scan (tok x f) = meet 1 (λ p. opt_d (get_elem? W p) (wtok x)) (λ p. stand_d W f p) (spot_of (locate x)) (scan f)
  scan (nod q c f) = meet (suc (size c)) (node_d q c) (λ p. stand_d W f p) (close W q (size c) (scan c)) (scan f)

  module _ (L : Located W locate) where
    pub one_place : (f : Row) (p o : ℕ) → 0 < toks f → Stand W p f → Stand W o f → p ≡ o
    one_place ∅ p o h s t = absurd (omega arith)
    one_place (tok x f) p o h s t = let a = L.only x p s.0 in let b = L.only x o t.0 in cc
    one_place (nod q c f) p o h s t = by (dec_lt 0 (toks c)) (λ l. one_place c p o l s.0.0 t.0.0) (λ l. one_place f (p + suc (size c)) (o + suc (size c)) l s.1 t.1)
      where
        by : Dec (0 < toks c) → (0 < toks c → p ≡ o) → (0 < toks f → p + suc (size c) ≡ o + suc (size c)) → p ≡ o
        by (yes l) a b = a l
        by (no l) a b = omega (arith, b (omega arith))

    closes : (q : ℕ) (c : Row) (s : Spot) → Good (λ p. Stand W p c) (toks c) s → Good (λ p. Node q c p) (toks c) (close W q (size c) s)
    closes q c bare g = g
    closes q c (spot p) g = by (opt_d (get_elem? W (p + size c)) (wnod q (suc (size c))))
      where
        by : (d : Dec (get_elem? W (p + size c) ≡ some (wnod q (suc (size c))))) → Good (λ p. Node q c p) (toks c) (tested d (spot p))
        by (yes e) = (g.0, (g.1, e))
        by (no e) = (g.0, λ o s. let z = one_place c p o g.0 g.1 s.0 in e (rw z s.1))
    closes q c lost g = (g.0, λ p s. g.1 p s.0)

    located : (x : Tok) (o : Option ℕ) → locate x ≡ o → Good (λ p. get_elem? W p ≡ some (wtok x)) 1 (spot_of o)
    located x none e = (omega arith, λ p s. let a = L.only x p s in let z : ◌≡◌ {A = ℕ} 0 1 = cc in omega arith)
    located x (some p) e = (omega arith, L.there x p e)

    -- the search is right
    pub scans : (f : Row) → Good (λ p. Stand W p f) (toks f) (scan f)
    unfolding scan
    scans ∅ = refl
    scans (tok x f) =
        let z : suc (toks f) ≡ 1 + toks f = omega arith in
        rw z (meets 1 (λ p. opt_d (get_elem? W p) (wtok x)) (λ p. stand_d W f p) 1 (toks f) (λ p o h a b. let u = L.only x p a in let v = L.only x o b in cc) (λ p o h a b. one_place f p o h a b)
        (spot_of (locate x)) (scan f) (located x (locate x) refl) (scans f))
    scans (nod q c f) =
        meets (suc (size c)) (node_d q c) (λ p. stand_d W f p) (toks c) (toks f) (λ p o h a b. one_place c p o h a.0 b.0) (λ p o h a b. one_place f p o h a b)
        (close W q (size c) (scan c)) (scan f) (closes q c (scan c) (scans c)) (scans f)

-- ---- the search judges as the rule does, and the numbers to copy stand at the same offset
module _ (old : NRow) (n : ℕ) (O : Fit n old) (locate : Tok → Option ℕ) (L : Located (recs old) locate) where
  abbrev pub Judged : ℕ → Row → Spot → Type 0
  Judged q c bare = judge old q c ≡ new!
  Judged q c (spot p) = (i : ℕ) × (d : NRow) × (judge old q c ≡ copy i d) × Placed old q i d p
  Judged q c lost = judge old q c ≡ new!

  module _ (q : ℕ) (c : Row) where
    none_stands : ((p : ℕ) → Stand (recs old) p (nod q c ∅) → ⊥) → (v : Verdict) → judge old q c ≡ v → v ≡ new!
    none_stands h (copy i d) e =
        let s = judge_copies old {q = q} {c = c} e in
        let r = placed s.0 in absurd (h r.0 (subst (λ x. Stand (recs old) r.0 (nod q x ∅)) s.1 r.1.stands))
    none_stands h (keep i) e = absurd (judge-keep old q c e)
    none_stands h new! e = refl

    none-tokens : toks c ≡ 0 → (v : Verdict) → judge old q c ≡ v → v ≡ new!
    none-tokens h (copy i d) e = absurd (omega (arith, (judge_copies old {q = q} {c = c} e).2))
    none-tokens h (keep i) e = absurd (judge-keep old q c e)
    none-tokens h new! e = refl

    -- whatever finds it, a good spot says the judgement
    pub judged-at : (s : Spot) → Good (λ p. Node (recs old) locate q c p) (toks c) s → Judged q c s
    judged-at bare g = none-tokens g (judge old q c) refl
    judged-at (spot p) g =
        let r = old_piece q c old p (g.1, tt) in
        let t = placed r.2 in
        let u : Stand (recs old) t.0 c = subst (λ x. Stand (recs old) t.0 x) r.3 t.1.stands.0.0 in
        let e : t.0 ≡ p = one_place (recs old) locate L c t.0 p g.0 u g.1.0 in
        (r.0, r.1, judge_finds old O c r.2 r.3 g.0, subst (λ x. Placed old q r.0 r.1 x) e t.1)
    judged-at lost g = none_stands (λ p s. g.1 p s.0) (judge old q c) refl

  pub judges : (q : ℕ) (c : Row) → Judged q c (close (recs old) q (size c) (scan (recs old) locate c))
  judges q c = judged-at q c (close (recs old) q (size c) (scan (recs old) locate c)) (closes (recs old) locate L q c (scan (recs old) locate c) (scans (recs old) locate L c))

-- ---- for a loop that walks the children from the last back by their sizes: any way of putting spots together that is good is the same
pub flat_append : (f g : Row) → flat (f ⧺ g) ≡ flat f ++ flat g
flat_append ∅ g = refl
flat_append (tok x f) g = ap (wtok x ∷◌) (flat_append f g)
flat_append (nod q c f) g = rw (flat_append f g) (sym (append_assoc (flat c) (wnod q (suc (size c)) ∷ flat f) (flat g)))

pub stand_append : (W : List Word) (p n : ℕ) (f g : Row) → n ≡ p + size f → Stand W p f → Stand W n g → Stand W p (f ⧺ g)
stand_append W p n ∅ g e s t = let z : p ≡ n = omega arith in rw z t
stand_append W p n (tok x f) g e s t = (s.0, stand_append W (p + 1) n f g (omega arith) s.1 t)
stand_append W p n (nod q c f) g e s t = (s.0, stand_append W (p + suc (size c)) n f g (omega arith) s.1 t)

pub append_stand : (W : List Word) (p n : ℕ) (f g : Row) → n ≡ p + size f → Stand W p (f ⧺ g) → Stand W p f × Stand W n g
append_stand W p n ∅ g e s = let z : n ≡ p = omega arith in (tt, rw z s)
append_stand W p n (tok x f) g e s = let r = append_stand W (p + 1) n f g (omega arith) s.1 in ((s.0, r.0), r.1)
append_stand W p n (nod q c f) g e s = let r = append_stand W (p + suc (size c)) n f g (omega arith) s.1 in ((s.0, r.0), r.1)

-- the last record of a row is the root of its last tree
pub data Last : Row → Type 0 where
  empty : Last ∅
  ends : (f : Row) (t : Tree) → Last (f ⧺ cons t ∅)

pub last : (f : Row) → Last f
last ∅ = empty
last (tok x f) = by (last f)
  where
    by : {f : Row} → Last f → Last (tok x f)
    by empty = ends ∅ (leaf x)
    by (ends g t) = ends (tok x g) t
last (nod q c f) = by (last f)
  where
    by : {f : Row} → Last f → Last (nod q c f)
    by empty = ends ∅ (node q c)
    by (ends g t) = ends (nod q c g) t

pub good_one : {A : ℕ → Type 0} (n : ℕ) → ((p o : ℕ) → 0 < n → A p → A o → p ≡ o) → (s t : Spot) → Good A n s → Good A n t → s ≡ t
good_one n u bare bare g h = refl
good_one n u bare (spot o) g h = absurd (omega (arith, h.0))
good_one n u bare lost g h = absurd (omega (arith, h.0))
good_one n u (spot p) bare g h = absurd (omega (arith, g.0))
good_one n u (spot p) (spot o) g h = ap spot (u p o g.0 g.1 h.1)
good_one n u (spot p) lost g h = absurd (h.1 p g.1)
good_one n u lost bare g h = absurd (omega (arith, g.0))
good_one n u lost (spot o) g h = absurd (g.1 o h.1)
good_one n u lost lost g h = refl

good_map : {A B : ℕ → Type 0} (n m : ℕ) → n ≡ m → ((p : ℕ) → A p → B p) → ((p : ℕ) → B p → A p) → (s : Spot) → Good A n s → Good B m s
good_map n m e a b bare g = omega (arith, g)
good_map n m e a b (spot p) g = (omega (arith, g.0), a p g.1)
good_map n m e a b lost g = (omega (arith, g.0), λ p x. g.1 p (b p x))

module _ (W : List Word) (locate : Tok → Option ℕ) (L : Located W locate) where
  -- the children put together from the last back
  pub scan-append : (f g : Row) → scan W locate (f ⧺ g) ≡ meet (size f) (λ p. stand_d W f p) (λ p. stand_d W g p) (scan W locate f) (scan W locate g)
  scan-append f g =
      good_one (toks (f ⧺ g)) (λ p o h a b. one_place W locate L (f ⧺ g) p o h a b) _ _ (scans W locate L (f ⧺ g))
      (good_map {A = λ p. Stand W p f × Stand W (p + size f) g} {B = λ p. Stand W p (f ⧺ g)} (toks f + toks g) (toks (f ⧺ g)) (omega (arith, toks-append f g)) (λ p x. stand_append W p (p + size f) f g refl x.0 x.1) (λ p x. let r = append_stand W p (p + size f) f g refl x in (r.0, r.1)) (meet (size f) (λ p. stand_d W f p) (λ p. stand_d W g p) (scan W locate f) (scan W locate g))
      (meets (size f) (λ p. stand_d W f p) (λ p. stand_d W g p) (toks f) (toks g) (λ p o h a b. one_place W locate L f p o h a b) (λ p o h a b. one_place W locate L g p o h a b) (scan W locate f) (scan W locate g) (scans W locate L f) (scans W locate L g)))
