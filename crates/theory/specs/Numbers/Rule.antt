-- What a numbering by any fair judgement comes to: the given row, with the others numbered in turn, and equal pieces copied.
use Rattle.std.specs.Prelude.{◌≡◌, refl, List, [], ◌∷◌, ◌++◌, ℕ, suc, ◌+◌, ◌≤◌, ◌<◌, length}
use Rattle.std.proofs.Common.{sym, ap, ◌∙◌, arith}
use Rattle.std.proofs.Math.Decide.{dec_le, dec_lt}
use Rattle.definitions.specs.Tree.{mk, Row, tok, NRow, ε, ntok, nnod, erase, occ, toc, eqn, toks, Fit}
use Rattle.definitions.specs.Numbers.{Sub, here, under, later, past, below?, cut, forget, sift, add, news, Rises, Cover, cε, ctok, ccopy, ckeep, cnew}
use Rattle.theory.specs.Numbers.Number.{Verdict, copy, keep, new! }
use Rattle.theory.specs.Numbers.Counting.{among-append, eqn_same, eqn-other, eqn_le, ids, direct, among, sub-sub, sub-toc, sub-noc}
use Rattle.theory.specs.Numbers.Seek.{Numbering, n∅, nput, nold, ncopy, nkeep, nnew, unique}

below_yes : {A : Type 0} (d : Dec A) (i : ℕ) → A → below? d i ≡ i
below_yes (yes h) i a = refl
below_yes (no h) i a = absurd (h a)

below_no : {A : Type 0} (d : Dec A) (i : ℕ) → (A → ⊥) → below? d i ≡ 0
below_no (yes h) i a = absurd (a h)
below_no (no h) i a = refl

-- ---- identities: numbers from n on are no old ones
pub cut_below : {n i : ℕ} → i < n → cut n i ≡ i
unfolding cut
cut_below {n} {i} h = below_yes (dec_lt i n) i h

pub cut_above : {n i : ℕ} → n ≤ i → cut n i ≡ 0
unfolding cut
cut_above {n} {i} h = below_no (dec_lt i n) i (omega arith)

pub forget_old : (n : ℕ) (r : NRow) → ((i : ℕ) → n ≤ i → toc i r ≡ 0) → forget n (erase r) ≡ erase r
forget_old n ε h = refl
forget_old n (ntok k i f) h = by (dec_lt i n) (forget_old n f (λ j l. omega (arith, h j l)))
  where
    by : Dec (i < n) → forget n (erase f) ≡ erase f → tok (mk k (cut n i)) (forget n (erase f)) ≡ tok (mk k i) (erase f)
    by (yes l) e = rw (cut_below l, e) refl
    by (no l) e = absurd (omega (arith, h i (omega arith), eqn_same i))
forget_old n (nnod p i c f) h = rw (forget_old n c (λ j l. omega (arith, h j l)), forget_old n f (λ j l. omega (arith, h j l))) refl

sift_yes : {A : Type 0} (d : Dec A) (i : ℕ) (l : List ℕ) → A → sift d i l ≡ i ∷ l
sift_yes (yes h) i l a = refl
sift_yes (no h) i l a = absurd (h a)

sift_no : {A : Type 0} (d : Dec A) (i : ℕ) (l : List ℕ) → (A → ⊥) → sift d i l ≡ l
sift_no (yes h) i l a = absurd (a h)
sift_no (no h) i l a = refl

-- ---- the numbers from n on, in written order, rise by one
pub add_new : {n i : ℕ} (l : List ℕ) → n ≤ i → add n i l ≡ i ∷ l
unfolding add
add_new {n} {i} l h = sift_yes (dec_le n i) i l h

pub add_old : {n i : ℕ} (l : List ℕ) → i < n → add n i l ≡ l
unfolding add
add_old {n} {i} l h = sift_no (dec_le n i) i l (omega arith)

pub rises-append : (n m o : ℕ) (a b : List ℕ) → Rises n a m → Rises m b o → Rises n (a ++ b) o
rises-append n m o [] b p q = rw p q
rises-append n m o (x ∷ a) b p q = (p.0, rises-append (suc n) m o a b p.1 q)

pub rises_split : (n o : ℕ) (a b : List ℕ) → Rises n (a ++ b) o → (m : ℕ) × Rises n a m × Rises m b o
rises_split n o [] b p = (n, refl, p)
rises_split n o (x ∷ a) b p = let r = rises_split (suc n) o a b p.1 in (r.0, (p.0, r.1), r.2)

pub rises-length : (n m : ℕ) (l : List ℕ) → Rises n l m → n + length l ≡ m
rises-length n m [] p = omega arith
rises-length n m (x ∷ l) p = omega (arith, rises-length (suc n) m l p.1)

pub rises_below : (i n m : ℕ) (l : List ℕ) → Rises n l m → i < n → among i l ≡ 0
rises_below i n m [] p h = refl
rises_below i n m (x ∷ l) p h = omega (arith, eqn-other {i = i} {j = x} (λ e. omega (arith, p.0)), rises_below i (suc n) m l p.1 (omega arith))

pub rises_above : (i n m : ℕ) (l : List ℕ) → Rises n l m → m ≤ i → among i l ≡ 0
rises_above i n m [] p h = refl
rises_above i n m (x ∷ l) p h = omega (arith, eqn-other {i = i} {j = x} (λ e. omega (arith, p.0, rises-length (suc n) m l p.1)), rises_above i (suc n) m l p.1 h)

pub rises_once : (i n m : ℕ) (l : List ℕ) → Rises n l m → among i l ≤ 1
rises_once i n m [] p = omega arith
rises_once i n m (x ∷ l) p = by (dec_lt i (suc n)) (rises_once i (suc n) m l p.1)
  where
    by : Dec (i < suc n) → among i l ≤ 1 → eqn i x + among i l ≤ 1
    by (yes h) k = omega (arith, eqn_le i x, rises_below i (suc n) m l p.1 h)
    by (no h) k = omega (arith, eqn-other {i = i} {j = x} (λ e. omega (arith, p.0)))

among-add : (n i j : ℕ) (l : List ℕ) → n ≤ i → among i (add n j l) ≡ eqn i j + among i l
among-add n i j l h = by (dec_le n j)
  where
    by : Dec (n ≤ j) → among i (add n j l) ≡ eqn i j + among i l
    by (yes a) = rw (add_new {n = n} {i = j} l a) refl
    by (no a) = rw (add_old {n = n} {i = j} l (omega arith)) (omega (arith, eqn-other {i = i} {j = j} (omega arith)))

pub occ-news : (n i : ℕ) (r : NRow) → n ≤ i → occ i r ≡ among i (news n r)
occ-news n i ε h = refl
occ-news n i (ntok k j f) h = omega (arith, among-add n i j (news n f) h, occ-news n i f h)
occ-news n i (nnod q j c f) h = omega (arith, among-append i (news n c) (add n j (news n f)), among-add n i j (news n f) h, occ-news n i f h, occ-news n i c h)

pub news-none : (n : ℕ) (r : NRow) → ((i : ℕ) → n ≤ i → occ i r ≡ 0) → news n r ≡ []
news-none n ε h = refl
news-none n (ntok k j f) h = by (dec_lt j n) (news-none n f (λ i l. omega (arith, h i l)))
  where
    by : Dec (j < n) → news n f ≡ [] → add n j (news n f) ≡ []
    by (yes l) e = add_old {n = n} {i = j} (news n f) l ∙ e
    by (no l) e = absurd (omega (arith, h j (omega arith), eqn_same j))
news-none n (nnod q j c f) h = by (dec_lt j n) (news-none n c (λ i l. omega (arith, h i l))) (news-none n f (λ i l. omega (arith, h i l)))
  where
    by : Dec (j < n) → news n c ≡ [] → news n f ≡ [] → news n c ++ add n j (news n f) ≡ []
    by (yes l) d e = rw (d, add_old {n = n} {i = j} (news n f) l, e) refl
    by (no l) d e = absurd (omega (arith, h j (omega arith), eqn_same j))

-- ---- the new text: each old token stands in it at most once
abbrev pub Text : NRow → Row → Type 0
Text old f = (i : ℕ) → 0 < i → ids i f ≤ toc i old

-- q over c has the very tokens directly under it that the old node of q numbered i has, and has one
pub record Own (old : NRow) (q i : ℕ) (c : Row) : Type 0 where
  pub kids : NRow
  pub old_node : Sub q i kids old
  pub tokens : direct (erase kids) ≡ direct c
  pub some : 0 < length (direct c)

module _ (old : NRow) (K : ℕ → ℕ → Row → Type 0) where
  -- what the theorems ask of a judgement
  pub record Fair (J : ℕ → Row → Verdict) : Type 0 where
    pub copies : {q i : ℕ} {c : Row} {d : NRow} → J q c ≡ copy i d → Sub q i d old × (erase d ≡ c) × (0 < toks c)
    pub finds : {q i : ℕ} {d : NRow} (c : Row) → Sub q i d old → erase d ≡ c → 0 < toks c → J q c ≡ copy i d
    pub keeps : {q i : ℕ} {c : Row} → J q c ≡ keep i → K q i c
    pub owns : {q i : ℕ} {c : Row} → K q i c → Own old q i c
    pub lone : {q i j : ℕ} {c : Row} → K q i c → K q j c → i ≡ j
    pub fails : {q i : ℕ} {c : Row} → J q c ≡ new! → K q i c → ⊥
    pub heir : {q i j : ℕ} {d : NRow} → Sub q i d old → K q j (erase d) → i ≡ j

  module _ (J : ℕ → Row → Verdict) (F : Fair J) (a : ℕ) (O : Fit a old) where
    pub grows : {n m : ℕ} {f : Row} {r : NRow} → Numbering J n f r m → n ≤ m
    grows n∅ = omega arith
    grows (nput N) = omega (arith, grows N)
    grows (nold N) = grows N
    grows (ncopy e N) = grows N
    grows (nkeep e M N) = omega (arith, grows M, grows N)
    grows (nnew e M N) = omega (arith, grows M, grows N)

    -- an old piece's numbers are below a
    pub piece_below : {q i : ℕ} {d : NRow} → Sub q i d old → (j : ℕ) → a ≤ j → occ j d ≡ 0
    piece_below s j h = omega (arith, sub-toc j s, sub-noc j s, O.below j h)

    pub head_below : {q i : ℕ} {d : NRow} → Sub q i d old → i < a
    head_below {i = i} s = by (dec_lt i a)
      where
        by : Dec (i < a) → i < a
        by (yes h) = h
        by (no h) = absurd (omega (arith, sub-noc i s, eqn_same i, O.below i (omega arith)))

    pub piece-forget : {q i : ℕ} {d : NRow} → Sub q i d old → forget a (erase d) ≡ erase d
    piece-forget {d = d} s = forget_old a d (λ j h. omega (arith, piece_below s j h))

    -- the numbered row is the given row
    pub is_given : {n m : ℕ} {f : Row} {r : NRow} → Numbering J n f r m → a ≤ n → ((i : ℕ) → a ≤ i → ids i f ≡ 0) → forget a (erase r) ≡ f
    is_given n∅ h t = refl
    is_given (nput {n = n} N) h t = rw (cut_above h, is_given N (omega arith) (λ i l. omega (arith, t i l))) refl
    is_given (nold {i = i} N) h t = by (dec_lt (suc i) a) (is_given N h (λ i l. omega (arith, t i l)))
      where
        by : {k : ℕ} {f g : Row} → Dec (suc i < a) → f ≡ g → tok (mk k (cut a (suc i))) f ≡ tok (mk k (suc i)) g
        by (yes l) e = rw (cut_below l, e) refl
        by (no l) e = absurd (omega (arith, t (suc i) (omega arith), eqn_same (suc i)))
    is_given (ncopy {c = c} {d = d} e N) h t =
        let s = F.copies e in rw (piece-forget s.0, s.1, is_given N h (λ i l. omega (arith, t i l))) refl
    is_given (nkeep e M N) h t = rw (is_given M h (λ i l. omega (arith, t i l)), is_given N (omega (arith, grows M)) (λ i l. omega (arith, t i l))) refl
    is_given (nnew e M N) h t = rw (is_given M h (λ i l. omega (arith, t i l)), is_given N (omega (arith, grows M)) (λ i l. omega (arith, t i l))) refl

    -- the others take the numbers from n on, in written order
    pub in_turn : {n m : ℕ} {f : Row} {r : NRow} → Numbering J n f r m → a ≤ n → ((i : ℕ) → a ≤ i → ids i f ≡ 0) → Rises n (news a r) m
    in_turn n∅ h t = refl
    in_turn (nput {r = r} N) h t = rw (add_new (news a r) h) (refl, in_turn N (omega arith) (λ i l. omega (arith, t i l)))
    in_turn (nold {n = n} {m = m} {i = i} {r = r} N) h t = by (dec_lt (suc i) a) (in_turn N h (λ i l. omega (arith, t i l)))
      where
        by : Dec (suc i < a) → Rises n (news a r) m → Rises n (add a (suc i) (news a r)) m
        by (yes l) e = rw (add_old (news a r) l) e
        by (no l) e = absurd (omega (arith, t (suc i) (omega arith), eqn_same (suc i)))
    in_turn (ncopy {d = d} {r = r} e N) h t =
        let s = F.copies e in
        rw (news-none a d (piece_below s.0), add_old (news a r) (head_below s.0)) (in_turn N h (λ i l. omega (arith, t i l)))
    in_turn (nkeep {n = n} {m = m} {o = o} {r = r} {s = s} e M N) h t =
        let w = F.owns (F.keeps e) in
        rw (add_old (news a s) (head_below w.old_node))
        (rises-append n m o (news a r) (news a s) (in_turn M h (λ i l. omega (arith, t i l))) (in_turn N (omega (arith, grows M)) (λ i l. omega (arith, t i l))))
    in_turn (nnew {n = n} {m = m} {o = o} {r = r} {s = s} e M N) h t =
        rw (add_new {n = a} {i = m} (news a s) (omega (arith, grows M)))
        (rises-append n m o (news a r) (m ∷ news a s) (in_turn M h (λ i l. omega (arith, t i l))) (refl, in_turn N (omega (arith, grows M)) (λ i l. omega (arith, t i l))))

    pub covers : {n m : ℕ} {f : Row} {r : NRow} → Numbering J n f r m → a ≤ n → ((i : ℕ) → a ≤ i → ids i f ≡ 0) → Cover old K a r
    covers n∅ h t = cε
    covers (nput N) h t = ctok (covers N (omega arith) (λ i l. omega (arith, t i l)))
    covers (nold N) h t = ctok (covers N h (λ i l. omega (arith, t i l)))
    covers (ncopy e N) h t = let s = F.copies e in ccopy s.0 (rw s.1 s.2) (covers N h (λ i l. omega (arith, t i l)))
    covers (nkeep {q = q} {i = i} {r = r} e M N) h t =
        ckeep {q = q} {i = i} {c = r} (rw (is_given M h (λ i l. omega (arith, t i l))) (F.keeps e)) (covers M h (λ i l. omega (arith, t i l))) (covers N (omega (arith, grows M)) (λ i l. omega (arith, t i l)))
    covers (nnew {m = m} e M N) h t =
        cnew {i = m} (omega (arith, grows M)) (covers M h (λ i l. omega (arith, t i l))) (covers N (omega (arith, grows M)) (λ i l. omega (arith, t i l)))

    -- a piece with tokens that equals an old piece has its numbers, at every depth
    same_piece : {q i j : ℕ} {d e : NRow} → Sub q i d old → 0 < toks (erase d) → Sub q j e old → erase e ≡ erase d → (i ≡ j) × (d ≡ e)
    same_piece s l t z = unique s t (sym z) l O.low O.apart

    -- an old piece of production q over c would have been copied
    no_piece : {q j : ℕ} {c : Row} {e : NRow} (r : NRow) → forget a (erase r) ≡ c → 0 < toks (erase r) → Sub q j e old → erase e ≡ erase r → J q c ≡ copy j e
    no_piece {c = c} {e = e} r g l t z =
        let y : erase e ≡ c = sym (piece-forget t) ∙ ap (forget a) z ∙ g in
        F.finds c t y (rw (ap toks (sym y) ∙ ap toks z) l)

    pub equals : {n m : ℕ} {f : Row} {r : NRow} → Numbering J n f r m → a ≤ n → ((i : ℕ) → a ≤ i → ids i f ≡ 0)
        → {q i j : ℕ} {d e : NRow} → Sub q i d r → 0 < toks (erase d) → Sub q j e old → erase e ≡ erase d → (i ≡ j) × (d ≡ e)
    equals n∅ h t s l w z = elim s [ ]
    equals (nput N) h t (past s) l w z = equals N (omega arith) (λ i l. omega (arith, t i l)) s l w z
    equals (nold N) h t (past s) l w z = equals N h (λ i l. omega (arith, t i l)) s l w z
    equals (ncopy y N) h t here l w z = same_piece (F.copies y).0 l w z
    equals (ncopy y N) h t (under s) l w z = same_piece (sub-sub s (F.copies y).0) l w z
    equals (ncopy y N) h t (later s) l w z = equals N h (λ i l. omega (arith, t i l)) s l w z
    equals (nkeep {r = r} y M N) h t here l w z = let g = no_piece r (is_given M h (λ i l. omega (arith, t i l))) l w z in let x : ◌≡◌ {A = ℕ} 0 1 = cc in absurd (omega arith)
    equals (nkeep y M N) h t (under s) l w z = equals M h (λ i l. omega (arith, t i l)) s l w z
    equals (nkeep y M N) h t (later s) l w z = equals N (omega (arith, grows M)) (λ i l. omega (arith, t i l)) s l w z
    equals (nnew {r = r} y M N) h t here l w z = let g = no_piece r (is_given M h (λ i l. omega (arith, t i l))) l w z in let x : ◌≡◌ {A = ℕ} 0 1 = cc in absurd (omega arith)
    equals (nnew y M N) h t (under s) l w z = equals M h (λ i l. omega (arith, t i l)) s l w z
    equals (nnew y M N) h t (later s) l w z = equals N (omega (arith, grows M)) (λ i l. omega (arith, t i l)) s l w z

    -- a node that may keep its number alone does
    pub keeps_own : {n m : ℕ} {f : Row} {r : NRow} → Numbering J n f r m → a ≤ n → ((i : ℕ) → a ≤ i → ids i f ≡ 0)
        → {q i j : ℕ} {d : NRow} → Sub q i d r → K q j (forget a (erase d)) → i ≡ j
    keeps_own n∅ h t s k = elim s [ ]
    keeps_own (nput N) h t (past s) k = keeps_own N (omega arith) (λ i l. omega (arith, t i l)) s k
    keeps_own (nold N) h t (past s) k = keeps_own N h (λ i l. omega (arith, t i l)) s k
    keeps_own (ncopy y N) h t here k = F.heir (F.copies y).0 (rw (piece-forget (F.copies y).0) at k)
    keeps_own (ncopy y N) h t (under s) k = let u = sub-sub s (F.copies y).0 in F.heir u (rw (piece-forget u) at k)
    keeps_own (ncopy y N) h t (later s) k = keeps_own N h (λ i l. omega (arith, t i l)) s k
    keeps_own (nkeep y M N) h t here k = F.lone (F.keeps y) (rw (is_given M h (λ i l. omega (arith, t i l))) at k)
    keeps_own (nkeep y M N) h t (under s) k = keeps_own M h (λ i l. omega (arith, t i l)) s k
    keeps_own (nkeep y M N) h t (later s) k = keeps_own N (omega (arith, grows M)) (λ i l. omega (arith, t i l)) s k
    keeps_own (nnew y M N) h t here k = absurd (F.fails y (rw (is_given M h (λ i l. omega (arith, t i l))) at k))
    keeps_own (nnew y M N) h t (under s) k = keeps_own M h (λ i l. omega (arith, t i l)) s k
    keeps_own (nnew y M N) h t (later s) k = keeps_own N (omega (arith, grows M)) (λ i l. omega (arith, t i l)) s k

    -- the row as a whole
    pub text-low : (f : Row) → Text old f → (i : ℕ) → a ≤ i → ids i f ≡ 0
    text-low f t i h = omega (arith, t i (omega (arith, O.pos)), O.below i h)
