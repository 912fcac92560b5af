-- Equal pieces on the written records: a row stands in the old records at an offset; one offset goes through an equal piece.
use Rattle.std.specs.Prelude.{◌≡◌, refl, List, [], ◌∷◌, ◌++◌, ℕ, zero, suc, ◌+◌, ◌-◌, ◌≤◌, ◌<◌, length}
use Rattle.std.proofs.Common.{sym, ap, ◌∙◌, append_assoc, arith, length-append}
use Rattle.std.proofs.Math.Option.{some}
use Rattle.std.proofs.Math.Decide.{dec_lt}
use Rattle.std.proofs.Math.ListN.{get_elem?}
use Rattle.definitions.specs.Tree.{Row, ∅, tok, nod, size}
use Rattle.theory.specs.Records.Flat.{Word, wtok, wnod, flat, length-flat}

module _ {A : Type 0} where
  pub at_in : (a b : List A) (n : ℕ) {x : A} → get_elem? a n ≡ some x → get_elem? (a ++ b) n ≡ some x
  at_in [] b n e = let z : ◌≡◌ {A = ℕ} 0 1 = cc in absurd (omega arith)
  at_in (y ∷ a) b zero e = e
  at_in (y ∷ a) b (suc n) e = at_in a b n e

  pub at_left : (a b : List A) (n : ℕ) → n < length a → get_elem? (a ++ b) n ≡ get_elem? a n
  at_left [] b n h = absurd (omega arith)
  at_left (y ∷ a) b zero h = refl
  at_left (y ∷ a) b (suc n) h = at_left a b n (omega arith)

  pub at_right : (a b : List A) (n t : ℕ) → n ≡ length a + t → get_elem? (a ++ b) n ≡ get_elem? b t
  at_right [] b n t e = let z : n ≡ t = omega arith in rw z refl
  at_right (y ∷ a) b zero t e = absurd (omega arith)
  at_right (y ∷ a) b (suc n) t e = at_right a b n t (omega arith)

  pub at_beyond : (a : List A) (n : ℕ) {x : A} → get_elem? a n ≡ some x → n < length a
  at_beyond [] n e = let z : ◌≡◌ {A = ℕ} 0 1 = cc in absurd (omega arith)
  at_beyond (y ∷ a) zero e = omega arith
  at_beyond (y ∷ a) (suc n) e = omega (arith, at_beyond a n e)

  -- record by record
  abbrev pub Agree : List A → ℕ → List A → Type 0
  Agree W p [] = Unit {0}
  Agree W p (x ∷ l) = (get_elem? W p ≡ some x) × Agree W (suc p) l

  pub agree_in : (a b : List A) (p : ℕ) (l : List A) → Agree a p l → Agree (a ++ b) p l
  agree_in a b p [] g = tt
  agree_in a b p (x ∷ l) g = (at_in a b p g.0, agree_in a b (suc p) l g.1)

  pub agree_right : (a b : List A) (n p : ℕ) (l : List A) → n ≡ length a + p → Agree b p l → Agree (a ++ b) n l
  agree_right a b n p [] e g = tt
  agree_right a b n p (x ∷ l) e g = (at_right a b n p e ∙ g.0, agree_right a b (suc n) (suc p) l (omega arith) g.1)

  pub agree_join : (W : List A) (p n : ℕ) (a b : List A) → n ≡ p + length a → Agree W p a → Agree W n b → Agree W p (a ++ b)
  agree_join W p n [] b e g h = let z : p ≡ n = omega arith in rw z h
  agree_join W p n (x ∷ a) b e g h = (g.0, agree_join W (suc p) n a b (omega arith) g.1 h)

  pub agree_split : (W : List A) (p n : ℕ) (a b : List A) → n ≡ p + length a → Agree W p (a ++ b) → Agree W p a × Agree W n b
  agree_split W p n [] b e g = let z : n ≡ p = omega arith in (tt, rw z g)
  agree_split W p n (x ∷ a) b e g = let r = agree_split W (suc p) n a b (omega arith) g.1 in ((g.0, r.0), r.1)

  pub agree_self : (a : List A) → Agree a 0 a
  agree_self [] = tt
  agree_self (x ∷ a) = (refl, agree_right (x ∷ []) a 1 0 a (omega arith) (agree_self a))

agree_tail : {A : Type 0} (x : A) (a : List A) (p : ℕ) (l : List A) → Agree (x ∷ a) (suc p) l → Agree a p l
agree_tail x a p [] g = tt
agree_tail x a p (y ∷ l) g = (g.0, agree_tail x a (suc p) l g.1)

pub agree_all : {A : Type 0} (a l : List A) → length a ≡ length l → Agree a 0 l → a ≡ l
agree_all [] [] h g = refl
agree_all [] (x ∷ l) h g = absurd (omega arith)
agree_all (x ∷ a) [] h g = absurd (omega arith)
agree_all (x ∷ a) (y ∷ l) h g =
    let u = agree_all a l (omega arith) (agree_tail x a 0 l g.1) in
    let v = g.0 in
    let w : x ≡ y = cc in cc

-- the records of the row stand in W from p on
abbrev pub Stand : List Word → ℕ → Row → Type 0
Stand W p ∅ = Unit {0}
Stand W p (tok x f) = (get_elem? W p ≡ some (wtok x)) × Stand W (p + 1) f
Stand W p (nod q c f) = (Stand W p c × (get_elem? W (p + size c) ≡ some (wnod q (suc (size c))))) × Stand W (p + suc (size c)) f

pub stand_agree : (W : List Word) (p : ℕ) (f : Row) → Stand W p f → Agree W p (flat f)
stand_agree W p ∅ s = tt
stand_agree W p (tok x f) s = let z : suc p ≡ p + 1 = omega arith in (s.0, rw z (stand_agree W (p + 1) f s.1))
stand_agree W p (nod q c f) s =
    let z : suc (p + size c) ≡ p + suc (size c) = omega arith in
    agree_join W p (p + size c) (flat c) (wnod q (suc (size c)) ∷ flat f) (omega (arith, length-flat c)) (stand_agree W p c s.0.0) (s.0.1, rw z (stand_agree W (p + suc (size c)) f s.1))

pub agree_stand : (W : List Word) (p : ℕ) (f : Row) → Agree W p (flat f) → Stand W p f
agree_stand W p ∅ s = tt
agree_stand W p (tok x f) s = let z : p + 1 ≡ suc p = omega arith in (s.0, rw z (agree_stand W (suc p) f s.1))
agree_stand W p (nod q c f) s =
    let r = agree_split W p (p + size c) (flat c) (wnod q (suc (size c)) ∷ flat f) (omega (arith, length-flat c)) s in
    let z : p + suc (size c) ≡ suc (p + size c) = omega arith in
    ((agree_stand W p c r.0, r.1.0), rw z (agree_stand W (suc (p + size c)) f r.1.1))

-- ---- a record's size reaches back no further than the first record
pub bound : {q n : ℕ} (f : Row) (t : ℕ) → get_elem? (flat f) t ≡ some (wnod q n) → n ≤ suc t
bound ∅ t e = let z : ◌≡◌ {A = ℕ} 0 1 = cc in absurd (omega arith)
bound (tok x f) zero e = let z : ◌≡◌ {A = ℕ} 0 1 = cc in absurd (omega arith)
bound (tok x f) (suc t) e = omega (arith, bound f t e)
bound {q} {n} (nod p c f) t e = by (dec_lt t (size c)) (dec_lt (size c) t) (λ z. bound c t z) (λ z. bound f (t - suc (size c)) z)
  where
    by : Dec (t < size c) → Dec (size c < t) → (get_elem? (flat c) t ≡ some (wnod q n) → n ≤ suc t) → (get_elem? (flat f) (t - suc (size c)) ≡ some (wnod q n) → n ≤ suc (t - suc (size c))) → n ≤ suc t
    by (yes h) g kc kf = kc (sym (at_left (flat c) (wnod p (suc (size c)) ∷ flat f) t (omega (arith, length-flat c))) ∙ e)
    by (no h) (yes g) kc kf =
        omega (arith, kf (sym (at_right (flat c) (wnod p (suc (size c)) ∷ flat f) t (suc (t - suc (size c))) (omega (arith, length-flat c))) ∙ e))
    by (no h) (no g) kc kf =
        let u = at_right (flat c) (wnod p (suc (size c)) ∷ flat f) t 0 (omega (arith, length-flat c)) in
        let v : suc (size c) ≡ n = cc in omega arith

-- ---- the records say the row
pub cut_here : {A : Type 0} (a b c d : List A) → length a ≡ length b → a ++ c ≡ b ++ d → (a ≡ b) × (c ≡ d)
cut_here [] [] c d l e = (refl, e)
cut_here [] (y ∷ b) c d l e = absurd (omega arith)
cut_here (x ∷ a) [] c d l e = absurd (omega arith)
cut_here (x ∷ a) (y ∷ b) c d l e =
    let z : a ++ c ≡ b ++ d = cc in
    let r = cut_here a b c d (omega arith) z in
    let u = r.0 in let v : x ≡ y = cc in (cc, r.1)

-- a first piece that ends at t in one row, and a later end in the other
late : (q : ℕ) (c r g : Row) (n : ℕ) → n < size c → flat c ++ (wnod q (suc (size c)) ∷ flat r) ≡ flat g → (l : List Word) (h : Row) → flat g ≡ l ++ flat h → length l ≡ suc n → ⊥
late q c r g n h e l k d z =
    let w = at_right (flat c) (wnod q (suc (size c)) ∷ flat r) (size c) 0 (omega (arith, length-flat c)) in
    let v = at_right l (flat k) (size c) (size c - suc n) (omega arith) in
    let u : get_elem? (flat k) (size c - suc n) ≡ some (wnod q (suc (size c))) = sym v ∙ ap (λ m. get_elem? m (size c)) (sym (e ∙ d)) ∙ w in
    omega (arith, bound k (size c - suc n) u)

pub same_words : (f g : Row) → flat f ≡ flat g → f ≡ g
same_words ∅ ∅ e = refl
same_words ∅ (tok x g) e = let z : ◌≡◌ {A = ℕ} 0 1 = cc in absurd (omega arith)
same_words ∅ (nod q c g) e = absurd (omega (arith, ap length e, length-append (flat c) (wnod q (suc (size c)) ∷ flat g)))
same_words (tok x f) ∅ e = let z : ◌≡◌ {A = ℕ} 0 1 = cc in absurd (omega arith)
same_words (tok x f) (tok y g) e = let r = same_words f g (cc) in let z : x ≡ y = cc in cc
same_words (tok x f) (nod q c g) e = by (size c) refl
  where
    by : (n : ℕ) → size c ≡ n → tok x f ≡ nod q c g
    by zero z = let u = at_right (flat c) (wnod q (suc (size c)) ∷ flat g) 0 0 (omega (arith, length-flat c)) in
        let v : some (wtok x) ≡ some (wnod q (suc (size c))) = ap (λ l. get_elem? l 0) e ∙ u in let y : ◌≡◌ {A = ℕ} 0 1 = cc in absurd (omega arith)
    by (suc n) z = absurd (late q c g (tok x f) 0 (omega arith) (sym e) (wtok x ∷ []) f refl refl)
same_words (nod q c f) ∅ e = absurd (omega (arith, ap length e, length-append (flat c) (wnod q (suc (size c)) ∷ flat f)))
same_words (nod q c f) (tok x g) e = by (size c) refl
  where
    by : (n : ℕ) → size c ≡ n → nod q c f ≡ tok x g
    by zero z = let u = at_right (flat c) (wnod q (suc (size c)) ∷ flat f) 0 0 (omega (arith, length-flat c)) in
        let v : some (wtok x) ≡ some (wnod q (suc (size c))) = ap (λ l. get_elem? l 0) (sym e) ∙ u in let y : ◌≡◌ {A = ℕ} 0 1 = cc in absurd (omega arith)
    by (suc n) z = absurd (late q c f (tok x g) 0 (omega arith) e (wtok x ∷ []) g refl refl)
same_words (nod q c f) (nod p d g) e = by (dec_lt (size c) (size d)) (dec_lt (size d) (size c)) (λ z. same_words c d z) (λ z. same_words f g z)
  where
    by : Dec (size c < size d) → Dec (size d < size c) → (flat c ≡ flat d → c ≡ d) → (flat f ≡ flat g → f ≡ g) → nod q c f ≡ nod p d g
    by (yes h) k kc kf = absurd (late p d g (nod q c f) (size c) h (sym e) (flat c ++ (wnod q (suc (size c)) ∷ [])) f (sym (append_assoc (flat c) (wnod q (suc (size c)) ∷ []) (flat f))) (omega (arith, length-flat c, length-append (flat c) (wnod q (suc (size c)) ∷ []))))
    by (no h) (yes k) kc kf = absurd (late q c f (nod p d g) (size d) k e (flat d ++ (wnod p (suc (size d)) ∷ [])) g (sym (append_assoc (flat d) (wnod p (suc (size d)) ∷ []) (flat g))) (omega (arith, length-flat d, length-append (flat d) (wnod p (suc (size d)) ∷ []))))
    by (no h) (no k) kc kf =
        let r = cut_here (flat c) (flat d) (wnod q (suc (size c)) ∷ flat f) (wnod p (suc (size d)) ∷ flat g) (omega (arith, length-flat c, length-flat d)) e in
        let s = r.1 in
        let u = kc r.0 in
        let v = kf (cc) in
        let w : q ≡ p = cc in cc
