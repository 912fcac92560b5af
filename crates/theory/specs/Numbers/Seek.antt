-- The numbering of a row as a relation; the search for an equal old piece is sound and complete, and finds the only one.
use Rattle.std.specs.Prelude.{◌≡◌, ℕ, zero, suc, ◌≤◌, ◌<◌}
use Rattle.std.proofs.Math.Path.{refl}
use Rattle.std.proofs.Common.{sym, ap, ◌∙◌, subst, arith}
use Rattle.std.proofs.Math.Decide.{ℕ_discrete}
use Rattle.definitions.specs.Tree.{mk, Row, ∅, tok, nod, size, NRow, ε, ntok, nnod, erase, occ, toks}
use Rattle.theory.specs.Decide.{and_d, row_d}
use Rattle.definitions.specs.Numbers.{Sub, here, under, later, past}
use Rattle.theory.specs.Numbers.Number.{Verdict, copy, keep, new!, or_else, when, seek, put, number}
use Rattle.theory.specs.Numbers.Counting.{ids, toc-ids, sub-toc, sub-noc, sub-size, some_token}

module _ (J : ℕ → Row → Verdict) where
  pub data Numbering : ℕ → Row → NRow → ℕ → Type 0 where
    n∅ : {n : ℕ} → Numbering n ∅ ε n
    nput : {n m k : ℕ} {f : Row} {r : NRow} → Numbering (suc n) f r m → Numbering n (tok (mk k zero) f) (ntok k n r) m
    nold : {n m k i : ℕ} {f : Row} {r : NRow} → Numbering n f r m → Numbering n (tok (mk k (suc i)) f) (ntok k (suc i) r) m
    ncopy : {n m q i : ℕ} {c f : Row} {d r : NRow} → J q c ≡ copy i d → Numbering n f r m → Numbering n (nod q c f) (nnod q i d r) m
    nkeep : {n m o q i : ℕ} {c f : Row} {r s : NRow} → J q c ≡ keep i → Numbering n c r m → Numbering m f s o → Numbering n (nod q c f) (nnod q i r s) o
    nnew : {n m o q : ℕ} {c f : Row} {r s : NRow} → J q c ≡ new! → Numbering n c r m → Numbering (suc m) f s o → Numbering n (nod q c f) (nnod q m r s) o

  pub numbered : (f : Row) (n : ℕ) → Numbering n f (number J f n).0 (number J f n).1
  unfolding number
  numbered ∅ n = n∅
  numbered (tok (mk k zero) f) n = nput (numbered f (suc n))
  numbered (tok (mk k (suc i)) f) n = nold (numbered f n)
  numbered (nod q c f) n = by (J q c) refl (λ m. numbered c m) (λ m. numbered f m)
    where
      by : (v : Verdict) → J q c ≡ v → ((m : ℕ) → Numbering m c (number J c m).0 (number J c m).1) → ((m : ℕ) → Numbering m f (number J f m).0 (number J f m).1)
          → Numbering n (nod q c f) (put q v (number J c) (number J f) n).0 (put q v (number J c) (number J f) n).1
      by (copy i d) e kc kf = ncopy e (kf n)
      by (keep i) e kc kf = nkeep e (kc n) (kf (number J c n).1)
      by new! e kc kf = nnew e (kc n) (kf (suc (number J c n).1))

-- ---- the search is sound and complete
pub seek_sound : (q : ℕ) (c : Row) (old : NRow) {i : ℕ} {d : NRow} → seek q c old ≡ copy i d → Sub q i d old × (erase d ≡ c)
seek_sound q c ε e = let z : ◌≡◌ {A = ℕ} 0 1 = cc in absurd (omega arith)
seek_sound q c (ntok k j f) e = let r = seek_sound q c f e in (past r.0, r.1)
seek_sound q c (nnod p j b f) {i} {d} e = by (and_d (ℕ_discrete p q) (row_d (erase b) c)) (seek q c b) (λ z. seek_sound q c b z) (λ z. seek_sound q c f z) e
  where
    by : (t : Dec ((p ≡ q) × (erase b ≡ c))) (v : Verdict) → (v ≡ copy i d → Sub q i d b × (erase d ≡ c)) → (seek q c f ≡ copy i d → Sub q i d f × (erase d ≡ c))
        → or_else (when t (copy j b)) (or_else v (seek q c f)) ≡ copy i d → Sub q i d (nnod p j b f) × (erase d ≡ c)
    by (yes h) v kb kf e =
        let a : j ≡ i = cc in
        let g : b ≡ d = cc in
        let s : Sub q j b (nnod q j b f) = here in
        (subst (λ x. Sub q i d (nnod x j b f)) (sym h.0) (subst (λ x. Sub q i x (nnod q j b f)) g (subst (λ x. Sub q x b (nnod q j b f)) a s)), ap erase (sym g) ∙ h.1)
    by (no h) (copy l x) kb kf e = let r = kb e in (under r.0, r.1)
    by (no h) (keep l) kb kf e = let z : ◌≡◌ {A = ℕ} 0 1 = cc in absurd (omega arith)
    by (no h) new! kb kf e = let r = kf e in (later r.0, r.1)

pub seek-keep : (q : ℕ) (c : Row) (old : NRow) {i : ℕ} → seek q c old ≡ keep i → ⊥
seek-keep q c ε e = let z : ◌≡◌ {A = ℕ} 0 1 = cc in omega arith
seek-keep q c (ntok k j f) e = seek-keep q c f e
seek-keep q c (nnod p j b f) {i} e = by (and_d (ℕ_discrete p q) (row_d (erase b) c)) (seek q c b) (λ z. seek-keep q c b z) (λ z. seek-keep q c f z) e
  where
    by : (t : Dec ((p ≡ q) × (erase b ≡ c))) (v : Verdict) → (v ≡ keep i → ⊥) → (seek q c f ≡ keep i → ⊥) → or_else (when t (copy j b)) (or_else v (seek q c f)) ≡ keep i → ⊥
    by (yes h) v kb kf e = let z : ◌≡◌ {A = ℕ} 0 1 = cc in omega arith
    by (no h) (copy l x) kb kf e = kb e
    by (no h) (keep l) kb kf e = kb e
    by (no h) new! kb kf e = kf e

pub seek-none : {q i : ℕ} {d old : NRow} (c : Row) → Sub q i d old → erase d ≡ c → seek q c old ≡ new! → ⊥
seek-none {q} {i} {d} c (here {f = f}) e z = by (and_d (ℕ_discrete q q) (row_d (erase d) c)) z
  where
    by : (t : Dec ((q ≡ q) × (erase d ≡ c))) → or_else (when t (copy i d)) (or_else (seek q c d) (seek q c f)) ≡ new! → ⊥
    by (yes h) z = let y : ◌≡◌ {A = ℕ} 0 1 = cc in omega arith
    by (no h) z = h (refl, e)
seek-none {q} c (under {p = p} {j = j} {c = b} {f = f} s) e z = by (and_d (ℕ_discrete p q) (row_d (erase b) c)) (seek q c b) (λ y. seek-none c s e y) z
  where
    by : (t : Dec ((p ≡ q) × (erase b ≡ c))) (v : Verdict) → (v ≡ new! → ⊥) → or_else (when t (copy j b)) (or_else v (seek q c f)) ≡ new! → ⊥
    by (yes h) v k z = let y : ◌≡◌ {A = ℕ} 0 1 = cc in omega arith
    by (no h) (copy l x) k z = k z
    by (no h) (keep l) k z = k z
    by (no h) new! k z = k refl
seek-none {q} c (later {p = p} {j = j} {c = b} {f = f} s) e z = by (and_d (ℕ_discrete p q) (row_d (erase b) c)) (seek q c b) (λ y. seek-none c s e y) z
  where
    by : (t : Dec ((p ≡ q) × (erase b ≡ c))) (v : Verdict) → (seek q c f ≡ new! → ⊥) → or_else (when t (copy j b)) (or_else v (seek q c f)) ≡ new! → ⊥
    by (yes h) v k z = let y : ◌≡◌ {A = ℕ} 0 1 = cc in omega arith
    by (no h) (copy l x) k z = let y : ◌≡◌ {A = ℕ} 0 1 = cc in omega arith
    by (no h) (keep l) k z = let y : ◌≡◌ {A = ℕ} 0 1 = cc in omega arith
    by (no h) new! k z = k z
seek-none c (past s) e z = seek-none c s e z

-- ---- at most one old piece equals a given piece with tokens

-- also of two productions: they are then one
unique_at : {q p i j : ℕ} {d e r : NRow} → Sub q i d r → Sub p j e r → erase d ≡ erase e → 0 < toks (erase d) → occ 0 r ≡ 0 → ((x : ℕ) → occ x r ≤ 1) → (i ≡ j) × (d ≡ e)
unique_at here here z h l a = (refl, refl)
unique_at here (under t) z h l a = absurd (omega (arith, sub-size t, ap size z))
unique_at {d = d} {e = e} here (later t) z h l a =
    let x = some_token d (omega arith) h in
    absurd (omega (arith, x.2, toc-ids x.0 d, toc-ids x.0 e, ap (ids x.0) z, sub-toc x.0 t, a x.0))
unique_at (under s) here z h l a = absurd (omega (arith, sub-size s, ap size z))
unique_at (under s) (under t) z h l a = unique_at s t z h (omega arith) (λ x. omega (arith, a x))
unique_at {d = d} {e = e} (under {c = c} {f = f} s) (later t) z h l a =
    let x = some_token d (omega (arith, sub-toc 0 s, sub-noc 0 s)) h in
    absurd (omega (arith, x.2, toc-ids x.0 d, toc-ids x.0 e, ap (ids x.0) z, sub-toc x.0 s, sub-toc x.0 t, a x.0))
unique_at {d = d} {e = e} (later s) here z h l a =
    let x = some_token d (omega (arith, sub-toc 0 s, sub-noc 0 s)) h in
    absurd (omega (arith, x.2, toc-ids x.0 d, toc-ids x.0 e, ap (ids x.0) z, sub-toc x.0 s, a x.0))
unique_at {d = d} {e = e} (later {c = c} {f = f} s) (under t) z h l a =
    let x = some_token d (omega (arith, sub-toc 0 s, sub-noc 0 s)) h in
    absurd (omega (arith, x.2, toc-ids x.0 d, toc-ids x.0 e, ap (ids x.0) z, sub-toc x.0 s, sub-toc x.0 t, a x.0))
unique_at (later s) (later t) z h l a = unique_at s t z h (omega arith) (λ x. omega (arith, a x))
unique_at (past s) (past t) z h l a = unique_at s t z h (omega arith) (λ x. omega (arith, a x))

pub unique : {q i j : ℕ} {d e r : NRow} → Sub q i d r → Sub q j e r → erase d ≡ erase e → 0 < toks (erase d) → occ 0 r ≡ 0 → ((x : ℕ) → occ x r ≤ 1) → (i ≡ j) × (d ≡ e)
unique s t = unique_at s t
