-- A numbering by a fair judgement meets the rule, is the only one that does, and is in order again.
use Rattle.std.specs.Prelude.{◌≡◌, refl, List, [], ◌∷◌, ℕ, zero, suc, ◌+◌, ◌≤◌, ◌<◌, length}
use Rattle.std.proofs.Common.{sym, ap, ◌∙◌, subst, arith}
use Rattle.std.proofs.Math.Decide.{ℕ_discrete, dec_le, dec_lt}
use Rattle.definitions.specs.Table.{Sym, Table}
use Rattle.definitions.specs.Tree.{mk, Row, ∅, tok, nod, Der, d∅, dtok, dnod, NRow, ε, ntok, nnod, erase, occ, toc, noc, eqn, toks, Fit}
use Rattle.definitions.specs.Numbers.{Sub, here, under, later, past, cut, forget, Rule, Cover, cε, ctok, ccopy, ckeep, cnew, news, Rises}
use Rattle.theory.specs.Numbers.Number.{Verdict, copy, keep, new! }
use Rattle.theory.specs.Numbers.Counting.{eqn_same, eqn_eq, eqn-other, ids, direct, among, deep, toc-ids, ids_split, sub-toc, sub-noc}
use Rattle.theory.specs.Numbers.Seek.{Numbering, n∅, nput, nold, ncopy, nkeep, nnew}
use Rattle.theory.specs.Numbers.Rule.{cut_below, cut_above, add_old, add_new, Text, Own, Fair, grows, in_turn, is_given, covers, equals, keeps_own, occ-news, news-none, rises_once, rises_above, rises_split, rises-length, text-low, head_below, piece_below, piece-forget}
use Rattle.theory.specs.Numbers.Owner.{Owned, owner}

module _ (old : NRow) (K : ℕ → ℕ → Row → Type 0) (J : ℕ → Row → Verdict) (F : Fair old K J) (a : ℕ) (O : Fit a old) where
  -- ---- old numbers in the new row
  pub old_toc : {n m : ℕ} {f : Row} {r : NRow} (i : ℕ) → 0 < i → i < a → Numbering J n f r m → a ≤ n → toc i r ≡ ids i f
  old_toc i p l n∅ h = refl
  old_toc i p l (nput {n = n} N) h = omega (arith, eqn-other {i = i} {j = n} (omega arith), eqn-other {i = i} {j = 0} (omega arith), old_toc i p l N (omega arith))
  old_toc i p l (nold N) h = omega (arith, old_toc i p l N h)
  old_toc i p l (ncopy {d = d} e N) h = let s = F.copies e in omega (arith, toc-ids i d, ap (ids i) s.1, old_toc i p l N h)
  old_toc i p l (nkeep e M N) h = omega (arith, old_toc i p l M h, old_toc i p l N (omega (arith, grows old K J F a O M)))
  old_toc i p l (nnew e M N) h = omega (arith, old_toc i p l M h, old_toc i p l N (omega (arith, grows old K J F a O M)))

  pub low-toc : {n m : ℕ} {f : Row} {r : NRow} → Numbering J n f r m → a ≤ n → toc 0 r ≡ 0
  low-toc n∅ h = refl
  low-toc (nput {n = n} N) h = omega (arith, eqn-other {i = 0} {j = n} (omega (arith, O.pos)), low-toc N (omega arith))
  low-toc (nold {i = i} N) h = omega (arith, eqn-other {i = 0} {j = suc i} (omega arith), low-toc N h)
  low-toc (ncopy {d = d} e N) h = let s = F.copies e in omega (arith, sub-toc 0 s.0, O.low, low-toc N h)
  low-toc (nkeep e M N) h = omega (arith, low-toc M h, low-toc N (omega (arith, grows old K J F a O M)))
  low-toc (nnew e M N) h = omega (arith, low-toc M h, low-toc N (omega (arith, grows old K J F a O M)))

  -- an inner number below a that the old tree has not on an inner node is not on a new one
  pub no_noc : {n m : ℕ} {f : Row} {r : NRow} (i : ℕ) → i < a → noc i old ≡ 0 → Numbering J n f r m → a ≤ n → noc i r ≡ 0
  no_noc i l z n∅ h = refl
  no_noc i l z (nput N) h = no_noc i l z N (omega arith)
  no_noc i l z (nold N) h = no_noc i l z N h
  no_noc i l z (ncopy e N) h = let s = F.copies e in omega (arith, sub-noc i s.0, no_noc i l z N h)
  no_noc i l z (nkeep {i = j} e M N) h =
      let w = F.owns (F.keeps e) in omega (arith, sub-noc i w.old_node, no_noc i l z M h, no_noc i l z N (omega (arith, grows old K J F a O M)))
  no_noc i l z (nnew {m = m} e M N) h =
      let g = grows old K J F a O M in omega (arith, eqn-other {i = i} {j = m} (omega arith), no_noc i l z M h, no_noc i l z N (omega arith))

  owned_sub : {q j : ℕ} {d r : NRow} (i x : ℕ) → Sub q j d r → Owned i x r
      → (0 < toks (erase d) → noc i d + eqn i j ≤ ids x (erase d)) × (i ≡ j → 0 < length (direct (erase d)) → 0 < among x (direct (erase d)))
  owned_sub i x here o = (o.0, o.1)
  owned_sub i x (under s) o = owned_sub i x s o.2
  owned_sub i x (later s) o = owned_sub i x s o.3
  owned_sub i x (past s) o = owned_sub i x s o

  -- an inner number stands no more often than its owner
  pub old_noc : {n m : ℕ} {f : Row} {r : NRow} (i x : ℕ) → i < a → Owned i x old → Numbering J n f r m → a ≤ n → noc i r ≤ deep x f
  old_noc i x l o n∅ h = omega arith
  old_noc i x l o (nput N) h = old_noc i x l o N (omega arith)
  old_noc i x l o (nold N) h = old_noc i x l o N h
  old_noc i x l o (ncopy {c = c} e N) h =
      let s = F.copies e in
      let t : 0 < toks c = s.2 in
      omega (arith, (owned_sub i x s.0 o).0 (rw s.1 t), ap (ids x) s.1, old_noc i x l o N h)
  old_noc i x l o (nkeep {m = m} {i = j} {c = c} {f = f} {r = r} {s = s} e M N) h = by (F.owns (F.keeps e)) (ℕ_discrete i j) (old_noc i x l o M h) (old_noc i x l o N (omega (arith, grows old K J F a O M)))
    where
      by : {q : ℕ} → Own old q j c → Dec (i ≡ j) → noc i r ≤ deep x c → noc i s ≤ deep x f → noc i r + (eqn i j + noc i s) ≤ ids x c + deep x f
      by w (yes z) u v =
          omega (arith, eqn_eq z, ids_split x c, ap (among x) w.tokens, (owned_sub i x w.old_node o).1 z (rw w.tokens w.some))
      by w (no z) u v = omega (arith, eqn-other z, ids_split x c)
  old_noc i x l o (nnew {m = m} {c = c} e M N) h =
      let g = grows old K J F a O M in omega (arith, eqn-other {i = i} {j = m} (omega arith), ids_split x c, old_noc i x l o M h, old_noc i x l o N (omega arith))

  -- distinct, at least 1, below the new next number
  pub fits : {m : ℕ} {f : Row} {r : NRow} → Numbering J a f r m → Text old f → Fit m r
  fits {m} {f} {r} N t = record { pos = omega (arith, O.pos, up); low = low; below = λ i h. omega (arith, occ-news a i r (omega (arith, up)), rises_above i a m (news a r) ris h); apart = λ i. by i (dec_le a i) (dec_lt 0 i) (dec_lt 0 (noc i old)) }
    where
      up : a ≤ m
      up = grows old K J F a O N

      ris : Rises a (news a r) m
      ris = in_turn old K J F a O N (omega arith) (text-low old K J F a O f t)

      low : occ 0 r ≡ 0
      low = omega (arith, low-toc N (omega arith), no_noc 0 O.pos (omega (arith, O.low)) N (omega arith))

      by : (i : ℕ) → Dec (a ≤ i) → Dec (0 < i) → Dec (0 < noc i old) → occ i r ≤ 1
      by i (yes h) p z = omega (arith, occ-news a i r h, rises_once i a m (news a r) ris)
      by i (no h) (no p) z = let e : i ≡ 0 = omega arith in rw e (omega (arith, low))
      by i (no h) (yes p) (no z) = omega (arith, old_toc i p (omega arith) N (omega arith), t i p, O.apart i, no_noc i (omega arith) (omega arith) N (omega arith))
      by i (no h) (yes p) (yes z) =
          let o = owner i old O.low (omega (arith, O.apart i)) in
          omega (arith, old_toc i p (omega arith) N (omega arith), t i p, O.apart i, old_noc i o.0 (omega arith) o.2 N (omega arith), ids_split o.0 f, t o.0 o.1, O.apart o.0)

  -- kinds are the given row's
  pub derives : {G : Table} {n m : ℕ} {f : Row} {r : NRow} {γ : List Sym} → Numbering J n f r m → Der G f γ → Der G (erase r) γ
  derives n∅ d∅ = d∅
  derives (nput N) (dtok D) = dtok (derives N D)
  derives (nold N) (dtok D) = dtok (derives N D)
  derives {G} (ncopy e N) (dnod {q = q} P Dc D) = dnod P (subst (λ x. Der G x (G.rhs q)) (sym (F.copies e).1) Dc) (derives N D)
  derives (nkeep e M N) (dnod P Dc D) = dnod P (derives M Dc) (derives N D)
  derives (nnew e M N) (dnod P Dc D) = dnod P (derives M Dc) (derives N D)

  -- the rule
  pub obeys : {m : ℕ} {f : Row} {r : NRow} → Numbering J a f r m → Text old f → Rule old K a f r m
  obeys {f = f} N t =
      let l = text-low old K J F a O f t in
      record {
        is_row = is_given old K J F a O N (omega arith) l;
        low = (fits N t).low;
        equal = λ {q} {i} {j} {d} {e}. equals old K J F a O N (omega arith) l;
        own = λ {q} {i} {j} {d}. keeps_own old K J F a O N (omega arith) l;
        others = covers old K J F a O N (omega arith) l;
        rises = in_turn old K J F a O N (omega arith) l;
      }

  -- ---- the rule leaves one answer
  unforget : (r d : NRow) → toc 0 d ≡ 0 → forget a (erase r) ≡ erase d → erase r ≡ erase d
  unforget ε d z e = e
  unforget (ntok k i f) ε z e = cc
  unforget (ntok k i f) (ntok l j g) z e = by (dec_lt i a) (unforget f g (omega arith) (cc))
    where
      by : Dec (i < a) → erase f ≡ erase g → tok (mk k i) (erase f) ≡ tok (mk l j) (erase g)
      by (yes h) y = let u = cut_below h in cc
      by (no h) y = let u = cut_above {n = a} {i = i} (omega arith) in let v : 0 ≡ j = cc in absurd (omega (arith, eqn_eq v))
  unforget (ntok k i f) (nnod q j c g) z e = cc
  unforget (nnod q i c f) ε z e = cc
  unforget (nnod q i c f) (ntok l j g) z e = cc
  unforget (nnod q i c f) (nnod p j d g) z e = let u = unforget c d (omega arith) (cc) in let v = unforget f g (omega arith) (cc) in cc

  toks-forget : (f : Row) → toks (forget a f) ≡ toks f
  toks-forget ∅ = refl
  toks-forget (tok (mk k i) f) = ap suc (toks-forget f)
  toks-forget (nod q c f) = omega (arith, toks-forget c, toks-forget f)

  record Equal (r : NRow) : Type 0 where
    at : {q i j : ℕ} {d e : NRow} → Sub q i d r → 0 < toks (erase d) → Sub q j e old → erase e ≡ erase d → (i ≡ j) × (d ≡ e)

  record Owning (r : NRow) : Type 0 where
    at : {q i j : ℕ} {d : NRow} → Sub q i d r → K q j (forget a (erase d)) → i ≡ j

  -- a new piece judged a copy is that old piece
  is_copy : {q i j : ℕ} {c d f : NRow} → Equal (nnod q i c f) → J q (forget a (erase c)) ≡ copy j d → Sub q j d old × (i ≡ j) × (c ≡ d)
  is_copy {c = c} {d = d} E e =
      let s = F.copies e in
      let u = unforget c d (omega (arith, sub-toc 0 s.0, O.low)) (sym s.1) in
      let v = E.at here (omega (arith, s.2, toks-forget (erase c))) s.0 (sym u) in (s.0, v.0, v.1)

  forced : {n m : ℕ} {r : NRow} → Cover old K a r → a ≤ n → occ 0 r ≡ 0 → Equal r → Owning r → Rises n (news a r) m → Numbering J n (forget a (erase r)) r m
  forced {n} {m} cε h z E W R = subst (λ x. Numbering J n ∅ ε x) R n∅
  forced (ctok {i = zero} C) h z E W R = absurd (omega (arith, eqn_same 0))
  forced {n} {m} (ctok {k = k} {i = suc i} {f = f} C) h z E W R =
      by (dec_lt (suc i) a) (λ n h R. forced C h (omega arith) (record { at = λ {q} {i} {j} {d} {e} s. E.at (past s) }) (record { at = λ {q} {i} {j} {d} s. W.at (past s) }) R)
    where
      by : Dec (suc i < a) → ((n : ℕ) → a ≤ n → Rises n (news a f) m → Numbering J n (forget a (erase f)) f m) → Numbering J n (tok (mk k (cut a (suc i))) (forget a (erase f))) (ntok k (suc i) f) m
      by (yes l) k = rw (cut_below l) (nold (k n h (rw (add_old (news a f) l) at R)))
      by (no l) k =
          let g : a ≤ suc i = omega arith in
          let Q = rw (add_new (news a f) g) at R in
          rw (cut_above g, Q.0) (nput (k (suc n) (omega arith) Q.1))
  forced {n} {m} (ccopy {q = q} {i = i} {d = d} {f = f} s t C) h z E W R =
      rw (piece-forget old K J F a O s) (ncopy (F.finds (erase d) s refl t) (forced C h (omega arith) (record { at = λ {q} {i} {j} {d} {e} s. E.at (later s) }) (record { at = λ {q} {i} {j} {d} s. W.at (later s) }) (rw (news-none a d (piece_below old K J F a O s), add_old (news a f) (head_below old K J F a O s)) at R)))
  forced {n} {m} (ckeep {q = q} {i = i} {c = c} {f = f} k C D) h z E W R =
      by (J q (forget a (erase c))) refl (λ o R. forced C h (omega arith) (record { at = λ {q} {i} {j} {d} {e} s. E.at (under s) }) (record { at = λ {q} {i} {j} {d} s. W.at (under s) }) R) (λ n h R. forced D h (omega arith) (record { at = λ {q} {i} {j} {d} {e} s. E.at (later s) }) (record { at = λ {q} {i} {j} {d} s. W.at (later s) }) R)
    where
      by : (v : Verdict) → J q (forget a (erase c)) ≡ v → ((o : ℕ) → Rises n (news a c) o → Numbering J n (forget a (erase c)) c o) → ((n : ℕ) → a ≤ n → Rises n (news a f) m → Numbering J n (forget a (erase f)) f m)
          → Numbering J n (nod q (forget a (erase c)) (forget a (erase f))) (nnod q i c f) m
      by (copy j d) e kc kf =
          let s = is_copy {q = q} {i = i} {c = c} {f = f} E e in
          let x : i < a = omega (arith, s.1, head_below old K J F a O s.0) in
          let y : news a c ≡ [] = ap (news a) s.2 ∙ news-none a d (piece_below old K J F a O s.0) in
          let u = s.1 in
          let v = s.2 in
          let g : J q (forget a (erase c)) ≡ copy i c = cc in
          ncopy g (kf n h (rw (y, add_old (news a f) x) at R))
      by (keep j) e kc kf =
          let y : i ≡ j = W.at here (F.keeps e) in
          let w = F.owns (F.keeps e) in
          let x : i < a = omega (arith, y, head_below old K J F a O w.old_node) in
          let p = rises_split n m (news a c) (news a f) (rw (add_old (news a f) x) at R) in
          let g : J q (forget a (erase c)) ≡ keep i = cc in
          nkeep g (kc p.0 p.1) (kf p.0 (omega (arith, rises-length n p.0 (news a c) p.1)) p.2)
      by new! e kc kf = absurd (F.fails e k)
  forced {n} {m} (cnew {q = q} {i = i} {c = c} {f = f} l C D) h z E W R =
      by (J q (forget a (erase c))) refl (λ o R. forced C h (omega arith) (record { at = λ {q} {i} {j} {d} {e} s. E.at (under s) }) (record { at = λ {q} {i} {j} {d} s. W.at (under s) }) R) (λ n h R. forced D h (omega arith) (record { at = λ {q} {i} {j} {d} {e} s. E.at (later s) }) (record { at = λ {q} {i} {j} {d} s. W.at (later s) }) R)
    where
      by : (v : Verdict) → J q (forget a (erase c)) ≡ v → ((o : ℕ) → Rises n (news a c) o → Numbering J n (forget a (erase c)) c o) → ((n : ℕ) → a ≤ n → Rises n (news a f) m → Numbering J n (forget a (erase f)) f m)
          → Numbering J n (nod q (forget a (erase c)) (forget a (erase f))) (nnod q i c f) m
      by (copy j d) e kc kf =
          let s = is_copy {q = q} {i = i} {c = c} {f = f} E e in absurd (omega (arith, s.1, head_below old K J F a O s.0))
      by (keep j) e kc kf =
          let y : i ≡ j = W.at here (F.keeps e) in
          let w = F.owns (F.keeps e) in absurd (omega (arith, y, head_below old K J F a O w.old_node))
      by new! e kc kf =
          let p = rises_split n m (news a c) (i ∷ news a f) (rw (add_new (news a f) l) at R) in
          rw p.2.0 (nnew e (kc p.0 p.1) (kf (suc p.0) (omega (arith, rises-length n p.0 (news a c) p.1)) p.2.1))

  pub ruled : {m : ℕ} {f : Row} {r : NRow} → Rule old K a f r m → Numbering J a f r m
  ruled {m} {f} {r} R = subst (λ x. Numbering J a x r m) R.is_row (forced R.others (omega arith) R.low (record { at = R.equal }) (record { at = R.own }) R.rises)

pub one_numbering : {J : ℕ → Row → Verdict} {n m o : ℕ} {f : Row} {r s : NRow} → Numbering J n f r m → Numbering J n f s o → (r ≡ s) × (m ≡ o)
one_numbering n∅ n∅ = (refl, refl)
one_numbering (nput N) (nput M) = let u = one_numbering N M in (rw u.0 refl, u.1)
one_numbering (nold N) (nold M) = let u = one_numbering N M in (rw u.0 refl, u.1)
one_numbering (ncopy e N) (ncopy d M) = let u = one_numbering N M in let v = u.0 in (cc, u.1)
one_numbering (ncopy e N) (nkeep d M L) = let z : ◌≡◌ {A = ℕ} 0 1 = cc in absurd (omega arith)
one_numbering (ncopy e N) (nnew d M L) = let z : ◌≡◌ {A = ℕ} 0 1 = cc in absurd (omega arith)
one_numbering (nkeep d M L) (ncopy e N) = let z : ◌≡◌ {A = ℕ} 0 1 = cc in absurd (omega arith)
one_numbering {J} (nkeep {f = f} e M L) (nkeep {o = o} {s = s} d N P) =
    let u = one_numbering M N in
    let w = one_numbering L (subst (λ x. Numbering J x f s o) (sym u.1) P) in
    let x = u.0 in let y = w.0 in (cc, w.1)
one_numbering (nkeep d M L) (nnew e N P) = let z : ◌≡◌ {A = ℕ} 0 1 = cc in absurd (omega arith)
one_numbering (nnew d M L) (ncopy e N) = let z : ◌≡◌ {A = ℕ} 0 1 = cc in absurd (omega arith)
one_numbering (nnew d M L) (nkeep e N P) = let z : ◌≡◌ {A = ℕ} 0 1 = cc in absurd (omega arith)
one_numbering {J} (nnew {f = f} e M L) (nnew {o = o} {s = s} d N P) =
    let u = one_numbering M N in
    let w = one_numbering L (subst (λ x. Numbering J (suc x) f s o) (sym u.1) P) in
    let x = u.0 in let y = w.0 in let v = u.1 in (cc, w.1)
