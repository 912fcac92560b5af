-- Document 01, "Kept numbers": what the numbering answers is the one thing that the rule permits, and it is in order again; afresh,
-- all numbers are new and rise in written order. Assumes an old tree in order, and a new text with each old token at most as often.
use Rattle.std.specs.Prelude.{◌≡◌, refl, List, [], ◌∷◌, ℕ, suc, ◌+◌, ◌≤◌, ◌<◌, length}
use Rattle.std.proofs.Common.{sym, ap, ◌∙◌, subst, arith}
use Rattle.definitions.specs.Table.{Sym, nt, Table}
use Rattle.definitions.specs.Tree.{mk, Row, ∅, tok, nod, size, yield, toks, Der, d∅, dtok, dnod, NRow, ε, ntok, nnod, erase, Fit, nums}
use Rattle.definitions.specs.Numbers.{Sub, here, under, later, past, forget, news, Rises, Nothing, Cover, cε, ctok, ccopy, ckeep, cnew, Kept, the_same, by_rule}
use Rattle.theory.specs.Numbers.Number.{Verdict, new!, judge, number, renumber}
use Rattle.theory.specs.Numbers.Counting.{sub-size, length-nums}
use Rattle.theory.specs.Numbers.Seek.{numbered, unique}
use Rattle.theory.specs.Numbers.Rule.{forget_old, news-none, rises-length, Text, Fair, is_given, text-low}
use Rattle.theory.specs.Numbers.Order.{fits, derives}
use Rattle.theory.specs.Numbers.Base.{fair, answers, only, answer_fit, answer_derives}
use Rattle.theory.specs.Numbers.Unchanged.{unchanged}
use Rattle.theory.specs.Numbers.NewText.{text_blank, all_rise}
use Rattle.theory.specs.Numbers.Identities.{Blank}

pub size-forget : (n : ℕ) (f : Row) → size (forget n f) ≡ size f
size-forget n ∅ = refl
size-forget n (tok (mk k i) f) = ap suc (size-forget n f)
size-forget n (nod q c f) = omega (arith, size-forget n c, size-forget n f)

-- where an inner node of r has its number from: it is in a piece with tokens taken whole from the old tree, or its number is new
pub data Whence (old : NRow) (n q i : ℕ) (d r : NRow) : Type 0 where
  whole : {p j : ℕ} {e : NRow} → Sub p j e old → 0 < toks (erase e) → Sub p j e r → Sub q i d (nnod p j e ε) → Whence old n q i d r
  fresh : n ≤ i → Whence old n q i d r

whence_up : {old d c r : NRow} {n q i : ℕ} → ((p j : ℕ) (e : NRow) → Sub p j e c → Sub p j e r) → Whence old n q i d c → Whence old n q i d r
whence_up g (whole s t u v) = whole s t (g _ _ _ u) v
whence_up g (fresh h) = fresh h

pub cover_whence : {old : NRow} {n : ℕ} {r : NRow} → Cover old Nothing n r → {q i : ℕ} {d : NRow} → Sub q i d r → Whence old n q i d r
cover_whence cε s = elim s [ ]
cover_whence (ctok C) (past s) = whence_up (λ p j e u. past u) (cover_whence C s)
cover_whence (ccopy t l C) here = whole t l here here
cover_whence (ccopy t l C) (under s) = whole t l here (under s)
cover_whence (ccopy t l C) (later s) = whence_up (λ p j e u. later u) (cover_whence C s)
cover_whence (ckeep k C D) s = absurd k
cover_whence (cnew l C D) here = fresh l
cover_whence (cnew l C D) (under s) = whence_up (λ p j e u. under u) (cover_whence C s)
cover_whence (cnew l C D) (later s) = whence_up (λ p j e u. later u) (cover_whence D s)

module _ {n : ℕ} {old : NRow} (O : Fit n old) where
  -- the numbering follows the rule
  pub kept : (f : Row) → Text old f → Kept old Nothing n f (renumber (judge old) old n f).0 (renumber (judge old) old n f).1
  kept f t = answers old Nothing (judge old) (fair old O) n O f t

  -- and the rule permits nothing else
  pub kept_only : {f : Row} {r : NRow} {m : ℕ} → Kept old Nothing n f r m → ((renumber (judge old) old n f).0 ≡ r) × ((renumber (judge old) old n f).1 ≡ m)
  kept_only A = only old Nothing (judge old) (fair old O) n O A

  -- "numbers are distinct, at least 1 and below the next number"
  pub kept_fit : {f : Row} {r : NRow} {m : ℕ} → Text old f → Kept old Nothing n f r m → Fit m r
  kept_fit t A = answer_fit old Nothing (judge old) (fair old O) n O t A

  pub kept_derives : {G : Table} {f : Row} {r : NRow} {m : ℕ} {γ : List Sym} → Der G f γ → Kept old Nothing n f r m → Der G (erase r) γ
  kept_derives D A = answer_derives old Nothing (judge old) (fair old O) n O D A

  -- the tree is f, and its old tokens have their old numbers
  pub kept_text : {f : Row} {r : NRow} {m : ℕ} → Kept old Nothing n f r m → forget n (erase r) ≡ f
  kept_text (the_same a b) = forget_old n old (λ j l. omega (arith, O.below j l)) ∙ a
  kept_text (by_rule g R) = R.is_row

  pub kept_size : {f : Row} {r : NRow} {m : ℕ} → Kept old Nothing n f r m → size (erase r) ≡ size f
  kept_size {r = r} A = sym (size-forget n (erase r)) ∙ ap size (kept_text A)

  -- "Other nodes take the next number upward, in written order; the new next number is raised by exactly as many."
  pub kept_rises : {f : Row} {r : NRow} {m : ℕ} → Kept old Nothing n f r m → Rises n (news n r) m
  kept_rises (the_same a b) = subst (λ l. Rises n l n) (sym (news-none n old (λ j l. O.below j l))) refl
  kept_rises (by_rule g R) = R.rises

  pub kept_raised : {f : Row} {r : NRow} {m : ℕ} → Kept old Nothing n f r m → n + length (news n r) ≡ m
  kept_raised {r = r} {m = m} A = rises-length n m (news n r) (kept_rises A)

  -- "A new piece that has tokens and equals an old such piece takes that piece's numbers throughout."
  pub kept_whole : {f : Row} {r : NRow} {m : ℕ} → Kept old Nothing n f r m → {q i j : ℕ} {d e : NRow} → Sub q i d r → 0 < toks (erase d) → Sub q j e old → erase e ≡ erase d → (i ≡ j) × (d ≡ e)
  kept_whole (the_same a b) s l t z = unique s t (sym z) l O.low O.apart
  kept_whole (by_rule g R) s l t z = R.equal s l t z

  -- outside such pieces the numbers are new, unless the tree has no tokens and is the old one
  pub kept_new : {f : Row} {r : NRow} {m : ℕ} → ((erase old ≡ f) × (toks f ≡ 0) → ⊥) → Kept old Nothing n f r m → Cover old Nothing n r
  kept_new h (the_same a b) = absurd (h (a, b))
  kept_new h (by_rule g R) = R.others

  pub kept_whence : {f : Row} {r : NRow} {m : ℕ} → ((erase old ≡ f) × (toks f ≡ 0) → ⊥) → Kept old Nothing n f r m → {q i : ℕ} {d : NRow} → Sub q i d r → Whence old n q i d r
  kept_whence h A s = cover_whence (kept_new h A) s

-- ---- the same tree again: all numbers stand, and the next number
one-tree : {G : Table} {γ : List Sym} {B : ℕ} (r : NRow) → Der G (erase r) γ → γ ≡ nt B ∷ [] → (q i : ℕ) × (d : NRow) × (r ≡ nnod q i d ε)
one-tree ε d∅ z = let y : ◌≡◌ {A = ℕ} 0 1 = cc in absurd (omega arith)
one-tree (ntok k i f) (dtok D) z = let y : ◌≡◌ {A = ℕ} 0 1 = cc in absurd (omega arith)
one-tree (nnod q i d ε) (dnod P Dc d∅) z = (q, i, d, refl)
one-tree (nnod q i d (ntok k j f)) (dnod P Dc (dtok D)) z = let y : ◌≡◌ {A = ℕ} 0 1 = cc in absurd (omega arith)
one-tree (nnod q i d (nnod p j c f)) (dnod P Dc (dnod Q De D)) z = let y : ◌≡◌ {A = ℕ} 0 1 = cc in absurd (omega arith)

pub kept_unchanged : {G : Table} {B n : ℕ} {old : NRow} → Fit n old → Der G (erase old) (nt B ∷ []) → ((renumber (judge old) old n (erase old)).0 ≡ old) × ((renumber (judge old) old n (erase old)).1 ≡ n)
kept_unchanged {n = n} {old = old} O D = by old (one-tree old D refl) O
  where
    by : (r : NRow) → (q i : ℕ) × (d : NRow) × (r ≡ nnod q i d ε) → Fit n r → ((renumber (judge r) r n (erase r)).0 ≡ r) × ((renumber (judge r) r n (erase r)).1 ≡ n)
    by r t O =
        subst (λ x. ((renumber (judge x) x n (erase x)).0 ≡ x) × ((renumber (judge x) x n (erase x)).1 ≡ n)) (sym t.3)
        (let P : Fit n (nnod t.0 t.1 t.2 ε) = subst (Fit n) t.3 O in
        unchanged t.0 t.1 t.2 Nothing (judge (nnod t.0 t.1 t.2 ε)) (fair (nnod t.0 t.1 t.2 ε) P) n P)

-- ---- afresh: over no old tree, every node takes the next number
abbrev pub anew : ℕ → Row → Verdict
anew q c = new!

no_piece : {A : Type 0} {q i : ℕ} {d : NRow} → Sub q i d ε → A
no_piece s = absurd (omega (arith, sub-size s))

pub anew_fair : Fair ε Nothing anew
anew_fair = record {
  copies = λ {q} {i} {c} {d} e. let z : ◌≡◌ {A = ℕ} 0 1 = cc in absurd (omega arith);
  finds = λ {q} {i} {d} c s e h. no_piece s;
  keeps = λ {q} {i} {c} e. let z : ◌≡◌ {A = ℕ} 0 1 = cc in omega arith;
  owns = λ {q} {i} {c} k. absurd k;
  lone = λ {q} {i} {j} {c} k l. absurd k;
  fails = λ {q} {i} {c} e k. k;
  heir = λ {q} {i} {j} {d} s k. absurd k;
}

pub fit_ε : (n : ℕ) → 0 < n → Fit n ε
fit_ε n h = record { pos = h; low = refl; below = λ i l. refl; apart = λ i. omega arith }

module _ (f : Row) (b : Blank (yield f)) (n : ℕ) (h : 0 < n) where
  pub afresh-rises : Rises n (nums (number anew f n).0) (number anew f n).1
  afresh-rises = all_rise Nothing anew anew_fair (numbered anew f n) b

  pub afresh-text : forget n (erase (number anew f n).0) ≡ f
  afresh-text = is_given ε Nothing anew anew_fair n (fit_ε n h) (numbered anew f n) (omega arith) (text-low ε Nothing anew anew_fair n (fit_ε n h) f (text_blank ε f b))

  pub afresh-size : size (erase (number anew f n).0) ≡ size f
  afresh-size = sym (size-forget n (erase (number anew f n).0)) ∙ ap size afresh-text

  pub afresh_next : (number anew f n).1 ≡ n + size f
  afresh_next = omega (arith, rises-length n (number anew f n).1 (nums (number anew f n).0) afresh-rises, length-nums (number anew f n).0, afresh-size)

  pub afresh_fit : Fit (number anew f n).1 (number anew f n).0
  afresh_fit = fits ε Nothing anew anew_fair n (fit_ε n h) (numbered anew f n) (text_blank ε f b)

pub afresh_derives : {G : Table} {γ : List Sym} (f : Row) (n : ℕ) → 0 < n → Der G f γ → Der G (erase (number anew f n).0) γ
afresh_derives f n h D = derives ε Nothing anew anew_fair n (fit_ε n h) (numbered anew f n) D
