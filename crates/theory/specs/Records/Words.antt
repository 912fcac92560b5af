-- The words say the tree; and the numbers come from one forward pass over what each record keeps.
use Rattle.std.specs.Prelude.{◌≡◌, ℕ, zero, suc, ◌+◌, ◌-◌, ◌<◌}
use Rattle.std.proofs.Math.Path.{refl, ap}
use Rattle.std.proofs.Common.{sym, ◌∙◌, arith}
use mathlib.Core.List.{List, [], ◌∷◌, ◌++◌, append_assoc, append-nil}
use Rattle.std.proofs.Math.Option.{Option, none, some}
use Rattle.std.proofs.Math.Decide.{dec_lt}
use Rattle.definitions.specs.Tree.{mk, Row, ∅, tok, nod, size, NRow, ε, ntok, nnod, erase, words, written, nums}
use Rattle.theory.specs.Numbers.Number.{Verdict, copy, keep, new! }
use Rattle.theory.specs.Numbers.Counting.{length-nums}
use Rattle.theory.specs.Numbers.Seek.{Numbering, n∅, nput, nold, ncopy, nkeep, nnew}
use Rattle.theory.specs.Records.Flat.{Word, wtok, wnod}
use Rattle.theory.specs.Records.Stand.{cut_here, same_words}
use Rattle.theory.specs.Records.Scan.{recs}
use Rattle.theory.specs.Tree.Build.{Small}

abbrev pub sort : {A : Type 0} → Dec A → ℕ → ℕ → ℕ → Word
sort (yes h) k i s = wtok (mk k i)
sort (no h) k i s = wnod (k - 256) s

unfoldable pub word : ℕ → ℕ → ℕ → Word
word k i s = sort (dec_lt k 256) k i s

sort_yes : {A : Type 0} (d : Dec A) (k i s : ℕ) → A → sort d k i s ≡ wtok (mk k i)
sort_yes (yes h) k i s a = refl
sort_yes (no h) k i s a = absurd (h a)

sort_no : {A : Type 0} (d : Dec A) (k i s : ℕ) → (A → ⊥) → sort d k i s ≡ wnod (k - 256) s
sort_no (yes h) k i s a = absurd (a h)
sort_no (no h) k i s a = refl

word_tok : (k i s : ℕ) → k < 256 → word k i s ≡ wtok (mk k i)
unfolding word
word_tok k i s h = sort_yes (dec_lt k 256) k i s h

word_nod : (q i s : ℕ) → word (256 + q) i s ≡ wnod q s
unfolding word
word_nod q i s = let z : 256 + q - 256 ≡ q = omega arith in sort_no (dec_lt (256 + q) 256) (256 + q) i s (omega arith) ∙ ap (λ x. wnod x s) z

-- the records of a row of words, and their numbers
abbrev pub unword : List ℕ → List Word
unword [] = []
unword (k ∷ []) = []
unword (k ∷ i ∷ []) = []
unword (k ∷ i ∷ s ∷ l) = word k i s ∷ unword l

abbrev pub numbers : List ℕ → List ℕ
numbers [] = []
numbers (k ∷ []) = []
numbers (k ∷ i ∷ []) = []
numbers (k ∷ i ∷ s ∷ l) = i ∷ numbers l

unword-words : (r : NRow) (l : List ℕ) → Small r → unword (words r ++ l) ≡ recs r ++ unword l
unword-words ε l s = refl
unword-words (ntok k i f) l s = rw (word_tok k i 1 s.0, unword-words f l s.1) refl
unword-words (nnod q i c f) l s =
    ap unword (append_assoc (words c) ((256 + q) ∷ i ∷ suc (size (erase c)) ∷ words f) l)
    ∙ unword-words c ((256 + q) ∷ i ∷ suc (size (erase c)) ∷ (words f ++ l)) s.0
    ∙ rw (word_nod q i (suc (size (erase c))), unword-words f l s.1) (sym (append_assoc (recs c) (wnod q (suc (size (erase c))) ∷ recs f) (unword l)))

numbers-words : (r : NRow) (l : List ℕ) → numbers (words r ++ l) ≡ nums r ++ numbers l
numbers-words ε l = refl
numbers-words (ntok k i f) l = ap (i ∷◌) (numbers-words f l)
numbers-words (nnod q i c f) l =
    ap numbers (append_assoc (words c) ((256 + q) ∷ i ∷ suc (size (erase c)) ∷ words f) l)
    ∙ numbers-words c ((256 + q) ∷ i ∷ suc (size (erase c)) ∷ (words f ++ l))
    ∙ rw (numbers-words f l) (sym (append_assoc (nums c) (i ∷ nums f) (numbers l)))

-- the shape and the numbers are the tree
pub same_tree : (r s : NRow) → erase r ≡ erase s → nums r ≡ nums s → r ≡ s
same_tree ε ε e n = refl
same_tree ε (ntok k i s) e n = let z : ◌≡◌ {A = ℕ} 0 1 = cc in absurd (omega arith)
same_tree ε (nnod q i c s) e n = let z : ◌≡◌ {A = ℕ} 0 1 = cc in absurd (omega arith)
same_tree (ntok k i r) ε e n = let z : ◌≡◌ {A = ℕ} 0 1 = cc in absurd (omega arith)
same_tree (ntok k i r) (ntok l j s) e n = let u = same_tree r s (cc) (cc) in let v : k ≡ l = cc in let w : i ≡ j = cc in cc
same_tree (ntok k i r) (nnod q j c s) e n = let z : ◌≡◌ {A = ℕ} 0 1 = cc in absurd (omega arith)
same_tree (nnod q i c r) ε e n = let z : ◌≡◌ {A = ℕ} 0 1 = cc in absurd (omega arith)
same_tree (nnod q i c r) (ntok k j s) e n = let z : ◌≡◌ {A = ℕ} 0 1 = cc in absurd (omega arith)
same_tree (nnod q i c r) (nnod p j d s) e n =
    let a : erase c ≡ erase d = cc in
    let b : erase r ≡ erase s = cc in
    let v : q ≡ p = cc in
    let t = cut_here (nums c) (nums d) (i ∷ nums r) (j ∷ nums s) (omega (arith, length-nums c, length-nums d, ap size a)) n in
    let g = t.1 in
    let w : i ≡ j = cc in
    let x = same_tree c d a t.0 in
    let y = same_tree r s b (cc) in cc

-- the words say the tree
pub words-recs : (r : NRow) → Small r → unword (words r) ≡ recs r
words-recs r a = ap unword (sym (append-nil (words r))) ∙ unword-words r [] a ∙ append-nil (recs r)

pub words-nums : (r : NRow) → numbers (words r) ≡ nums r
words-nums r = ap numbers (sym (append-nil (words r))) ∙ numbers-words r [] ∙ append-nil (nums r)

pub words_say : (r s : NRow) → Small r → Small s → words r ≡ words s → r ≡ s
words_say r s a b e =
    same_tree r s (same_words (erase r) (erase s) (sym (words-recs r a) ∙ ap unword e ∙ words-recs s b)) (sym (words-nums r) ∙ ap numbers e ∙ words-nums s)

pub written_say : (r s : NRow) (n m : ℕ) → Small r → Small s → written r n ≡ written s m → (r ≡ s) × (n ≡ m)
written_say r s n m a b e = (words_say r s a b (cc), cc)

-- ---- what each record keeps, in written order, and the forward pass
abbrev pub given : List ℕ → List (Option ℕ)
given [] = []
given (i ∷ l) = some i ∷ given l

abbrev pub source : Verdict → List (Option ℕ) → List (Option ℕ)
source (copy i d) s = given (nums d) ++ (some i ∷ [])
source (keep i) s = s ++ (some i ∷ [])
source new! s = s ++ (none ∷ [])

abbrev pub assign : List (Option ℕ) → ℕ → List ℕ
assign [] n = []
assign (none ∷ l) n = n ∷ assign l (suc n)
assign (some i ∷ l) n = i ∷ assign l n

abbrev pub raised : List (Option ℕ) → ℕ → ℕ
raised [] n = n
raised (none ∷ l) n = raised l (suc n)
raised (some i ∷ l) n = raised l n

assign-append : (a b : List (Option ℕ)) (n : ℕ) → assign (a ++ b) n ≡ assign a n ++ assign b (raised a n)
assign-append [] b n = refl
assign-append (none ∷ a) b n = ap (n ∷◌) (assign-append a b (suc n))
assign-append (some i ∷ a) b n = ap (i ∷◌) (assign-append a b n)

raised-append : (a b : List (Option ℕ)) (n : ℕ) → raised (a ++ b) n ≡ raised b (raised a n)
raised-append [] b n = refl
raised-append (none ∷ a) b n = raised-append a b (suc n)
raised-append (some i ∷ a) b n = raised-append a b n

pub assign-given : (l : List ℕ) (n : ℕ) → assign (given l) n ≡ l
assign-given [] n = refl
assign-given (i ∷ l) n = ap (i ∷◌) (assign-given l n)

pub raised-given : (l : List ℕ) (n : ℕ) → raised (given l) n ≡ n
raised-given [] n = refl
raised-given (i ∷ l) n = raised-given l n

module _ (J : ℕ → Row → Verdict) where
  unfoldable pub sources : Row → List (Option ℕ)
  sources ∅ = []
  sources (tok (mk k zero) f) = none ∷ sources f
  sources (tok (mk k (suc i)) f) = some (suc i) ∷ sources f
  sources (nod q c f) = source (J q c) (sources c) ++ sources f

  -- the same from the last record backward: a piece that is copied is stepped over whole
  abbrev pub step : Verdict → (List (Option ℕ) → List (Option ℕ)) → List (Option ℕ) → List (Option ℕ)
  step (copy i d) k l = given (nums d) ++ (some i ∷ l)
  step (keep i) k l = k (some i ∷ l)
  step new! k l = k (none ∷ l)

  unfoldable pub backward : Row → List (Option ℕ) → List (Option ℕ)
  backward ∅ l = l
  backward (tok (mk k zero) f) l = none ∷ backward f l
  backward (tok (mk k (suc i)) f) l = some (suc i) ∷ backward f l
  backward (nod q c f) l = step (J q c) (backward c) (backward f l)

  pub backward_is : (f : Row) (l : List (Option ℕ)) → backward f l ≡ sources f ++ l
  unfolding sources backward
  backward_is ∅ l = refl
  backward_is (tok (mk k zero) f) l = ap (none ∷◌) (backward_is f l)
  backward_is (tok (mk k (suc i)) f) l = ap (some (suc i) ∷◌) (backward_is f l)
  backward_is (nod q c f) l = by (J q c) (λ m. backward_is c m) (backward_is f l)
    where
      by : (v : Verdict) → ((m : List (Option ℕ)) → backward c m ≡ sources c ++ m) → backward f l ≡ sources f ++ l → step v (backward c) (backward f l) ≡ source v (sources c) ++ sources f ++ l
      by (copy i d) kc kf = rw (kf, append_assoc, append_assoc) refl
      by (keep i) kc kf = rw (kf, kc, append_assoc, append_assoc) refl
      by new! kc kf = rw (kf, kc, append_assoc, append_assoc) refl

  -- a copied piece keeps all its numbers; the others take the next number as they are written
  pub forward : {n m : ℕ} {f : Row} {r : NRow} → Numbering J n f r m → (nums r ≡ assign (sources f) n) × (m ≡ raised (sources f) n)
  unfolding sources
  forward n∅ = (refl, refl)
  forward (nput {n = n} N) = let u = forward N in (ap (n ∷◌) u.0, u.1)
  forward (nold {i = i} N) = let u = forward N in (ap (suc i ∷◌) u.0, u.1)
  forward (ncopy {n = n} {i = i} {f = f} {d = d} e N) =
      let u = forward N in
      (rw (e, u.0, append_assoc, assign-append, assign-given, raised-given) refl, rw (e, append_assoc, raised-append, raised-given) u.1)
  forward (nkeep {n = n} {m = m} {i = i} {c = c} {f = f} e M N) =
      let u = forward M in
      let v = forward N in
      (rw (e, append_assoc, assign-append, ← u.1, ← u.0, ← v.0) refl, rw (e, append_assoc, raised-append, ← u.1) v.1)
  forward (nnew {n = n} {m = m} {c = c} {f = f} e M N) =
      let u = forward M in
      let v = forward N in
      (rw (e, append_assoc, assign-append, ← u.1, ← u.0, ← v.0) refl, rw (e, append_assoc, raised-append, ← u.1) v.1)
