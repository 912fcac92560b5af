-- Document 01's judgement is fair; what a renumbering answers is what the rule permits, and that alone; the answer is in order again.
use Rattle.std.specs.Prelude.{◌≡◌, refl, List, ℕ, ◌<◌}
use Rattle.std.proofs.Common.{sym, ◌∙◌, subst, arith}
use Rattle.std.proofs.Math.Decide.{ℕ_discrete, dec_lt}
use Rattle.definitions.specs.Table.{Sym, Table}
use Rattle.definitions.specs.Tree.{Row, Der, NRow, erase, toks, Fit}
use Rattle.theory.specs.Decide.{and_d, row_d}
use Rattle.definitions.specs.Numbers.{Sub, Nothing, Kept, the_same, by_rule}
use Rattle.theory.specs.Numbers.Number.{Verdict, copy, keep, new!, when, seek, judge, number, either, renumber}
use Rattle.theory.specs.Numbers.Seek.{numbered, seek_sound, seek-keep, seek-none, unique}
use Rattle.theory.specs.Numbers.Rule.{Text, Fair}
use Rattle.theory.specs.Numbers.Order.{fits, derives, obeys, ruled, one_numbering}

pub when_yes : {A : Type 0} (t : Dec A) {v w : Verdict} → when t v ≡ w → (w ≡ new! → ⊥) → A × (v ≡ w)
when_yes (yes h) e n = (h, e)
when_yes (no h) e n = absurd (n (sym e))

pub when_is : {A : Type 0} (t : Dec A) {v : Verdict} → A → when t v ≡ v
when_is (yes h) a = refl
when_is (no h) a = absurd (h a)

pub copy_new : {i : ℕ} {d : NRow} → copy i d ≡ new! → ⊥
copy_new e = let z : ◌≡◌ {A = ℕ} 0 1 = cc in omega arith

pub keep_new : {i : ℕ} → keep i ≡ new! → ⊥
keep_new e = let z : ◌≡◌ {A = ℕ} 0 1 = cc in omega arith

pub judge_copies : (old : NRow) {q i : ℕ} {c : Row} {d : NRow} → judge old q c ≡ copy i d → Sub q i d old × (erase d ≡ c) × (0 < toks c)
judge_copies old {q = q} {c = c} e = let r = when_yes (dec_lt 0 (toks c)) e copy_new in let s = seek_sound q c old r.1 in (s.0, s.1, r.0)

pub judge-keep : (old : NRow) (q : ℕ) (c : Row) {i : ℕ} → judge old q c ≡ keep i → ⊥
judge-keep old q c e = seek-keep q c old (when_yes (dec_lt 0 (toks c)) e keep_new).1

pub judge_finds : {n : ℕ} (old : NRow) → Fit n old → {q i : ℕ} {d : NRow} (c : Row) → Sub q i d old → erase d ≡ c → 0 < toks c → judge old q c ≡ copy i d
judge_finds old O {q} {i} {d} c s e h = when_is (dec_lt 0 (toks c)) h ∙ by (seek q c old) refl
  where
    by : (v : Verdict) → seek q c old ≡ v → v ≡ copy i d
    by (copy j b) z =
        let r = seek_sound q c old z in
        let u = unique r.0 s (r.1 ∙ sym e) (rw r.1 h) O.low O.apart in
        let x = u.0 in let y = u.1 in cc
    by (keep j) z = absurd (seek-keep q c old z)
    by new! z = absurd (seek-none c s e z)

pub fair : {n : ℕ} (old : NRow) → Fit n old → Fair old Nothing (judge old)
fair old O = record {
  copies = λ {q} {i} {c} {d} e. judge_copies old e;
  finds = λ {q} {i} {d} c s e h. judge_finds old O c s e h;
  keeps = λ {q} {i} {c} e. judge-keep old q c e;
  owns = λ {q} {i} {c} k. absurd k;
  lone = λ {q} {i} {j} {c} k l. absurd k;
  fails = λ {q} {i} {c} e k. k;
  heir = λ {q} {i} {j} {d} s k. absurd k;
}

module _ (old : NRow) (K : ℕ → ℕ → Row → Type 0) (J : ℕ → Row → Verdict) (F : Fair old K J) (n : ℕ) (O : Fit n old) where
  pub answers : (f : Row) → Text old f → Kept old K n f (renumber J old n f).0 (renumber J old n f).1
  unfolding renumber
  answers f t = by (and_d (row_d (erase old) f) (ℕ_discrete (toks f) 0))
    where
      by : (d : Dec ((erase old ≡ f) × (toks f ≡ 0))) → Kept old K n f (either d (old, n) (number J f n)).0 (either d (old, n) (number J f n)).1
      by (yes h) = the_same h.0 h.1
      by (no h) = by_rule h (obeys old K J F n O (numbered J f n) t)

  -- the only answer
  pub only : {f : Row} {r : NRow} {m : ℕ} → Kept old K n f r m → ((renumber J old n f).0 ≡ r) × ((renumber J old n f).1 ≡ m)
  unfolding renumber
  only {f} {r} {m} A = by (and_d (row_d (erase old) f) (ℕ_discrete (toks f) 0)) A
    where
      by : {r : NRow} {m : ℕ} (d : Dec ((erase old ≡ f) × (toks f ≡ 0))) → Kept old K n f r m → ((either d (old, n) (number J f n)).0 ≡ r) × ((either d (old, n) (number J f n)).1 ≡ m)
      by (yes h) (the_same a b) = (refl, refl)
      by (yes h) (by_rule g R) = absurd (g h)
      by (no h) (the_same a b) = absurd (h (a, b))
      by (no h) (by_rule g R) = one_numbering (numbered J f n) (ruled old K J F n O R)

  -- in order again
  pub answer_fit : {f : Row} {r : NRow} {m : ℕ} → Text old f → Kept old K n f r m → Fit m r
  answer_fit t (the_same a b) = O
  answer_fit t (by_rule g R) = fits old K J F n O (ruled old K J F n O R) t

  pub answer_derives : {G : Table} {f : Row} {r : NRow} {m : ℕ} {γ : List Sym} → Der G f γ → Kept old K n f r m → Der G (erase r) γ
  answer_derives {G} {γ = γ} D (the_same a b) = subst (λ x. Der G x γ) (sym a) D
  answer_derives D (by_rule g R) = derives old K J F n O (ruled old K J F n O R) D
