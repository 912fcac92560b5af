-- The new text by the identities of its tokens; and afresh, over no old tree, every number is new, in written order.
use Rattle.std.specs.Prelude.{refl, List, [], ◌∷◌, ◌++◌, ℕ, ◌≤◌, ◌<◌}
use Rattle.std.proofs.Common.{arith}
use Rattle.definitions.specs.Tree.{Tok, Row, yield, NRow, ε, erase, nums}
use Rattle.definitions.specs.Numbers.{Sub, Rises}
use Rattle.theory.specs.Numbers.Number.{Verdict}
use Rattle.theory.specs.Numbers.Counting.{toc-ids, sub-size}
use Rattle.theory.specs.Numbers.Seek.{Numbering, n∅, nput, nold, ncopy, nkeep, nnew}
use Rattle.theory.specs.Numbers.Rule.{Text, Fair, rises-append}
use Rattle.theory.specs.Numbers.Identities.{Blank, cnt, cnt_blank, ids-cnt}

-- each old token stands in the new text at most as often as in the old
pub text-count : (old : NRow) (f : Row) → ((i : ℕ) → 0 < i → cnt i (yield f) ≤ cnt i (yield (erase old))) → Text old f
text-count old f l i h = omega (arith, ids-cnt i f, l i h, ids-cnt i (erase old), toc-ids i old)

pub text_blank : (old : NRow) (f : Row) → Blank (yield f) → Text old f
text_blank old f b i h = omega (arith, ids-cnt i f, cnt_blank i (yield f) h b)

blank_left : (u v : List Tok) → Blank (u ++ v) → Blank u
blank_left [] v b = tt
blank_left (x ∷ u) v b = (b.0, blank_left u v b.1)

blank_right : (u v : List Tok) → Blank (u ++ v) → Blank v
blank_right [] v b = b
blank_right (x ∷ u) v b = blank_right u v b.1

no_sub : {A : Type 0} {q i : ℕ} {d : NRow} → Sub q i d ε → A
no_sub s = absurd (omega (arith, sub-size s))

-- afresh, over no old tree: every number is new
pub all_rise : (K : ℕ → ℕ → Row → Type 0) (J : ℕ → Row → Verdict) → Fair ε K J → {n m : ℕ} {f : Row} {r : NRow} → Numbering J n f r m → Blank (yield f) → Rises n (nums r) m
all_rise K J F n∅ b = refl
all_rise K J F (nput N) b = (refl, all_rise K J F N b.1)
all_rise K J F (nold N) b = absurd (omega (arith, b.0))
all_rise K J F (ncopy e N) b = no_sub (F.copies e).0
all_rise K J F (nkeep e M N) b = no_sub (F.owns (F.keeps e)).old_node
all_rise K J F (nnew {n = n} {m = m} {o = o} {c = c} {f = f} {r = r} {s = s} e M N) b =
    rises-append n m o (nums r) (m ∷ nums s) (all_rise K J F M (blank_left (yield c) (yield f) b)) (refl, all_rise K J F N (blank_right (yield c) (yield f) b))
