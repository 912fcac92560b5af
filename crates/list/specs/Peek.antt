-- What the next entry's run says of the terminal that stands next.
use Rattle.std.specs.Prelude.{◌≡◌, refl, ℕ, ◌≤◌, ◌<◌, length, get_or}
use Rattle.std.proofs.Common.{sym, ap, ◌∙◌, arith}
use mathlib.Core.List.{List, [], ◌∷◌, ◌++◌}
use Rattle.definitions.specs.Sheet.{T}
use Rattle.definitions.specs.Tree.{Tok, Row, ∅, size, yield, look}
use Rattle.definitions.specs.Reading.{Tree, leaf, node, cons}
use Rattle.theory.specs.Machine.Rows.{toks-length, look-append}
use Rattle.theory.specs.Tree.Build.{small}
use Rattle.tree.specs.Rows.{length-words}
use Rattle.tree.specs.Shaped.{Holds}
use Rattle.list.specs.Pending.{Next, old_piece, new_code}
use Rattle.list.specs.Opening.{some_size}
use Rattle.list.specs.Runs.{Fits, run_of, piece-fits, run-piece, code_fits, run-code, first_of, first_words}

pub yield-cons : (x : Tree) (f : Row) → yield (cons x f) ≡ yield (cons x ∅) ++ yield f
yield-cons (leaf x) f = refl
yield-cons (node q c) f = rw mathlib.Core.List.append-nil refl

-- the first of some tokens does not depend on what comes after them
first_some : (a b : ℕ) (u : List Tok) → 0 < length u → look a u ≡ look b u
first_some a b [] h = absurd (omega arith)
first_some a b (x ∷ u) h = refl

pub record Peeks (old put : List ℕ) (e : ℕ) (f : Row) : Type 0 where
  pub fits : Fits old put e
  pub code : length (run_of old put e) ≡ 1 → get_or (run_of old put e) 0 0 ≡ look 0 (yield f)
  pub piece : (length (run_of old put e) ≡ 1 → ⊥) → first_of (run_of old put e) ≡ look 0 (yield f)

pub peeks : {t old put r : List ℕ} {m e : ℕ} {f : Row} → Holds old → T t ≤ 256 → Next t old put r m e f → Peeks old put e f
peeks {t} {old} {put} H few (old_piece {v = v} {f = f} x l P h q) =
    let w = run-piece put H P l in
    let n = length-words P.row in
    let s = ap size P.is in
    let g : first_of (run_of old put v) ≡ look 0 (yield (cons x f)) =
    ap first_of w ∙ first_words P.row (small (T t) few P.row P.forest.kinds) ∙ ap (λ (c : Row). look 0 (yield c)) P.is
    ∙ first_some 0 (look 0 (yield f)) (yield (cons x ∅)) (omega (arith, toks-length (cons x ∅)))
    ∙ sym (ap (look 0) (yield-cons x f) ∙ look-append 0 (yield (cons x ∅)) (yield f)) in
    record { fits = piece-fits put H P l; code = λ c. absurd (omega (arith, ap length w, some_size x)); piece = λ c. g }
peeks {t} {old} {put} H few (new_code k l q) =
    record { fits = code_fits old put k l; code = λ c. ap (λ (u : List ℕ). get_or u 0 0) (run-code old put k l); piece = λ c. absurd (c (ap length (run-code old put k l))) }
