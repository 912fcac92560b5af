-- What is next, by the length of the next entry's run: one word is a code, three are a token of the old row, more are a piece. A token is
-- the terminal that stands next.
use Rattle.std.specs.Prelude.{◌≡◌, refl, List, ℕ, suc, ◌+◌, ◌-◌, ◌*◌, ◌≤◌, ◌<◌, length, get_or}
use Rattle.std.proofs.Common.{ap, ◌∙◌, subst, arith}
use Rattle.definitions.specs.Sheet.{T}
use Rattle.definitions.specs.Tree.{mk, Row, ∅, tok, nod, size, toks, yield, look, NRow, ε, ntok, nnod, erase, words}
use Rattle.definitions.specs.Reading.{leaf, node, Stack}
use Rattle.machine.specs.Room.{Holds}
use Rattle.machine.specs.Steps.{Stands, token, end}
use Rattle.tree.specs.Shaped as Rows
use Rattle.tree.specs.Rows.{length-words}
use Rattle.edits.specs.Codes.{from_codes}
use Rattle.list.specs.Pieces.{root_real}
use Rattle.list.specs.Pending.{list_at, Pending, Next, old_piece, new_code, next, nothing}
use Rattle.list.specs.Runs.{Fits, run_of, piece-fits, run-piece, code_fits, run-code}
use Rattle.updating.specs.Turns.{Listed, Facing}

-- the words of a token
token_words : (f : NRow) (k i : ℕ) → erase f ≡ tok (mk k i) ∅ → (get_or (words f) 0 0 ≡ k) × (get_or (words f) 1 0 ≡ i)
token_words ε k i e = let z : ◌≡◌ {A = ℕ} 0 1 = cc in absurd (omega arith)
token_words (ntok a b f) k i e = (cc, cc)
token_words (nnod q j c f) k i e = let z : ◌≡◌ {A = ℕ} 0 1 = cc in absurd (omega arith)

pub stands_look : {f : Row} {k i : ℕ} → Stands f k i → k ≡ look 0 (yield f)
stands_look (token h) = refl
stands_look end = refl

pub record Faces (t old put r : List ℕ) (n m e : ℕ) (σ : Stack) (f : Row) : Type 0 where
  pub fits : Fits old put e
  pub token : length (run_of old put e) ≤ 3 → (i : ℕ) → (length (run_of old put e) ≡ 3 → i ≡ get_or (run_of old put e) 1 0) × (length (run_of old put e) ≡ 1 → i ≡ 0) → (0 < look 0 (yield f)) × Stands f (look 0 (yield f)) i
  pub piece : 3 < length (run_of old put e) → Facing t old put (run_of old put e) r n m e σ f

pub nothing_next : {t old put r : List ℕ} {m : ℕ} {f : Row} (i : ℕ) → m ≡ 0 → Listed t old put r m f → Stands f 0 i
nothing_next {t} {old} {put} {r} {m} {f} i e L = rw (nothing (subst (λ (j : ℕ). Pending t old put r j f) e L.pending)) (end {i = i})

pub faces : {t old put r : List ℕ} {n m : ℕ} {σ : Stack} {f : Row} → Rows.Holds old → Holds r n σ → 0 < m → Listed t old put r m f → Faces t old put r n m (get_or r (list_at + (m - 1)) 0) σ f
faces {t} {old} {put} {r} {n} {m} {σ} {f} H h more L =
    let z : m ≡ suc (m - 1) = omega arith in
    by (get_or r (list_at + (m - 1)) 0) f (next (m - 1) (subst (λ (j : ℕ). Pending t old put r j f) z L.pending)) L
  where
    by : (e : ℕ) (f : Row) → Next t old put r (m - 1) e f → Listed t old put r m f → Faces t old put r n m e σ f
    by e f (new_code k l q) L =
        let w = run-code old put k l in
        record {
          fits = code_fits old put k l;
          token = λ c i z. let h = (from_codes (T t) put L.codes k l).above in (h, rw (z.1 (ap length w)) (token h));
          piece = λ a. absurd (omega (arith, ap length w));
        }
    by v f (old_piece (leaf (mk k i)) l P s q) L =
        let w = run-piece put H P l in
        let x = token_words P.row k i P.is in
        let n = ap length w ∙ length-words P.row ∙ ap (λ (g : Row). 3 * size g) P.is in
        record {
          fits = piece-fits put H P l;
          token = λ c j z. let y : j ≡ i = z.0 (n ∙ omega arith) ∙ ap (λ (l : List ℕ). get_or l 1 0) w ∙ x.1 in ((root_real P).0, rw y (token (root_real P).0));
          piece = λ a. absurd (omega arith);
        }
    by v f (old_piece {f = g} (node p c) l P s q) L =
        let w = run-piece put H P l in
        let n = ap length w ∙ length-words P.row ∙ ap (λ (g : Row). 3 * size g) P.is in
        record {
          fits = piece-fits put H P l;
          token = λ e. absurd (omega (arith, some c (omega (arith, s))));
          piece = λ a. record {
            prod = p;
            kids = c;
            rest = g;
            is = refl;
            some = omega (arith, s);
            more = more;
            piece = P;
            run_is = w;
            holds = h;
            whole = L;
            behind = record { few = L.few; codes = L.codes; pending = q; counted = L.counted; small = omega (arith, L.small) };
          };
        }
      where
        some : (c : Row) → 0 < toks c → 0 < size c
        some ∅ h = absurd (omega arith)
        some (tok x c) h = omega arith
        some (nod q d c) h = omega arith
