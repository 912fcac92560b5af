-- Demand 2: what a fresh reading of a text in order tells, on an accepted table, with room enough lent.
use Rattle.std.specs.Prelude.{◌≡◌, ◌*◌, ℕ, suc, ◌+◌, ◌≤◌, ◌<◌, length, take, drop}
use Rattle.std.proofs.Math.Path.{refl}
use Rattle.std.proofs.Common.{sym, ap, ◌∙◌, subst, arith}
use mathlib.Core.List.{List, [], ◌∷◌, ◌++◌}
use Rattle.std.proofs.Math.Decide.{dec_le}
use Rattle.definitions.specs.States.{Accepted}
use Rattle.definitions.specs.Table.{nt, table_of}
use Rattle.definitions.specs.Tree.{Tok, Row, ∅, nod, row, size, yield, look, Der, d∅, dnod, Derivation, NRow, erase, nums, toks, InOrder}
use Rattle.definitions.specs.Reading.{node, Stack, bot, push, End, taken, refused, Counts}
use Rattle.definitions.specs.Moves.{reading, Done}
use Rattle.definitions.specs.Edits.{inserted}
use Rattle.definitions.specs.Numbers.{forget, Rises}
use Rattle.theory.specs.Numbers.Number.{number}
use Rattle.definitions.specs.Answers.{Told, if, refuse, accept, finished, TextInOrder}
use Rattle.theory.specs.Table.Bridge.{rules_of, conditions_of}
use Rattle.theory.specs.Demands.Rows.{root, in_row}
use Rattle.theory.specs.Machine.Rows.{Real, yield-row, inner}
use Rattle.theory.specs.Machine.Steps.{run}
use Rattle.theory.specs.Machine.Complete.{unique}
use Rattle.theory.specs.Machine.Answer as machine
use Rattle.theory.specs.Machine.Answer.{Parse, Refusal, no_parse, no_space, answers}
use Rattle.theory.specs.Machine.Update.{valid_row}
use Rattle.theory.specs.Machine.Same.{same_reading}
use Rattle.theory.specs.Machine.NoMore.{afresh as unbroken, exactly}
use Rattle.theory.specs.Machine.Begun.{kinds}
use Rattle.theory.specs.Machine.Place.{Place, place, one_place}
use Rattle.theory.specs.Numbers.Identities.{Blank, blank_inserted}
use Rattle.theory.specs.Numbers.KeptNumbers.{anew, afresh-rises, afresh-text, afresh_next, afresh-size, afresh_fit, afresh_derives}
use Rattle.theory.specs.Machine.Counted.{nodes_counted, size_split}
use Rattle.theory.specs.Edits.EditedText.{known_inserted, known_real}
use Rattle.theory.specs.Answers.{afresh, afresh_in, enough, taken_on, if_yes}
use Rattle.theory.specs.Check.Judge.{judged}
use Rattle.theory.specs.Edits.EditsD.{text_in}

module _ (t : List ℕ) where
  pub parse_tree : {w : List Tok} {q : ℕ} {c : Row} → Parse (table_of t) w q c → Derivation t w (nod q c ∅)
  parse_tree {w} {q} {c} p =
      record {
        tree = subst (λ B. Der (table_of t) (nod q c ∅) (nt B ∷ [])) p.start (dnod p.prod p.der d∅);
        text = mathlib.Core.List.append-nil (yield c) ∙ p.text;
      }

  pub tree_parse : {w : List Tok} {f : Row} (D : Derivation t w f) → Parse (table_of t) w (root D.tree refl).by (root D.tree refl).kids
  tree_parse {w} D =
      let r = root D.tree refl in
      record { prod = r.prod; start = r.left; der = r.der; text = sym (mathlib.Core.List.append-nil (yield r.kids)) ∙ ap yield (sym r.is) ∙ D.text }

  tree-size : {w : List Tok} {f : Row} (D : Derivation t w f) → size f ≡ suc (size (root D.tree refl).kids)
  tree-size D = ap size (root D.tree refl).is ∙ omega arith

  -- "that tree is the answer and the grammar allows no other": of any size
  pub one_derivation : Accepted t → {w : List Tok} {f g : Row} → Derivation t w f → Derivation t w g → f ≡ g
  one_derivation A {w} {f} {g} D E =
      let p = tree_parse D in
      let q = tree_parse E in
      let u = unique (table_of t) (rules_of t A) (conditions_of t A) p.prod p.start p.der q.prod q.start q.der (p.text ∙ sym q.text) in
      let a = (root D.tree refl).is in
      let b = (root E.tree refl).is in cc

  -- the place of refusal 7 in the grammar's own words: some derived text begins with the first i tokens, and none goes on as this does
  pub record PlaceOf (w : List Tok) (i : ℕ) : Type 0 where
    pub within : i ≤ length w
    pub begun : (v : List Tok) × (f : Row) × Derivation t (take i w ++ v) f
    pub ends : (v : List Tok) (f : Row) → kinds (take i v) ≡ kinds (take i w) → look 0 (drop i v) ≡ look 0 (drop i w) → Derivation t v f → ⊥

  place_of : {w : List Tok} {i : ℕ} → Place (table_of t) w i → PlaceOf w i
  place_of p =
      record {
        within = p.within;
        begun = (p.before.after, nod p.before.prod p.before.kids ∅, parse_tree p.before.parse);
        ends = λ v f e l D. p.beyond v e l (root D.tree refl).by (root D.tree refl).kids (tree_parse D);
      }

  -- the grammar alone fixes the place
  pub one_place_of : {w : List Tok} {i j : ℕ} → PlaceOf w i → PlaceOf w j → i ≡ j
  one_place_of {w} {i} {j} p q = one_place (table_of t) (back p) (back q)
    where
      back : {i : ℕ} → PlaceOf w i → Place (table_of t) w i
      back p =
          let r = root p.begun.2.tree refl in
          record {
            within = p.within;
            before = record { prod = r.by; kids = r.kids; after = p.begun.0; parse = tree_parse p.begun.2 };
            beyond = λ v e l q c k. p.ends v (nod q c ∅) e l (parse_tree k);
          }

  -- ---- how a reading of the text w ends, within 2,048 nodes
  pub data Reads (w : List Tok) : End → Type 0 where
    accepts : {σ : Stack} {s q : ℕ} {c : Row} → σ ≡ push bot s (node q c) → Derivation t w (nod q c ∅) → size (nod q c ∅) ≤ 2048 → Reads w (taken σ)
    errs : {i : ℕ} → PlaceOf w i → ((f : Row) → Derivation t w f → ⊥) → Reads w (refused 7 i)
    full : ((f : Row) → Derivation t w f → 2048 < size f) → Reads w (refused 8 0)

  module _ (A : Accepted t) where
    pub run_reads : (w : List Tok) → Real w → Reads w (run (table_of t) 2048 bot w)
    unfolding machine.Told
    run_reads w h = by (run (table_of t) 2048 bot w) refl (answers (table_of t) (rules_of t A) (conditions_of t A) 2048 w h)
      where
        fault : {n i : ℕ} → run (table_of t) 2048 bot w ≡ refused n i → Refusal (table_of t) w 2048 n i → Reads w (refused n i)
        fault e (no_parse l g) = errs (place_of (place (table_of t) (rules_of t A) (conditions_of t A) 2048 w h e)) (λ f D. g (root D.tree refl).by (root D.tree refl).kids (tree_parse D))
        fault e (no_space g) = full (λ f D. omega (arith, tree-size D, g (root D.tree refl).by (root D.tree refl).kids (tree_parse D)))

        by : (e : End) → run (table_of t) 2048 bot w ≡ e → machine.Told (table_of t) w 2048 e → Reads w e
        by (taken σ) e k = accepts k.is_stack (parse_tree k.parse) (omega (arith, k.fits))
        by (refused n i) e k = fault e k

    pub fresh_reads : (w : List Tok) → Real w → Reads w (reading (table_of t) 2048 (row w)).end
    fresh_reads w h = rw (same_reading (table_of t) (rules_of t A) (conditions_of t A) 2048 (row w) (valid_row (table_of t) w), yield-row w) (run_reads w h)

-- ---- the whole call
-- "Nodes are numbered in their written order from the first number."
pub record FreshNumbers (first : ℕ) (f : Row) (r : NRow) : Type 0 where
  pub tree : forget first (erase r) ≡ f
  pub order : Rises first (nums r) (first + size f)

-- afresh nothing is broken or shifted whole; each token is one shift, each inner node one reduction
pub record FreshCounts (f : Row) (k : Counts) : Type 0 where
  pub left : k.lefts ≡ 0
  pub right : k.rights ≡ 0
  pub whole : k.wholes ≡ 0
  pub shifted : k.shifts ≡ toks f
  pub reduced : k.reductions ≡ inner f

pub data Fresh (t : List ℕ) (w : List Tok) (first : ℕ) (tree room : List ℕ) : Told → Type 0 where
  read : {f : Row} {r : NRow} {k : Counts} → Derivation t w f → size f ≤ 2048 → first + size f ≤ 4294967295 → FreshNumbers first f r → FreshCounts f k
      → InOrder t (accept tree room r (first + size f) k).tree r → Fresh t w first tree room (accept tree room r (first + size f) k)
  seven : {i : ℕ} → PlaceOf t w i → ((f : Row) → Derivation t w f → ⊥) → Fresh t w first tree room (refuse tree room 7 i)
  eight : ((f : Row) → Derivation t w f → 2048 < size f) → Fresh t w first tree room (refuse tree room 8 0)
  nine : {f : Row} → Derivation t w f → size f ≤ 2048 → 4294967295 < first + size f → Fresh t w first tree room (refuse tree room 9 0)

blank_yield : (t : List ℕ) (codes : List ℕ) {f : Row} → Derivation t (inserted codes) f → Blank (yield f)
blank_yield t codes D = rw D.text (blank_inserted codes)

module _ (t : List ℕ) (A : Accepted t) (codes : List ℕ) (first : ℕ) (X : TextInOrder t codes first) (tree room : List ℕ) where
  abbrev pub done : Done
  done = reading (table_of t) 2048 (row (inserted codes))

  ended : (e : End) → done.end ≡ e → Reads t (inserted codes) e → Fresh t (inserted codes) first tree room (finished tree room (λ f. number anew f first) (record { end = e; counts = done.counts }))
  ended (taken σ) e (accepts {s = s} {q = q} {c = c} z D l) = subst (λ x. Fresh t (inserted codes) first tree room (finished tree room (λ f. number anew f first) (record { end = taken x; counts = done.counts }))) (sym z) (by (dec_le N.1 4294967295))
    where
      f : Row
      f = nod q c ∅

      N : NRow × ℕ
      N = number anew f first

      next : N.1 ≡ first + size f
      next = afresh_next f (blank_yield t codes D) first X.number

      reduced : done.counts.reductions ≡ inner f
      reduced = exactly (table_of t) 2048 (inserted codes) (push bot s (node q c)) (e ∙ ap taken z) ∙ omega arith

      counts : FreshCounts f done.counts
      counts =
          let u = unbroken (table_of t) 2048 (inserted codes) in
          record {
            left = u.left;
            right = u.right;
            whole = u.whole;
            reduced = reduced;
            shifted = omega (arith, nodes_counted (table_of t) 2048 (inserted codes) (push bot s (node q c)) (e ∙ ap taken z), reduced, size_split f);
          }

      order : InOrder t (accept tree room N.0 (first + size f) done.counts).tree N.0
      order =
          in_row t A N.0 (first + size f) (drop (2 + 3 * size (erase N.0)) tree) (omega (arith, afresh-size f (blank_yield t codes D) first X.number))
          (afresh_derives f first X.number D.tree) (rw next at (afresh_fit f (blank_yield t codes D) first X.number))

      numbers : FreshNumbers first f N.0
      numbers = record { tree = afresh-text f (blank_yield t codes D) first X.number; order = rw next at (afresh-rises f (blank_yield t codes D) first X.number) }

      by : (d : Dec (N.1 ≤ 4294967295)) → Fresh t (inserted codes) first tree room (if d (accept tree room N.0 N.1 done.counts) (refuse tree room 9 0))
      by (yes h) = subst (λ n. Fresh t (inserted codes) first tree room (accept tree room N.0 n done.counts)) (sym next) (read D l (omega (arith, next)) numbers counts order)
      by (no h) = nine D l (omega (arith, next))
  ended (refused n i) e (errs p g) = seven p g
  ended (refused n i) e (full g) = eight g

  pub reading_tells : Fresh t (inserted codes) first tree room (finished tree room (λ f. number anew f first) done)
  reading_tells = ended done.end refl (fresh_reads t A (inserted codes) (known_real _ (inserted codes) (known_inserted _ codes X.known)))

  module _ (wide : 6146 ≤ length tree) (roomy : 16384 ≤ length room) where
    -- the whole call, once the lent things are judged right
    pub told : afresh t codes first tree room ≡ finished tree room (λ f. number anew f first) done
    unfolding afresh afresh_in
    told =
        enough tree room (afresh_in t codes first tree room) wide roomy
        ∙ taken_on t (judged t) A tree room _ _ (λ a. if_yes (text_in t codes first) (finished tree room (λ f. number anew f first) done) (refuse tree room 6 0) X)

    pub afresh_tells : Fresh t (inserted codes) first tree room (afresh t codes first tree room)
    afresh_tells = rw told reading_tells
