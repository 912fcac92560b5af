-- What `Calls` comes to, question by question: when a call accepts, what it leaves, and what each refusal means.
use Rattle.std.specs.Prelude.{◌≡◌, refl, List, [], ◌∷◌, ◌++◌, ℕ, ◌+◌, ◌*◌, ◌≤◌, ◌<◌, length, drop}
use Rattle.std.proofs.Common.{ap, ◌∙◌, subst, arith}
use Rattle.definitions.specs.States.{Accepted}
use Rattle.definitions.specs.Table.{nt, table_of}
use Rattle.theory.specs.Machine.Rows.{toks-length}
use Rattle.theory.specs.Numbers.KeptNumbers.{kept_only}
use Rattle.definitions.specs.Tree.{Tok, Row, size, toks, Derivation, NRow, erase, written, InOrder, Fit, Der, yield}
use Rattle.definitions.specs.Reading.{Counts}
use Rattle.definitions.specs.Numbers.{Nothing, Kept, the_same, by_rule}
use Rattle.definitions.specs.Answers.{refusal, accepted, Told, cleared, accept}
use Rattle.theory.specs.Answers.{afresh, update}
use Rattle.theory.specs.Demands.Afresh.{Fresh, read, seven, eight, nine, FreshNumbers, PlaceOf, one_derivation}
use Rattle.theory.specs.Demands.Update.{Updated, updated}
use Rattle.theory.specs.Demands.Update as up
use Rattle.theory.specs.Demands.Calls.{Checks, takes, two, three, four, Judges, one, next, ReadsText, six, reads, afresh_answers, ReadsList, five, update_answers}

-- ---- the check
pub takes_exactly : {t : List ℕ} {n : ℕ} → Checks t n → ((n ≡ 0) → Accepted t) × (Accepted t → n ≡ 0)
takes_exactly (takes a) = (λ e. a, λ b. refl)
takes_exactly (two n) = (λ e. let z : ◌≡◌ {A = ℕ} 2 0 = e in absurd (omega arith), λ b. absurd (n b.layout))
takes_exactly (three l n) = (λ e. let z : ◌≡◌ {A = ℕ} 3 0 = e in absurd (omega arith), λ b. absurd (n b.rules))
takes_exactly (four l g n) = (λ e. let z : ◌≡◌ {A = ℕ} 4 0 = e in absurd (omega arith), λ b. absurd (n b.states))

-- ---- "leaves the tree to be written untouched and the working room in a stated condition"; acceptance writes 2+3n words and no more
pub data Leaves (tree room : List ℕ) : Told → Type 0 where
  as_lent : Leaves tree room (record { answer = refusal 1 0; tree = tree; room = room })
  untouched : {n i : ℕ} → (n ≡ 1 → ⊥) → Leaves tree room (record { answer = refusal n i; tree = tree; room = cleared room })
  written_over : (r : NRow) {m : ℕ} {k : Counts} → Leaves tree room (record { answer = accepted k; tree = written r m ++ drop (2 + 3 * size (erase r)) tree; room = cleared room })

not_one : (n : ℕ) → 1 < n → n ≡ 1 → ⊥
not_one n h e = omega arith

judges_leave : {t tree room : List ℕ} {Next : Told → Type 0} {x : Told} → ((y : Told) → Next y → Leaves tree room y) → Judges t tree room Next x → Leaves tree room x
judges_leave f (one h) = as_lent
judges_leave f (two e n) = untouched (not_one 2 (omega arith))
judges_leave f (three e l n) = untouched (not_one 3 (omega arith))
judges_leave f (four e l g n) = untouched (not_one 4 (omega arith))
judges_leave f (next {x = x} e a h) = f x h

fresh_leaves : {t tree room : List ℕ} {w : List Tok} {first : ℕ} {x : Told} → Fresh t w first tree room x → Leaves tree room x
fresh_leaves (read {r = r} D l h n k o) = written_over r
fresh_leaves (seven p g) = untouched (not_one 7 (omega arith))
fresh_leaves (eight g) = untouched (not_one 8 (omega arith))
fresh_leaves (nine D l h) = untouched (not_one 9 (omega arith))

text_leaves : {t codes tree room : List ℕ} {first : ℕ} (x : Told) → ReadsText t codes first tree room x → Leaves tree room x
text_leaves x (six n) = untouched (not_one 6 (omega arith))
text_leaves x (reads X F) = fresh_leaves F

updated_leaves : {t tree room : List ℕ} {old : NRow} {n : ℕ} {w : List Tok} {x : Told} → Updated t old n w tree room x → Leaves tree room x
updated_leaves (updated {r = r} D l K h o) = written_over r
updated_leaves (up.seven p g) = untouched (not_one 7 (omega arith))
updated_leaves (up.eight g) = untouched (not_one 8 (omega arith))
updated_leaves (up.nine D l K h) = untouched (not_one 9 (omega arith))

list_leaves : {t old edits codes tree room : List ℕ} (x : Told) → ReadsList t old edits codes tree room x → Leaves tree room x
list_leaves x (five n) = untouched (not_one 5 (omega arith))
list_leaves x (six r o n) = untouched (not_one 6 (omega arith))
list_leaves x (reads o e u a) = updated_leaves u

pub afresh_leaves : (t codes : List ℕ) (first : ℕ) (tree room : List ℕ) → Leaves tree room (afresh t codes first tree room)
afresh_leaves t codes first tree room = judges_leave text_leaves (afresh_answers t codes first tree room)

pub update_leaves : (t old edits codes tree room : List ℕ) → Leaves tree room (update t old edits codes tree room)
update_leaves t old edits codes tree room = judges_leave list_leaves (update_answers t old edits codes tree room)

-- ---- reading afresh: accepted exactly when
-- a derivation tree within 2,048 nodes, for which the numbers suffice
pub record Within (t : List ℕ) (w : List Tok) (first : ℕ) (f : Row) : Type 0 where
  pub derivation : Derivation t w f
  pub nodes : size f ≤ 2048
  pub numbers : first + size f ≤ 4294967295

-- the answer's tree: numbered from the first number, written over the lent row
pub record Written (first : ℕ) (tree : List ℕ) (f : Row) (x : Told) : Type 0 where
  pub tree_of : NRow
  pub numbers : FreshNumbers first f tree_of
  pub counts : Counts
  pub yes : x.answer ≡ accepted counts
  pub words : x.tree ≡ written tree_of (first + size f) ++ drop (2 + 3 * size (erase tree_of)) tree

module _ {t : List ℕ} {w : List Tok} {first : ℕ} {tree room : List ℕ} where
  pub fresh_within : {x : Told} {k : Counts} → Fresh t w first tree room x → x.answer ≡ accepted k → (f : Row) × Within t w first f
  fresh_within (read {f = f} D l h n c o) e = (f, record { derivation = D; nodes = l; numbers = h })
  fresh_within (seven p g) e = let z : ◌≡◌ {A = ℕ} 0 1 = cc in absurd (omega arith)
  fresh_within (eight g) e = let z : ◌≡◌ {A = ℕ} 0 1 = cc in absurd (omega arith)
  fresh_within (nine D l h) e = let z : ◌≡◌ {A = ℕ} 0 1 = cc in absurd (omega arith)

  pub within_fresh : Accepted t → {x : Told} (f : Row) → Fresh t w first tree room x → Within t w first f → Written first tree f x
  within_fresh A f (read {f = g} {r = r} {k = k} D l h n c o) W =
      let z : g ≡ f = one_derivation t A D W.derivation in
      subst (λ y. Written first tree y (accept tree room r (first + size g) k)) z (record { tree_of = r; numbers = n; counts = k; yes = refl; words = refl })
  within_fresh A f (seven p g) W = absurd (g f W.derivation)
  within_fresh A f (eight g) W = absurd (omega (arith, g f W.derivation, W.nodes))
  within_fresh A f (nine {f = g} D l h) W = let z : g ≡ f = one_derivation t A D W.derivation in absurd (omega (arith, ap size z, W.numbers))

  pub fresh_seven : {x : Told} {i : ℕ} → Fresh t w first tree room x → x.answer ≡ refusal 7 i → ((f : Row) → Derivation t w f → ⊥) × PlaceOf t w i
  fresh_seven (read D l h n c o) e = let z : ◌≡◌ {A = ℕ} 0 1 = cc in absurd (omega arith)
  fresh_seven {i = i} (seven {i = j} p g) e = let z : j ≡ i = cc in (g, rw z at p)
  fresh_seven (eight g) e = let z : ◌≡◌ {A = ℕ} 8 7 = cc in absurd (omega arith)
  fresh_seven (nine D l h) e = let z : ◌≡◌ {A = ℕ} 9 7 = cc in absurd (omega arith)

  pub fresh_eight : {x : Told} → Fresh t w first tree room x → x.answer ≡ refusal 8 0 → (f : Row) → Derivation t w f → 2048 < size f
  fresh_eight (read D l h n c o) e = let z : ◌≡◌ {A = ℕ} 0 1 = cc in absurd (omega arith)
  fresh_eight (seven p g) e = let z : ◌≡◌ {A = ℕ} 7 8 = cc in absurd (omega arith)
  fresh_eight (eight g) e = g
  fresh_eight (nine D l h) e = let z : ◌≡◌ {A = ℕ} 9 8 = cc in absurd (omega arith)

  pub fresh_ten : {x : Told} {i : ℕ} → Fresh t w first tree room x → x.answer ≡ refusal 10 i → ⊥
  fresh_ten (read D l h n c o) e = let z : ◌≡◌ {A = ℕ} 0 1 = cc in omega arith
  fresh_ten (seven p g) e = let z : ◌≡◌ {A = ℕ} 7 10 = cc in omega arith
  fresh_ten (eight g) e = let z : ◌≡◌ {A = ℕ} 8 10 = cc in omega arith
  fresh_ten (nine D l h) e = let z : ◌≡◌ {A = ℕ} 9 10 = cc in omega arith

  pub eight_fresh : Accepted t → {x : Told} (f : Row) → Fresh t w first tree room x → Derivation t w f → 2048 < size f → x.answer ≡ refusal 8 0
  eight_fresh A f (read {f = g} D l h n c o) E m = let z : g ≡ f = one_derivation t A D E in absurd (omega (arith, ap size z))
  eight_fresh A f (seven p g) E m = absurd (g f E)
  eight_fresh A f (eight g) E m = refl
  eight_fresh A f (nine {f = g} D l h) E m = let z : g ≡ f = one_derivation t A D E in absurd (omega (arith, ap size z))

  pub nine_fresh : Accepted t → {x : Told} (f : Row) → Fresh t w first tree room x → Derivation t w f → size f ≤ 2048 → 4294967295 < first + size f → x.answer ≡ refusal 9 0
  nine_fresh A f (read {f = g} D l h n c o) E m k = let z : g ≡ f = one_derivation t A D E in absurd (omega (arith, ap size z))
  nine_fresh A f (seven p g) E m k = absurd (g f E)
  nine_fresh A f (eight g) E m k = absurd (omega (arith, g f E))
  nine_fresh A f (nine D l h) E m k = refl

-- ---- updating: the new tree of an accepted update
pub record NewTree (t : List ℕ) (old : NRow) (n : ℕ) (w : List Tok) (tree : List ℕ) (x : Told) : Type 0 where
  pub row : Row
  pub new : NRow
  pub next : ℕ
  pub derivation : Derivation t w row
  pub kept : Kept old Nothing n row new next
  pub words : x.tree ≡ written new next ++ drop (2 + 3 * size (erase new)) tree
  pub order : InOrder t x.tree new

pub updated_new : {t tree room : List ℕ} {old : NRow} {n : ℕ} {w : List Tok} {x : Told} {k : Counts} → Updated t old n w tree room x → x.answer ≡ accepted k → NewTree t old n w tree x
updated_new (updated {f = f} {r = r} {m = m} D l K h o) e = record { row = f; new = r; next = m; derivation = D; kept = K; words = refl; order = o }
updated_new (up.seven p g) e = let z : ◌≡◌ {A = ℕ} 0 1 = cc in absurd (omega arith)
updated_new (up.eight g) e = let z : ◌≡◌ {A = ℕ} 0 1 = cc in absurd (omega arith)
updated_new (up.nine D l K h) e = let z : ◌≡◌ {A = ℕ} 0 1 = cc in absurd (omega arith)

-- accepted where the edited text is derived within 2,048 nodes and the numbers suffice
pub new_updated : {t tree room : List ℕ} {old : NRow} {n : ℕ} {w : List Tok} {x : Told} → Accepted t → Fit n old → Updated t old n w tree room x
    → (f : Row) → Derivation t w f → size f ≤ 2048 → (r : NRow) (m : ℕ) → Kept old Nothing n f r m → m ≤ 4294967295 → (k : Counts) × (x ≡ accept tree room r m k)
new_updated {t} {tree} {room} A O (updated {f = g} {r = s} {m = o} {k = k} D l K h order) f E b r m L u =
    let z : g ≡ f = one_derivation t A D E in
    let a = kept_only O (rw z at K) in
    let c = kept_only O L in
    let p = a.0 in let q = a.1 in let i = c.0 in let j = c.1 in
    (k, let y : s ≡ r = cc in let v : o ≡ m = cc in rw (y, v) refl)
new_updated A O (up.seven p g) f E b r m L u = absurd (g f E)
new_updated A O (up.eight g) f E b r m L u = absurd (omega (arith, g f E))
new_updated {t} A O (up.nine {f = g} D l K h) f E b r m L u =
    let z : g ≡ f = one_derivation t A D E in
    let a = kept_only O (rw z at K) in
    let c = kept_only O L in absurd (omega (arith, a.1, c.1))

-- "as does the tree of an empty sheet left empty"
pub kept_empty : {old : NRow} {n : ℕ} {f : Row} {r : NRow} {m : ℕ} → Kept old Nothing n f r m → erase old ≡ f → toks f ≡ 0 → (r ≡ old) × (m ≡ n)
kept_empty (the_same a b) e z = (refl, refl)
kept_empty (by_rule g R) e z = absurd (g (e, z))

-- an old tree and a new one of the empty text are alike
pub same_empty : (t : List ℕ) → Accepted t → {old f : Row} {w : List Tok} → Der (table_of t) old (nt (table_of t).start ∷ []) → Derivation t w f → yield old ≡ [] → w ≡ [] → old ≡ f
same_empty t A D E a b = one_derivation t A (record { tree = D; text = a }) (record { tree = E.tree; text = E.text ∙ b })

pub no_toks : {t : List ℕ} {f : Row} {w : List Tok} → Derivation t w f → w ≡ [] → toks f ≡ 0
no_toks {f = f} D e = toks-length f ∙ ap length (D.text ∙ e)
