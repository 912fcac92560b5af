-- What is found of a list of edits, by what the judgement of the edits says: their list, or refusal 6.
use Rattle.std.specs.Prelude.{◌≡◌, refl, Bool, true, false, Result, Ok, Err, List, ℕ, ◌≤◌, length, drop}
use Rattle.definitions.specs.Sheet.{T}
use Rattle.definitions.specs.Tree.{Tok, yield, NRow, erase, InOrder}
use Rattle.definitions.specs.Edits.{Edit, EditsInOrder}
use Rattle.theory.specs.Check.Says.{Says, refused}
use Rattle.theory.specs.Edits.FromMarks.{reading_list}
use Rattle.answers.specs.declared.Refusal.{Refusal}
use Rattle.answers.specs.declared.Refusal.TheVariants.{Text}
use Rattle.list.specs.Pending.{Pending, Counted}
use Rattle.edits.specs.Made.{Tokens, tokens_few, InOrderOf, Lists, six, made}

-- the test says whether the edits of n old tokens are in order
abbrev pub Says_of : List ℕ → List ℕ → List ℕ → ℕ → Bool → Type 0
Says_of t words put n r = (old : List Tok) → length old ≡ n → Says r ((es : List Edit) × EditsInOrder t old words put es)

module _ {t old words put room : List ℕ} {n : ℕ} (k : Tokens t old room n) {r : Bool} (e : Says_of t words put n r) where
  of_tree : (x : NRow) → InOrder t old x → Says r (InOrderOf t old words put x)
  of_tree x O = e (yield (erase x)) (k.many x O)

  -- an update of what is lent
  pub asks : r ≡ true → (t : List ℕ) × (tree : NRow) × (es : List Edit) × (T t ≤ 256) × InOrder t old tree × EditsInOrder t (yield (erase tree)) words put es
  asks y = let o = (of_tree k.tree k.stands).to y in (t, k.tree, o.0, tokens_few k, k.stands, o.1)

  pub makes_list : r ≡ true → {found : Result ℕ Refusal} → found ≡ Ok n → {room' : List ℕ} {m : ℕ}
      → ((t : List ℕ) (tree : NRow) (es : List Edit) → T t ≤ 256 → InOrder t old tree → EditsInOrder t (yield (erase tree)) words put es
      → Pending t old put room' m (reading_list (erase tree) es put))
      → (m ≤ 2048) × Counted old room' × (drop 16384 room' ≡ drop 16384 room) → Lists t old words put room room' found (Ok m)
  makes_list y f {room'} {m} l g =
      made n f m refl
      (record { small = g.0; order = λ x O. (of_tree x O).to y; pending = λ x es O E. l t x es (tokens_few k) O E; counted = g.1; rest = g.2 })

  pub says_six : r ≡ false → {found : Result ℕ Refusal} → found ≡ Ok n → Lists t old words put room room found (Err Text)
  says_six y f = six n f refl refl (λ x O. refused (of_tree x O) y)
