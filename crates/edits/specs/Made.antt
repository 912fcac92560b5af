-- What a call has found so far of the edits that it is lent, beside the room: how many old tokens there are, then how many words the reading
-- list has, or the refusal. The same of edits as words and as structs.
use Rattle.std.specs.Prelude.{◌≡◌, refl, Result, Ok, Err, List, ℕ, ◌≤◌, length, drop}
use Rattle.std.proofs.Common.{arith}
use Rattle.std.specs.Result.{result_and}
use Rattle.definitions.specs.Sheet.{T, Layout}
use Rattle.definitions.specs.Tree.{yield, NRow, erase, InOrder}
use Rattle.definitions.specs.Edits.{Edit, edit_words, EditsInOrder}
use Rattle.theory.specs.Edits.FromMarks.{reading_list}
use Rattle.theory.specs.Machine.Rows.{toks-length}
use Rattle.answers.specs.declared.Refusal.{Refusal}
use Rattle.answers.specs.declared.Refusal.TheVariants.{Text}
use Rattle.list.specs.Pending.{Pending, Counted}
use Rattle.edits.specs.Going.{toks-size}

-- the old tree is in order and has n tokens
pub record Tokens (t old room : List ℕ) (n : ℕ) : Type 0 where
  pub layout : Layout t
  pub roomy : 16384 ≤ length room
  pub tree : NRow
  pub stands : InOrder t old tree
  pub many : (r : NRow) → InOrder t old r → length (yield (erase r)) ≡ n

pub tokens_few : {t old room : List ℕ} {n : ℕ} → Tokens t old room n → T t ≤ 256
tokens_few k = omega (arith, k.layout.head.terminals.1)

pub tokens-number : {t old room : List ℕ} {n : ℕ} → Tokens t old room n → n ≤ 2048
tokens-number k = let n = k.stands.nodes.1 in omega (arith, k.many k.tree k.stands, toks-length (erase k.tree), toks-size (erase k.tree))

module _ (t old words put : List ℕ) where
  abbrev pub InOrderOf : NRow → Type 0
  InOrderOf r = (es : List Edit) × EditsInOrder t (yield (erase r)) words put es

  -- the reading list of the edits stands in the room, in m words
  pub record Made (room room' : List ℕ) (m : ℕ) : Type 0 where
    pub small : m ≤ 2048
    pub order : (r : NRow) → InOrder t old r → InOrderOf r
    pub pending : (r : NRow) (es : List Edit) → InOrder t old r → EditsInOrder t (yield (erase r)) words put es → Pending t old put room' m (reading_list (erase r) es put)
    pub counted : Counted old room'
    pub rest : drop 16384 room' ≡ drop 16384 room

  pub data Lists (room room' : List ℕ) (found r : Result ℕ Refusal) : Type 0 where
    -- refused before
    refused : (e : Refusal) → found ≡ Err e → r ≡ Err e → room' ≡ room → Lists room room' found r
    -- 6
    six : (n : ℕ) → found ≡ Ok n → r ≡ Err Text → room' ≡ room → ((x : NRow) → InOrder t old x → InOrderOf x → ⊥) → Lists room room' found r
    made : (n : ℕ) → found ≡ Ok n → (m : ℕ) → r ≡ Ok m → Made room room' m → Lists room room' found r

  -- of a row that is no list of edits
  pub part_list : {room : List ℕ} (found : Result ℕ Refusal) → ((es : List Edit) → edit_words es ≡ words → ⊥) → Lists room room found (result_and found (Err Text))
  part_list (Ok n) f = six n refl refl refl (λ x O o. f o.0 o.1.records)
  part_list (Err e) f = refused e refl refl refl
