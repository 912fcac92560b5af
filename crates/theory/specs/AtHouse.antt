-- The promises at the house table: every hypothesis of the main theorems is met, so none of them is empty.
use Rattle.std.specs.Prelude.{◌≡◌, List, [], ◌∷◌, ℕ, zero, suc, ◌<◌, get_or, replicate}
use Rattle.std.proofs.Common.{ap, arith}
use Rattle.std.proofs.Math.Decide.{dec_le, dec_lt, ℕ_discrete}
use Rattle.std.proofs.lemmas.List.{length-replicate}
use Rattle.definitions.specs.House.{house}
use Rattle.definitions.specs.Table.{table_of}
use Rattle.definitions.specs.Tree.{Row, NRow, eqn, erase, yield, InOrder, toks, Derivation}
use Rattle.definitions.specs.Edits.{Edit, EditsInOrder, inserted, new_text}
use Rattle.definitions.specs.Answers.{TextInOrder, Told, accepted, refusal}
use Rattle.definitions.specs.Examples.{row_mm, five, starred}
use Rattle.theory.specs.Answers.{check, afresh, update}
use Rattle.theory.specs.Check.HouseAccepted.{house_accepted}
use Rattle.theory.specs.Tree.Build.{build}
use Rattle.theory.specs.Tree.InOrderD.{tree_in}
use Rattle.theory.specs.Edits.EditsD.{edits_in, text_in}
use Rattle.theory.specs.Machine.Begun.{kinds}
use Rattle.theory.specs.Demands.Calls.{Enough}
use Rattle.theory.specs.Demands.Exactly.{Within, Written, NewTree}
use Rattle.theory.specs.Demands.Update.{AsAfresh}
use Rattle.theory.specs.Promises.{table_taken, read-only-if, read-if, seven_means, ends_as_afresh, new_tree, piece_keeps}
use Rattle.theory.specs.Demands.Afresh.{PlaceOf}
use Rattle.definitions.specs.Numbers.{Sub}
use Rattle.theory.specs.Starred.{starred_right}

pub house_taken : check house ≡ 0
house_taken = (table_taken house).1 house_accepted

-- a judgement that computes to yes
abbrev Sure : {A : Type 0} → Dec A → Type 0
Sure (yes a) = Unit {0}
Sure (no h) = ⊥

sure : {A : Type 0} (d : Dec A) → Sure d → A
sure (yes a) s = a
sure (no h) s = absurd s

-- lent words enough
abbrev pub tree : List ℕ
tree = replicate 6146 7

abbrev pub room : List ℕ
room = replicate 16384 7

lent : Enough tree room
lent = record { wide = omega (arith, length-replicate {A = ℕ} 6146 7); roomy = omega (arith, length-replicate {A = ℕ} 16384 7) }

-- a text in order: `m`
text-m : TextInOrder house (1 ∷ []) 1
unfolding house text_in dec_le dec_lt
text-m = sure (text_in house (1 ∷ []) 1) tt

-- one of a list
nth : ℕ → List Told → Told
nth n [] = record { answer = refusal 0 0; tree = []; room = [] }
nth zero (x ∷ l) = x
nth (suc n) (x ∷ l) = nth n l

-- its starred example
m_accepted : (afresh house (1 ∷ []) 1 tree room).answer ≡ accepted (five 0 0 0 1 3)
unfolding starred nth
m_accepted = ap (λ l. (nth 1 l).answer) (starred_right tree room lent.wide lent.roomy)

pub m_derived : (f : Row) × Within house (inserted (1 ∷ [])) 1 f
m_derived = read-only-if house house_accepted (1 ∷ []) 1 text-m tree room lent m_accepted

pub m-read : Written 1 tree m_derived.0 (afresh house (1 ∷ []) 1 tree room)
m-read = read-if house house_accepted (1 ∷ []) 1 text-m tree room lent m_derived.0 m_derived.1

-- a tree in order, `m m`, and edits in order: the first token removed
pub old : (r : NRow) × InOrder house row_mm r
unfolding house tree_in build table_of eqn ℕ_discrete dec_le dec_lt
old = sure (tree_in house row_mm house_accepted.layout) tt

pub edits : (es : List Edit) × EditsInOrder house (yield (erase old.0)) (0 ∷ 1 ∷ 0 ∷ []) [] es
unfolding house old sure tree_in build table_of eqn ℕ_discrete dec_le dec_lt edits_in
edits = sure (edits_in house (yield (erase old.0)) (0 ∷ 1 ∷ 0 ∷ []) []) tt

pub mm_updated : AsAfresh tree room (update house row_mm (0 ∷ 1 ∷ 0 ∷ []) [] tree room) (afresh house (kinds (new_text (yield (erase old.0)) edits.0 [])) 1 tree room)
mm_updated = ends_as_afresh house house_accepted row_mm (0 ∷ 1 ∷ 0 ∷ []) [] old.0 old.1 edits.0 edits.1 tree room lent

-- its new tree, by the starred example; what it keeps
mm_accepted : (update house row_mm (0 ∷ 1 ∷ 0 ∷ []) [] tree room).answer ≡ accepted (five 0 1 1 0 3)
unfolding starred nth
mm_accepted = ap (λ l. (nth 8 l).answer) (starred_right tree room lent.wide lent.roomy)

pub mm_new : NewTree house old.0 (get_or row_mm 1 0) (new_text (yield (erase old.0)) edits.0 []) tree (update house row_mm (0 ∷ 1 ∷ 0 ∷ []) [] tree room)
mm_new = new_tree house house_accepted row_mm (0 ∷ 1 ∷ 0 ∷ []) [] old.0 old.1 edits.0 edits.1 tree room lent mm_accepted

pub mm_keeps : {q i j : ℕ} {d e : NRow} → Sub q i d mm_new.new → 0 < toks (erase d) → Sub q j e old.0 → erase e ≡ erase d → (i ≡ j) × (d ≡ e)
mm_keeps = piece_keeps house house_accepted row_mm (0 ∷ 1 ∷ 0 ∷ []) [] old.0 old.1 edits.0 edits.1 tree room lent mm_new

-- refusal 7: `]`
text_b : TextInOrder house (3 ∷ []) 1
unfolding house text_in dec_le dec_lt
text_b = sure (text_in house (3 ∷ []) 1) tt

b_refused : (afresh house (3 ∷ []) 1 tree room).answer ≡ refusal 7 0
unfolding starred nth
b_refused = ap (λ l. (nth 4 l).answer) (starred_right tree room lent.wide lent.roomy)

pub b_underived : ((f : Row) → Derivation house (inserted (3 ∷ [])) f → ⊥) × PlaceOf house (inserted (3 ∷ [])) 0
b_underived = seven_means house house_accepted (3 ∷ []) 1 text_b tree room lent b_refused
