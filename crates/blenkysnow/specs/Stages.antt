-- The three stages of an update: what is lent is judged up to the old tree, the reading list of the edits is made, and the list is read. What
-- each leaves is a number or a refusal beside the room (crate edits, Made); together they tell what `Answers.update` has.
use Rattle.std.specs.Prelude.{◌≡◌, refl, Result, Ok, Err, IfOk, List, ℕ, ◌≤◌, ◌<◌, length, drop}
use Rattle.std.proofs.Common.{sym, ap, ◌∙◌, subst, arith}
use Rattle.std.proofs.Math.Path.{subst⁻¹}
use Rattle.definitions.specs.States.{Accepted}
use Rattle.definitions.specs.Tree.{NRow, InOrder}
use Rattle.definitions.specs.Edits.{Edit}
use Rattle.definitions.specs.Answers.{Told, refusal, refuse, cleared, finished}
use Rattle.definitions.specs.Answers as Answers
use Rattle.theory.specs.Answers.{update}
use Rattle.theory.specs.Demands.Calls.{Checks, Enough}
use Rattle.answers.specs.Values.{refusal_of, number_of, place_of}
use Rattle.answers.specs.declared.Refusal.{Refusal}
use Rattle.answers.specs.declared.Refusal.TheVariants.{Small, OldTree, Text}
use Rattle.table.specs.declared.Broken.{Broken}
use Rattle.table.specs.declared.Broken.TheVariants.{Layout, Grammar, States}
use Rattle.table.specs.Answer.{refusal_number}
use Rattle.table.specs.Refusals.{refusal as refused_as}
use Rattle.edits.specs.Made.{Tokens, Made, Lists, refused, six, made}
use Rattle.updating.specs.Turns.{Listed}
use Rattle.updating.specs.Finish.{Judged, list, listed, done, numbers, Ready, cleared_above}
use Rattle.blenkysnow.specs.Afresh.{small}
use Rattle.blenkysnow.specs.Update.{too_short', refused_by', no_tree, no_edits, reads_on, room_alone}

-- ---- what is lent, judged up to the old tree: its tokens, or the refusal

-- the tree to write and the room are long enough, by their words
abbrev pub Long : ℕ → ℕ → Type 0
Long tree room = (6146 ≤ tree) × (16384 ≤ room)

pub data OldTokens (t old room room' : List ℕ) (x : Result ℕ Refusal) : Type 0 where
  five : ((r : NRow) × InOrder t old r → ⊥) → x ≡ Err OldTree → OldTokens t old room room' x
  goes : (n : ℕ) → x ≡ Ok n → Tokens t old room' n → OldTokens t old room room' x

pub data Begun (t old : List ℕ) (wide : ℕ) (room room' : List ℕ) (x : Result ℕ Refusal) : Type 0 where
  one : (Long wide (length room) → ⊥) → x ≡ Err Small → room' ≡ room → Begun t old wide room room' x
  -- 2, 3 and 4
  by_table : Long wide (length room) → (e : Refusal) (k : ℕ) → 0 < k → Checks t k → refusal_of e ≡ refusal k 0 → x ≡ Err e → room' ≡ room → Begun t old wide room room' x
  by-tree : Long wide (length room) → Accepted t → OldTokens t old room room' x → drop 16384 room' ≡ drop 16384 room → Begun t old wide room room' x

-- a table that is refused is so with 2 or more, and the refusal has that number
pub table_refused : (b : Broken) → refusal_of (refused_as b) ≡ refusal (refusal_number b) 0
table_refused Layout = refl
table_refused Grammar = refl
table_refused (States c s) = refl

pub table_many : (b : Broken) → 0 < refusal_number b
table_many Layout = omega arith
table_many Grammar = omega arith
table_many (States c s) = omega arith

-- ---- the list in the room, or a refusal, which is one of 1 to 6 and at no place: what the last stage is handed
abbrev pub Early : Refusal → Type 0
Early e = (number_of (refusal_of e) ≤ 6) × (place_of (refusal_of e) ≡ 0)

pub data Handed (t old put tree room : List ℕ) (x : Result ℕ Refusal) : Type 0 where
  too_small : x ≡ Err Small → Handed t old put tree room x
  refusing : (e : Refusal) → x ≡ Err e → Early e → 16384 ≤ length room → Handed t old put tree room x
  reading : (m : ℕ) → x ≡ Ok m → Enough tree room → Ready t old put room m → Handed t old put tree room x

-- a table that is refused is so with 2 or more
checks_many : {t : List ℕ} {k : ℕ} → 0 < k → Checks t k → (1 < k) × (k ≤ 4)
checks_many p (Checks.takes a) = absurd (omega arith)
checks_many p (Checks.two l) = (omega arith, omega arith)
checks_many p (Checks.three l g) = (omega arith, omega arith)
checks_many p (Checks.four l g s) = (omega arith, omega arith)

-- ---- one result is not two
same_err : {A B : Type 0} {d e : B} → Path (Result A B) (Err d) (Err e) → d ≡ e
same_err {d = d} p = ap (elim [ Ok _ ↦ d | Err e ↦ e ]) p

pub same_ok : {A B : Type 0} {m n : A} → Path (Result A B) (Ok m) (Ok n) → m ≡ n
same_ok {m = m} p = ap (elim [ Ok n ↦ n | Err _ ↦ m ]) p

abbrev Went : {A B : Type 0} → Result A B → Type 0
Went (Ok n) = Unit {0}
Went (Err e) = ⊥

pub ok-err : {A B : Type 0} {n : A} {e : B} → Path (Result A B) (Ok n) (Err e) → ⊥
ok-err p = subst Went p tt

pub handed_no : {t old put tree room : List ℕ} {x : Result ℕ Refusal} (e : Refusal) → Handed t old put tree room x → x ≡ Err e → (e ≡ Small → ⊥) → Early e × (16384 ≤ length room)
handed_no e (too_small p) h n = absurd (n (same_err (sym h ∙ p)))
handed_no e (refusing d p y l) h n = (subst Early (same_err (sym p ∙ h)) y, l)
handed_no e (reading m p w r) h n = absurd (ok-err (sym p ∙ h))

pub handed_list : {t old put tree room : List ℕ} {x : Result ℕ Refusal} (m : ℕ) → Handed t old put tree room x → x ≡ Ok m → Enough tree room × Ready t old put room m
handed_list m (too_small p) h = absurd (ok-err (sym h ∙ p))
handed_list m (refusing d p y l) h = absurd (ok-err (sym h ∙ p))
handed_list {t} {old} {put} {tree} {room} m (reading n p w r) h = (w, subst (Ready t old put room) (same_ok (sym p ∙ h)) r)

-- ---- the end: the refusal, or what the reading of the list tells
pub record Ended (t old put tree room : List ℕ) (x : Result ℕ Refusal) (y : Told) : Type 0 where
  pub too_small : x ≡ Err Small → y ≡ small tree room
  pub refuses : (e : Refusal) → x ≡ Err e → (e ≡ Small → ⊥) → y ≡ record { answer = refusal_of e; tree = tree; room = cleared room }
  pub reads : (m : ℕ) → x ≡ Ok m → (edits : List ℕ) (r : NRow) (es : List Edit) (J : Judged t old edits put r es) → Listed t old put room m (list J) → y ≡ finished tree room (numbers J) (done J)

-- the second stage may be asked for
pub may_list : {t old room room₁ : List ℕ} {wide : ℕ} {x : Result ℕ Refusal} → Begun t old wide room room₁ x → IfOk x (Tokens t old room₁)
may_list {t} {old} {room} {room₁} b = by b
  where
    no : {x : Result ℕ Refusal} {e : Refusal} → x ≡ Err e → IfOk x (Tokens t old room₁)
    no p = subst⁻¹ (λ (y : Result ℕ Refusal). IfOk y (Tokens t old room₁)) p tt

    by : {wide : ℕ} {x : Result ℕ Refusal} → Begun t old wide room room₁ x → IfOk x (Tokens t old room₁)
    by (one h e r) = no e
    by (by_table E e k p c v q r) = no q
    by (by-tree E a (five h e) r) = no e
    by (by-tree E a (goes n e k) r) = subst⁻¹ (λ (y : Result ℕ Refusal). IfOk y (Tokens t old room₁)) e k

abbrev ready : {t old words put room₁ room₂ : List ℕ} {n m : ℕ} → Accepted t → Tokens t old room₁ n → Made t old words put room₁ room₂ m → Ready t old put room₂ m
ready {t} {old} {words} {put} a k M =
    let o = M.order k.tree k.stands in
    let J : Judged t old words put k.tree o.0 = record { table = a; tree = k.stands; changes = o.1 } in
    (words, k.tree, o.0, J, listed J (M.pending k.tree o.0 k.stands o.1) M.counted)

-- a refusal with the room cleared
cleared_as : {t old put tree room₂ : List ℕ} {x : Result ℕ Refusal} {y : Told} (room : List ℕ) (e : Refusal) (k : ℕ) → x ≡ Err e → (e ≡ Small → ⊥) → refusal_of e ≡ refusal k 0
    → Ended t old put tree room₂ x y → drop 16384 room₂ ≡ drop 16384 room → y ≡ refuse tree room k 0
cleared_as {t} {old} {put} {tree} {room₂} room e k p n v F r =
    F.refuses e p n ∙ ap (λ (a : Answers.Answer). record { answer = a; tree = tree; room = cleared room₂ }) v
    ∙ ap (λ (c : List ℕ). record { answer = refusal k 0; tree = tree; room = c }) (cleared_above room₂ room r)

-- a refusal of 2 or more is not that of 1
not-small : {e : Refusal} {k : ℕ} → refusal_of e ≡ refusal k 0 → 1 < k → e ≡ Small → ⊥
not-small {e} {k} v h s = let z : 1 ≡ k = ap number_of (ap refusal_of (sym s) ∙ v) in omega arith

module _ {t old words put tree room room₁ room₂ : List ℕ} {x y : Result ℕ Refusal} (same₁ : length room₁ ≡ length room) (same₂ : length room₂ ≡ length room₁) where
  -- and the third
  pub may_end : Begun t old (length tree) room room₁ x → Lists t old words put room₁ room₂ x y → Handed t old put tree room₂ y
  may_end (one h e r) (refused d p q s) = too_small (q ∙ ap Err (same_err (sym p ∙ e)))
  may_end (one h e r) (six n p q s z) = absurd (ok-err (sym p ∙ e))
  may_end (one h e r) (made n p m q M) = absurd (ok-err (sym p ∙ e))
  may_end (by_table E e k l c v i r) (refused d p q s) =
      let w = E.1 in let b = checks_many l c in
      refusing d q (subst⁻¹ Early (same_err (sym p ∙ i)) (subst⁻¹ (λ (a : Answers.Answer). (number_of a ≤ 6) × (place_of a ≡ 0)) v (omega (arith, b.1), refl))) (omega arith)
  may_end (by_table E e k l c v i r) (six n p q s z) = absurd (ok-err (sym p ∙ i))
  may_end (by_table E e k l c v i r) (made n p m q M) = absurd (ok-err (sym p ∙ i))
  may_end (by-tree E a (five h e) r) (refused d p q s) = let w = E.1 in refusing d q (subst⁻¹ Early (same_err (sym p ∙ e)) (omega arith, refl)) (omega arith)
  may_end (by-tree E a (five h e) r) (six n p q s z) = absurd (ok-err (sym p ∙ e))
  may_end (by-tree E a (five h e) r) (made n p m q M) = absurd (ok-err (sym p ∙ e))
  may_end (by-tree E a (goes i e k) r) (refused d p q s) = absurd (ok-err (sym e ∙ p))
  may_end (by-tree E a (goes i e k) r) (six n p q s z) = let w = k.roomy in refusing Text q (omega arith, refl) (omega arith)
  may_end (by-tree E a (goes i e k) r) (made n p m q M) = let w = k.roomy in reading m q (record { wide = E.0; roomy = omega arith }) (ready a k M)

  -- what the three tell is the call
  pub told_all : {z : Told} → Begun t old (length tree) room room₁ x → Lists t old words put room₁ room₂ x y → Ended t old put tree room₂ y z → z ≡ update t old words put tree room
  told_all (one h e r) (refused d p q s) F =
      F.too_small (q ∙ ap Err (same_err (sym p ∙ e))) ∙ ap (small tree) (s ∙ r) ∙ sym (too_short' t old words put tree room (λ E. h (E.wide, E.roomy)))
  told_all (one h e r) (six n p q s z) F = absurd (ok-err (sym p ∙ e))
  told_all (one h e r) (made n p m q M) F = absurd (ok-err (sym p ∙ e))
  told_all (by_table E e k l c v i r) (refused d p q s) F =
      cleared_as room e k (q ∙ ap Err (same_err (sym p ∙ i))) (not-small v (checks_many l c).0) v F (ap (drop 16384) (s ∙ r)) ∙ sym (refused_by' t old words put tree room E.0 E.1 k l c)
  told_all (by_table E e k l c v i r) (six n p q s z) F = absurd (ok-err (sym p ∙ i))
  told_all (by_table E e k l c v i r) (made n p m q M) F = absurd (ok-err (sym p ∙ i))
  told_all (by-tree E a (five h e) r) (refused d p q s) F =
      cleared_as room OldTree 5 (q ∙ ap Err (same_err (sym p ∙ e))) (not-small refl (omega arith)) refl F (ap (drop 16384) s ∙ r) ∙ sym (no_tree t old words put tree room E.0 E.1 a h)
  told_all (by-tree E a (five h e) r) (six n p q s z) F = absurd (ok-err (sym p ∙ e))
  told_all (by-tree E a (five h e) r) (made n p m q M) F = absurd (ok-err (sym p ∙ e))
  told_all (by-tree E a (goes i e k) r) (refused d p q s) F = absurd (ok-err (sym e ∙ p))
  told_all (by-tree E a (goes i e k) r) (six n p q s z) F =
      cleared_as room Text 6 q (not-small refl (omega arith)) refl F (ap (drop 16384) s ∙ r) ∙ sym (no_edits t old words put tree room E.0 E.1 a k.tree k.stands (z k.tree k.stands))
  told_all (by-tree E a (goes i e k) r) (made n p m q M) F =
      let R = ready a k M in
      F.reads m q R.0 R.1 R.2 R.3 R.4 ∙ room_alone tree room₂ room (numbers R.3) (done R.3) (cleared_above room₂ room (M.rest ∙ r))
      ∙ sym (reads_on t old words put tree room E.0 E.1 a R.1 R.2 R.3)
