-- What the whole call tells: the words of a tree numbered afresh are the room's records with rising numbers, and each answer of the
-- code is the definitions' answer.
use Rattle.std.specs.Prelude.{◌≡◌, refl, Result, Ok, Err, List, [], ◌∷◌, ◌++◌, ℕ, zero, suc, ◌+◌, ◌*◌, ◌≤◌, ◌<◌, length, drop}
use Rattle.std.proofs.Math.Path.{sym, ap}
use Rattle.std.proofs.Common.{◌∙◌, subst}
use native.Mathlib.Omega.{arith}
use Rattle.std.proofs.Math.Decide.{dec_le}
use Rattle.definitions.specs.States.{Accepted}
use Rattle.definitions.specs.Table.{table_of}
use Rattle.definitions.specs.Tree.{Tok, mk, Row, ∅, tok, nod, row, size, yield, NRow, erase, words, written}
use Rattle.definitions.specs.Reading.{node, Stack, bot, push, held, End, taken, refused}
use Rattle.definitions.specs.Reading as Reading
use Rattle.definitions.specs.Moves.{Done, reading}
use Rattle.definitions.specs.Edits.{inserted}
use Rattle.definitions.specs.Answers.{refusal, Told, cleared, numbered, ending, finished, TextInOrder}
use Rattle.theory.specs.Numbers.Number.{number}
use Rattle.theory.specs.Numbers.KeptNumbers.{anew, afresh_next, afresh-size}
use Rattle.theory.specs.Numbers.Identities.{Blank, blank_inserted}
use Rattle.theory.specs.Records.Flat.{Word, wnod, flat, length-flat}
use Rattle.theory.specs.Records.FlatStack.{flat_s}
use Rattle.theory.specs.Edits.EditedText.{known_inserted, known_real}
use Rattle.theory.specs.Answers.{if_yes, if_no}
use Rattle.theory.specs.Demands.Afresh.{Reads, accepts, fresh_reads}
use Rattle.answers.specs.Values.{counts_of, value_of, refusal_of, number_of, place_of}
use Rattle.answers.specs.declared.Counts.{Counts}
use Rattle.answers.specs.declared.Refusal.{Refusal}
use Rattle.answers.specs.declared.Refusal.TheVariants.{Small, Layout, Grammar, States, OldTree, Text, NoAction, NoRoom, NoGoto, NoNumber}
use Rattle.machine.specs.Room.{kind_w, size_w, enc}
use Rattle.reading.specs.Write.{rising, rows, rows-rising, inscribed}
use Rattle.reading.specs.Turns.{end_of, counted, Accepts}

-- the code's answer with the two lent rows afterwards
abbrev pub told : Result Counts Refusal → List ℕ → List ℕ → Told
told a tree room = record { answer = value_of a; tree = tree; room = room }

-- a refusal is its number and its place
pub refuses_with : (e : Refusal) → refusal_of e ≡ refusal (number_of (refusal_of e)) (place_of (refusal_of e))
refuses_with Small = refl
refuses_with Layout = refl
refuses_with Grammar = refl
refuses_with States = refl
refuses_with OldTree = refl
refuses_with Text = refl
refuses_with (NoAction i) = refl
refuses_with NoRoom = refl
refuses_with NoGoto = refl
refuses_with NoNumber = refl

-- ---- the words of a tree numbered afresh
blank_left : (u v : List Tok) → Blank (u ++ v) → Blank u
blank_left [] v b = tt
blank_left (x ∷ u) v b = (b.0, blank_left u v b.1)

blank_right : (u v : List Tok) → Blank (u ++ v) → Blank v
blank_right [] v b = b
blank_right (x ∷ u) v b = blank_right u v b.1

pub rising-append : (a : ℕ) (u v : List Word) → rising a (u ++ v) ≡ rising a u ++ rising (a + length u) v
unfolding rising
rising-append a [] v = ap (λ (n : ℕ). rising n v) (omega arith)
rising-append a (w ∷ u) v =
    let e : suc a + length u ≡ a + suc (length u) = omega arith in
    ap (λ (l : List ℕ). kind_w w ∷ a ∷ size_w w ∷ l) (rising-append (suc a) u v ∙ ap (λ (n : ℕ). rising (suc a) u ++ rising n v) e)

-- kinds and sizes of its records, and its numbers upward from the first
pub words_of_fresh : (f : Row) → Blank (yield f) → (n : ℕ) → 0 < n → words (number anew f n).0 ≡ rising n (flat f)
unfolding rising number
words_of_fresh ∅ b n h = refl
words_of_fresh (tok (mk k zero) f) b n h = ap (λ (l : List ℕ). k ∷ n ∷ 1 ∷ l) (words_of_fresh f b.1 (suc n) (omega arith))
words_of_fresh (tok (mk k (suc i)) f) b n h = absurd (omega (arith, b.0))
words_of_fresh (nod q c f) b n h =
    let bc = blank_left (yield c) (yield f) b in
    let kc = words_of_fresh c bc n h in
    let e : (number anew c n).1 ≡ n + length (flat c) = afresh_next c bc n h ∙ omega (arith, length-flat c) in
    let z = afresh-size c bc n h in
    let kf = words_of_fresh f (blank_right (yield c) (yield f) b) (suc (n + length (flat c))) (omega arith) in
    rw (e, kc, z, kf) (sym (rising-append n (flat c) (wnod q (suc (size c)) ∷ flat f)))

-- ---- an accepted text's stack is its tree
module _ (t codes : List ℕ) (first : ℕ) (A : Accepted t) (X : TextInOrder t codes first) where
  abbrev pub done : Done
  done = reading (table_of t) 2048 (row (inserted codes))

  pub record Alone (σ : Stack) : Type 0 where
    pub state : ℕ
    pub prod : ℕ
    pub kids : Row
    pub is : σ ≡ push bot state (node prod kids)
    pub blank : Blank (yield (nod prod kids ∅))

  pub alone : {σ : Stack} → done.end ≡ taken σ → Alone σ
  alone {σ} e = by (taken σ) (subst (Reads t (inserted codes)) e (fresh_reads t A (inserted codes) (known_real _ (inserted codes) (known_inserted _ codes X.known)))) refl
    where
      by : (x : End) → Reads t (inserted codes) x → x ≡ taken σ → Alone σ
      by (taken τ) (accepts {s = s} {q = q} {c = c} z D l) y =
          let k : σ ≡ push bot s (node q c) = cc in
          record { state = s; prod = q; kids = c; is = k; blank = rw D.text (blank_inserted codes) }
      by (refused n i) r y = let z : ◌≡◌ {A = ℕ} 0 1 = cc in absurd (omega arith)

  -- ---- each answer
  module _ (tree lent : List ℕ) where
    ends_as : (d : Done) {e : End} {k : Reading.Counts} → d.end ≡ e → d.counts ≡ k → finished tree lent (λ f. number anew f first) d ≡ ending tree lent (λ f. number anew f first) k e
    ends_as d p q = rw (p, q) refl

    pub refuses : (e : Refusal) → done.end ≡ end_of e → told (Err e) tree (cleared lent) ≡ finished tree lent (λ f. number anew f first) done
    refuses e q = rw (refuses_with e) (sym (ends_as done q refl))

    module _ {r : List ℕ} {n i : ℕ} (R : Accepts r done n i) where
      S : Alone R.stack
      S = alone R.is

      f : Row
      f = nod S.prod S.kids ∅

      unfoldable N : NRow × ℕ
      N = number anew f first

      holds-tree : n ≡ size f
      unfolding f
      holds-tree = R.holds.many ∙ ap held S.is ∙ omega arith

      next : N.1 ≡ first + n
      unfolding N f
      next = afresh_next f S.blank first X.number ∙ ap (first +◌) (sym holds-tree)

      many : size (erase N.0) ≡ n
      unfolding N f
      many = afresh-size f S.blank first X.number ∙ sym holds-tree

      records : words N.0 ≡ rows first r n
      unfolding N f
      records =
          words_of_fresh f S.blank first X.number
          ∙ sym (rows-rising first r n (flat f) (holds-tree ∙ sym (length-flat f)) (R.holds.records ∙ ap (λ (σ : Stack). enc (flat_s σ)) S.is))

      judged : finished tree lent (λ f. number anew f first) done ≡ numbered tree lent N (counted n i)
      unfolding N f
      judged = ends_as done R.is R.counts ∙ ap (λ (σ : Stack). ending tree lent (λ f. number anew f first) (counted n i) (taken σ)) S.is

      pub too_many : 4294967295 < first + n → told (Err NoNumber) tree (cleared lent) ≡ finished tree lent (λ f. number anew f first) done
      too_many h = sym (judged ∙ if_no (dec_le N.1 4294967295) _ _ (λ l. omega (arith, next)))

      pub tells : (k : Counts) (tree' : List ℕ) → first + n ≤ 4294967295 → counts_of k ≡ counted n i → tree' ≡ inscribed first r n tree
          → told (Ok k) tree' (cleared lent) ≡ finished tree lent (λ f. number anew f first) done
      tells k tree' h z w =
          let u : written N.0 N.1 ++ drop (2 + 3 * size (erase N.0)) tree ≡ tree' = rw (records, next, many) (sym w) in
          sym (judged ∙ if_yes (dec_le N.1 4294967295) _ _ (omega (arith, next)) ∙ rw (u, ← z) refl)
