-- A row that derives what stands after an item's dot is what the machine makes of the row's tokens: so a derivation is found, or is
-- too large for the room, and a text has at most one.
use Rattle.std.specs.Prelude.{◌≡◌, refl, List, [], ◌∷◌, ◌++◌, ℕ, suc, ◌+◌, ◌<◌, length, drop}
use Rattle.std.proofs.Common.{ap, ◌∙◌, subst, append_assoc, append-nil, arith, length-drop}
use Rattle.std.proofs.Math.Option.{some}
use Rattle.definitions.specs.Table.{Sym, tm, nt, Act, err, acc, sh, red, Table, trans}
use Rattle.definitions.specs.Tree.{Tok, kind, Row, ∅, tok, nod, ◌⧺◌, size, yield, look, Prod, Der, d∅, dtok, dnod}
use Rattle.definitions.specs.Reading.{leaf, node, Stack, bot, push, top, pop, taken, refused}
use Rattle.definitions.specs.Moves.{to, spread}
use Rattle.theory.specs.Table.Lr.{After, Rules, Conditions}
use Rattle.theory.specs.Machine.Rows.{yield-row, count, look-append, append-∅, drop_tail}
use Rattle.theory.specs.Machine.Steps.{next, step, run, Steps, here, more, then, run_enough, run_short, run-accept}

module _ (G : Table) where
  pub pop-spread : (f g : Row) (σ : Stack) (m n : ℕ) → m ≡ count f + n → pop m (spread G f σ) g ≡ pop n σ (f ⧺ g)
  pop-spread ∅ g σ m n e = let e' : m ≡ n = omega arith in rw e' refl
  pop-spread (tok x f) g σ m n e = pop-spread f g _ m (suc n) (omega arith)
  pop-spread (nod q c f) g σ m n e = pop-spread f g _ m (suc n) (omega arith)

  pub count_der : {f : Row} {γ : List Sym} → Der G f γ → count f ≡ length γ
  count_der d∅ = refl
  count_der (dtok d) = ap suc (count_der d)
  count_der (dnod p c d) = ap suc (count_der d)

module _ (G : Table) (R : Rules G) (C : Conditions G) where
  shift_is : {s k t : ℕ} → trans G s (tm k) ≡ some t → G.act s k ≡ sh t
  shift_is {s} {k} {t} e = by (G.act s k) refl
    where
      by : (a : Act) → G.act s k ≡ a → G.act s k ≡ sh t
      by err q = cc
      by acc q = cc
      by (sh u) q = cc
      by (red p) q = cc

  pub shift-step : {σ : Stack} {x : Tok} {w : List Tok} {p d a : ℕ} {γ : List Sym} → G.Item (top σ) p d a → After G p d (tm (kind x)) γ
      → step G σ (x ∷ w) ≡ next (push σ (to G (top σ) (tm (kind x))) (leaf x)) w
  shift-step {σ} {x} {w} i h = rw (shift_is (C.c3 i h).1) (ap (next (push σ (C.c3 i h).0 (leaf x))) (yield-row w))

  pub reduce-step : {σ : Stack} {w : List Tok} {p d a q : ℕ} {c : Row} {γ : List Sym} → Prod G q → Der G c (G.rhs q) → G.Item (top σ) p d a → After G p d (nt (G.lhs q)) γ
      → G.Item (top (spread G c σ)) q (length (G.rhs q)) (look 0 w)
      → step G (spread G c σ) w ≡ next (push σ (to G (top σ) (nt (G.lhs q))) (node q c)) w
  reduce-step {σ} {q = q} {c = c} P D i h j =
      rw (C.c4_red j P.above, pop-spread G c ∅ σ (length (G.rhs q)) 0 (omega (arith, count_der G D)), append-∅, (C.c3 i h).1, yield-row) refl

  pub moved : {s p d a : ℕ} {X : Sym} {γ : List Sym} → G.Item s p d a → After G p d X γ → G.Item (to G s X) p (suc d) a
  moved i h = rw (C.c3 i h).1 (C.c3 i h).2

  -- steps from the node q over c go on from the tokens of c
  pub over : {σ σ' : Stack} {w w' : List Tok} {p d a q n : ℕ} {c : Row} {γ : List Sym} → Prod G q → Der G c (G.rhs q) → G.Item (top σ) p d a → After G p d (nt (G.lhs q)) γ
      → Steps G (size c) σ (yield c ++ w) (spread G c σ) w × G.Item (top (spread G c σ)) q (length (G.rhs q)) (look 0 w)
      → Steps G n (push σ (to G (top σ) (nt (G.lhs q))) (node q c)) w σ' w' → Steps G (size c + suc n) σ (yield c ++ w) σ' w'
  over P D i h kids rest = then G kids.0 (more (reduce-step P D i h kids.1) rest)

  pub reach : (σ : Stack) (w : List Tok) {f : Row} {γ : List Sym} {p d a : ℕ} → Der G f γ → drop d (G.rhs p) ≡ γ → G.Item (top σ) p d a → look 0 w ≡ a
      → Steps G (size f) σ (yield f ++ w) (spread G f σ) w × G.Item (top (spread G f σ)) p (length (G.rhs p)) a
  reach σ w {p = p} {d = d} d∅ e i l =
      let z : d ≡ length (G.rhs p) = omega (arith, ap length e, length-drop d (G.rhs p), R.range i) in (here, rw z at i)
  reach σ w {p = p} {d = d} (dtok {x = x} {γ = γ} D) e i l =
      let A : After G p d (tm (kind x)) γ = record { is = e } in
      let rest = reach (push σ (to G (top σ) (tm (kind x))) (leaf x)) w D (drop_tail (G.rhs p) d e) (moved i A) l in
      (more (shift-step {x = x} i A) rest.0, rest.1)
  reach σ w {p = p} {d = d} (dnod {q = q} {c = c} {f = f} {γ = γ} P Dc D) e i l =
      let A : After G p d (nt (G.lhs q)) γ = record { is = e } in
      let j : G.Item (top σ) q 0 (look 0 (yield f ++ w)) = rw (look-append 0 (yield f) w, l) (C.c2 i A P D) in
      let rest = reach (push σ (to G (top σ) (nt (G.lhs q))) (node q c)) w D (drop_tail (G.rhs p) d e) (moved i A) l in
      (rw append_assoc (over P Dc i A (reach σ (yield f ++ w) Dc refl j refl) rest.0), rest.1)

  -- the whole of a text: the answer is the tree itself, or 8 where it has more nodes than the room
  module _ {q : ℕ} {c : Row} (P : Prod G q) (S : G.lhs q ≡ G.start) (D : Der G c (G.rhs q)) where
    start_reach : Steps G (size c + 1) bot (yield c) (push bot (to G 0 (nt (G.lhs q))) (node q c)) [] × (G.act (to G 0 (nt (G.lhs q))) 0 ≡ acc)
    start_reach =
        let e : G.rhs 0 ≡ nt (G.lhs q) ∷ [] = rw S R.rhs0 in
        let r = reach bot [] (dnod P D d∅) e C.c1_start refl in
        let i : G.Item (to G 0 (nt (G.lhs q))) 0 1 0 = subst (λ n. G.Item (to G 0 (nt (G.lhs q))) 0 n 0) (ap length R.rhs0) r.1 in
        (simp append-nil at r.0, C.c4_acc i)

    pub complete : (r : ℕ) → run G (size c + 1 + r) bot (yield c) ≡ taken (push bot (to G 0 (nt (G.lhs q))) (node q c))
    complete r = run_enough G r start_reach.0 ∙ run-accept G r (push bot (to G 0 (nt (G.lhs q))) (node q c)) [] start_reach.1

    pub too_large : (r : ℕ) → r < size c + 1 → run G r bot (yield c) ≡ refused 8 0
    too_large r h = run_short G r start_reach.0 h

  -- two derivations of one text are one
  pub unique : {q q' : ℕ} {c c' : Row} → Prod G q → G.lhs q ≡ G.start → Der G c (G.rhs q) → Prod G q' → G.lhs q' ≡ G.start → Der G c' (G.rhs q')
      → yield c ≡ yield c' → node q c ≡ node q' c'
  unique {q} {q'} {c} {c'} P S D P' S' D' e =
      let r = size c + 1 + (size c' + 1) in
      let one = complete P S D (size c' + 1) in
      let two = complete P' S' D' (size c + 1) in
      let same : size c' + 1 + (size c + 1) ≡ size c + 1 + (size c' + 1) = omega arith in
      let two' = rw (same, ← e) at two in cc
