-- Records of a run copied onto the stack, the state after each the one that the state at its start leads to; and that a row copied so is
-- the row put on the stack.
use Rattle.std.specs.Prelude.{◌≡◌, Some, None, List, [], ◌∷◌, ◌++◌, length, take}
use Rattle.std.specs.Prelude as Prelude
use Rattle.std.specs.Option.{unwrap_or}
use Rattle.std.proofs.Math.Path.{refl, ap, subst}
use Rattle.std.proofs.Common.{sym, ◌∙◌, append-nil, append_assoc, length-append, length-take, get_or-take, lt-ltb, le-ltb}
use Rattle.std.proofs.Math.Option
use Rattle.std.proofs.Math.Option.{Option, some}
use Prim.Native.Nat.{ℕ, zero, suc, ◌+◌, ◌-◌, ◌*◌, ◌≤◌, ◌<◌}
use native.Mathlib.Omega.{arith}
use Rattle.std.proofs.Math.Decide.{dec_lt}
use Rattle.std.proofs.Math.Nat.{add-sub_cancel_left}
use Rattle.std.proofs.Math.ListN.{get_or, get_elem?}
use Rattle.std.proofs.Math.Seq.{take-length}
use Rattle.definitions.specs.Table.{Sym, tm, nt, Table, trans}
use Rattle.definitions.specs.Tree.{kind, Row, ∅, tok, nod, size}
use Rattle.definitions.specs.Reading.{leaf, node, Stack, push, top, held}
use Rattle.definitions.specs.Moves.{to, spread, right_break, standing}
use Rattle.theory.specs.Records.Flat.{Word, wtok, wnod, flat, length-flat, trim}
use Rattle.theory.specs.Records.FlatStack.{flat_s, break_flat, standing-flat}
use Rattle.theory.specs.Records.Stand.{at_left, at_right, Stand, agree_stand, agree_self, bound}
use Rattle.machine.specs.Lookups.{goto_is}
use Rattle.machine.specs.Room.{kind_w, ident_w, size_w, enc, states_at, States, over, Holds, put}
use Rattle.machine.specs.Laws.{enc-append, length-flat_s, top_state, states_stand, put_other, put_state, put-records}
use Rattle.updating.specs.Records.{sym_k, num_k, cell, Fine, Coded, Reads}
use Rattle.updating.specs.Cut.{cut, break_cut, flat-cut}

-- ---- where a state leads on a kind
pub by-goto : (G : Table) (s k : ℕ) {x : Option ℕ} → 256 ≤ k → x ≡ G.goto s (G.lhs (k - 256)) → x ≡ trans G s (sym_k G k)
by-goto G s k h e = rw (le-ltb k 256 h) e

-- or 0, as `to` has it
pub or_zero : (G : Table) (s k : ℕ) (o : Prelude.Option ℕ) → goto_is o ≡ trans G s (sym_k G k) → unwrap_or o 0 ≡ to G s (sym_k G k)
or_zero G s k o e = by o ∙ ap (λ (x : Option ℕ). Option.get_or x 0) e
  where
    by : (o : Prelude.Option ℕ) → unwrap_or o 0 ≡ Option.get_or (goto_is o) 0
    by (Some v) = refl
    by None = refl

abbrev pub sym_w : Table → Word → Sym
sym_w G (wtok x) = tm (kind x)
sym_w G (wnod q n) = nt (G.lhs q)

sym-kind : (G : Table) (w : Word) → Fine G w → sym_k G (kind_w w) ≡ sym_w G w
sym-kind G (wtok x) f = rw (lt-ltb (kind x) 256 f.1) refl
sym-kind G (wnod q n) f = rw (le-ltb (256 + q) 256 (omega arith), add-sub_cancel_left 256 q) refl

-- ---- nodes are the first records of ws
pub record Front (G : Table) (nodes : List (List ℕ)) (ws : List Word) : Type 0 where
  pub few : length nodes ≤ length ws
  pub at : (i : ℕ) (w : Word) → i < length nodes → get_elem? ws i ≡ some w → Coded G nodes i w

pub front : {G : Table} {nodes : List (List ℕ)} {ws : List Word} (m : ℕ) → Reads G nodes ws → Front G (take m nodes) ws
front {G} {nodes} m R =
    let l = length-take m nodes in
    record {
      few = omega (arith, R.many);
      at = λ i w h e.
          let c = R.at i w e in
          let z : get_or (take m nodes) i [] ≡ get_or nodes i [] = get_or-take m nodes i [] (omega arith) in
          record {
            fine = c.fine;
            kind = ap (λ (u : List ℕ). get_or u 0 0) z ∙ c.kind;
            ident = ap (λ (u : List ℕ). num_k (kind_w w) (get_or u 1 0)) z ∙ c.ident;
            size = ap (λ (u : List ℕ). get_or u 2 0) z ∙ c.size;
          };
    }

-- ---- the first j records of ws copied after the n nodes of r₀
pub record Copied (G : Table) (r₀ r : List ℕ) (n : ℕ) (ws : List Word) (j : ℕ) : Type 0 where
  pub records : take (3 * (n + j)) r ≡ take (3 * n) r₀ ++ enc (take j ws)
  pub states : (i : ℕ) → i ≤ n → get_or r (states_at + i) 0 ≡ get_or r₀ (states_at + i) 0
  pub led : (i : ℕ) (w : Word) → i < j → get_elem? ws i ≡ some w → get_or r (states_at + (n + suc i)) 0 ≡ to G (get_or r (states_at + (n + suc i - size_w w)) 0) (sym_w G w)

pub none_copied : (G : Table) (r : List ℕ) (n : ℕ) (ws : List Word) → Copied G r r n ws 0
unfolding enc
none_copied G r n ws = let z : n + 0 ≡ n = omega arith in record { records = rw z (sym (append-nil (take (3 * n) r))); states = λ i h. refl; led = λ i w h e. absurd (omega arith) }

take-one : (ws : List Word) (j : ℕ) {w : Word} → get_elem? ws j ≡ some w → take (suc j) ws ≡ take j ws ++ (w ∷ [])
take-one [] j e = let z : ◌≡◌ {A = ℕ} 0 1 = cc in absurd (omega arith)
take-one (x ∷ ws) zero {w} e = let z : x ≡ w = cc in rw z refl
take-one (x ∷ ws) (suc j) e = ap (x ∷◌) (take-one ws j e)

-- sizes reach back, and not beyond the start of ws
pub record Rooted (ws : List Word) : Type 0 where
  pub at : (i : ℕ) (w : Word) → get_elem? ws i ≡ some w → (0 < size_w w) × (size_w w ≤ suc i)

root-some : {q n : ℕ} (f : Row) (t : ℕ) → get_elem? (flat f) t ≡ some (wnod q n) → 0 < n
root-some ∅ t e = let z : ◌≡◌ {A = ℕ} 0 1 = cc in absurd (omega arith)
root-some (tok x f) zero e = let z : ◌≡◌ {A = ℕ} 0 1 = cc in absurd (omega arith)
root-some (tok x f) (suc t) e = root-some f t e
root-some {q} {n} (nod p c f) t e = by (dec_lt t (size c)) (dec_lt (size c) t) (λ z. root-some c t z) (λ z. root-some f (t - suc (size c)) z)
  where
    x : Word
    x = wnod p (suc (size c))

    by : Dec (t < size c) → Dec (size c < t) → (get_elem? (flat c) t ≡ some (wnod q n) → 0 < n) → (get_elem? (flat f) (t - suc (size c)) ≡ some (wnod q n) → 0 < n) → 0 < n
    by (yes h) g kc kf = kc (sym (at_left (flat c) (x ∷ flat f) t (omega (arith, length-flat c))) ∙ e)
    by (no h) (yes g) kc kf = kf (sym (at_right (flat c) (x ∷ flat f) t (suc (t - suc (size c))) (omega (arith, length-flat c))) ∙ e)
    by (no h) (no g) kc kf =
        let u = sym (at_right (flat c) (x ∷ flat f) t 0 (omega (arith, length-flat c))) ∙ e in
        let v : suc (size c) ≡ n = cc in omega arith

pub rooted : (f : Row) → Rooted (flat f)
rooted f = record { at = by }
  where
    by : (i : ℕ) (w : Word) → get_elem? (flat f) i ≡ some w → (0 < size_w w) × (size_w w ≤ suc i)
    by i (wtok x) e = (omega arith, omega arith)
    by i (wnod q n) e = (root-some f i e, bound f i e)

module _ (G : Table) {r₀ r : List ℕ} {n : ℕ} {ws : List Word} {j : ℕ} (C : Copied G r₀ r n ws j) (R : Rooted ws) (long : 16384 ≤ length r) (room : n + j < 2048) where
  -- one record more, as the run has it
  pub copied_one : {nodes : List (List ℕ)} (w : Word) → get_elem? ws j ≡ some w → Coded G nodes j w
      → (s : ℕ) → s ≡ to G (get_or r (states_at + (n + j + 1 - cell nodes j 2)) 0) (sym_k G (cell nodes j 0))
      → Copied G r₀ (put r (n + j) s (cell nodes j 0) (num_k (cell nodes j 0) (cell nodes j 1)) (cell nodes j 2)) n ws (j + 1)
  unfolding enc
  copied_one {nodes} w e c s z =
      let p : j + 1 ≡ suc j = omega arith in
      let m : n + suc j ≡ n + j + 1 = omega arith in
      let k = c.kind in
      let i = c.ident in
      let v = c.size in
      let u = R.at j w e in
      let s' : s ≡ to G (get_or r (states_at + (n + j + 1 - size_w w)) 0) (sym_w G w) = z ∙ rw (v, k, sym-kind G w c.fine) refl in
      rw (k, i, v) (record {
        records = rw (p, m) (put-records r (n + j) s (kind_w w) (ident_w w) (size_w w) long room ∙ rw C.records (append_assoc (take (3 * n) r₀) (enc (take j ws)) (kind_w w ∷ ident_w w ∷ size_w w ∷ [])
            ∙ ap (take (3 * n) r₀ ++◌) (sym (ap enc (take-one ws j e) ∙ enc-append (take j ws) (w ∷ [])))));
        states = λ b h. put_other r (n + j) s (kind_w w) (ident_w w) (size_w w) (states_at + b) (omega arith) (omega arith) ∙ C.states b h;
        led = λ b x h f. by s s' b x h f (dec_lt b j);
      })
    where
      by : (s : ℕ) → s ≡ to G (get_or r (states_at + (n + j + 1 - size_w w)) 0) (sym_w G w) → (b : ℕ) (x : Word) → b < j + 1 → get_elem? ws b ≡ some x → Dec (b < j)
          → get_or (put r (n + j) s (kind_w w) (ident_w w) (size_w w)) (states_at + (n + suc b)) 0 ≡ to G (get_or (put r (n + j) s (kind_w w) (ident_w w) (size_w w)) (states_at + (n + suc b - size_w x)) 0) (sym_w G x)
      by s z b x h f (yes l) =
          let u = R.at b x f in
          put_other r (n + j) s (kind_w w) (ident_w w) (size_w w) (states_at + (n + suc b)) (omega arith) (omega arith) ∙ C.led b x l f
          ∙ ap (λ (y : ℕ). to G y (sym_w G x)) (sym (put_other r (n + j) s (kind_w w) (ident_w w) (size_w w) (states_at + (n + suc b - size_w x)) (omega arith) (omega arith)))
      by s z b x h f (no l) =
          let b' : b ≡ j = omega arith in
          let f' = ap (get_elem? ws) (sym b') ∙ f in
          let x' : w ≡ x = cc in
          let u = R.at j w e in
          let m : n + suc b ≡ n + j + 1 = omega arith in
          subst (λ (y : Word). get_or (put r (n + j) s (kind_w w) (ident_w w) (size_w w)) (states_at + (n + suc b)) 0 ≡ to G (get_or (put r (n + j) s (kind_w w) (ident_w w) (size_w w)) (states_at + (n + suc b - size_w y)) 0) (sym_w G y)) x'
          (rw m (put_state r (n + j) s (kind_w w) (ident_w w) (size_w w) long room ∙ z
          ∙ ap (λ (y : ℕ). to G y (sym_w G w)) (sym (put_other r (n + j) s (kind_w w) (ident_w w) (size_w w) (states_at + (n + j + 1 - size_w w)) (omega arith) (omega arith)))))

-- ---- a row whose records are copied is on the stack
module _ (G : Table) {r₀ r : List ℕ} {n : ℕ} {ws : List Word} {j : ℕ} (C : Copied G r₀ r n ws j) where
  spread-states : (f : Row) (σ : Stack) (a : ℕ) → held σ ≡ n + a → a + size f ≤ j → Stand ws a f → States r σ → States r (spread G f σ)
  spread-states ∅ σ a h l s S = S
  spread-states (tok x f) σ a h l s S =
      let e : states_at + held (push σ (to G (top σ) (tm (kind x))) (leaf x)) ≡ states_at + (n + suc a) = omega arith in
      let d : states_at + (n + suc a - 1) ≡ states_at + held σ = omega arith in
      let z = C.led a (wtok x) (omega arith) s.0 in
      spread-states f (push σ (to G (top σ) (tm (kind x))) (leaf x)) (a + 1) (omega arith) (omega arith) s.1
      (over {σ = σ} {s = to G (top σ) (tm (kind x))} {t = leaf x} (ap (λ (i : ℕ). get_or r i 0) e ∙ z ∙ ap (λ (y : ℕ). to G y (tm (kind x))) (ap (λ (i : ℕ). get_or r i 0) d ∙ top_state S)) S)
  spread-states (nod q c f) σ a h l s S =
      let e : states_at + held (push σ (to G (top σ) (nt (G.lhs q))) (node q c)) ≡ states_at + (n + suc (a + size c)) = omega arith in
      let d : states_at + (n + suc (a + size c) - suc (size c)) ≡ states_at + held σ = omega arith in
      let z = C.led (a + size c) (wnod q (suc (size c))) (omega arith) s.0.1 in
      spread-states f (push σ (to G (top σ) (nt (G.lhs q))) (node q c)) (a + suc (size c)) (omega arith) (omega arith) s.1
      (over {σ = σ} {s = to G (top σ) (nt (G.lhs q))} {t = node q c} (ap (λ (i : ℕ). get_or r i 0) e ∙ z ∙ ap (λ (y : ℕ). to G y (nt (G.lhs q))) (ap (λ (i : ℕ). get_or r i 0) d ∙ top_state S)) S)

-- all of what a right-break leaves of a piece's children: the stack that it leaves
pub copied_all : (G : Table) {r₀ r : List ℕ} {n j : ℕ} {σ : Stack} (c : Row) → j ≡ standing c → Holds r₀ n σ → Copied G r₀ r n (trim (flat c)) j → Holds r (n + j) (right_break G c σ)
copied_all G {r₀} {r} {n} {j} {σ} c e h C =
    let l : length (trim (flat c)) ≡ j = standing-flat c ∙ sym e in
    let f = break_flat G c σ in
    let w : trim (flat c) ≡ flat (cut c) = sym (flat-cut c) in
    let m : size (cut c) ≡ j = sym (length-flat (cut c)) ∙ ap length (flat-cut c) ∙ l in
    record {
      many = omega (arith, h.many, length-flat_s (right_break G c σ), ap length f, length-append (flat_s σ) (trim (flat c)), length-flat_s σ);
      states = rw (break_cut G c σ)
          (spread-states G C (cut c) σ 0 (omega (arith, h.many)) (omega arith) (rw w (agree_stand (flat (cut c)) 0 (cut c) (agree_self (flat (cut c)))))
          (states_stand (λ i a b. index i a (C.states (i - states_at) (omega (arith, h.many)))) h.states));
      records = C.records ∙ rw (h.records, ← l, take-length) (sym (ap enc f ∙ enc-append (flat_s σ) (trim (flat c))));
    }
  where
    index : (i : ℕ) → states_at ≤ i → get_or r (states_at + (i - states_at)) 0 ≡ get_or r₀ (states_at + (i - states_at)) 0 → get_or r i 0 ≡ get_or r₀ i 0
    index i a z = let k : states_at + (i - states_at) ≡ i = omega arith in rw k at z
