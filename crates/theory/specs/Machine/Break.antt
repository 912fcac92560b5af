-- The definitions' `right_break` is what document 01's loop comes to, in `suc (breaks c)` breaks, and the loop comes to one thing alone.
use Rattle.std.specs.Prelude.{◌≡◌, refl, List, [], ◌∷◌, ℕ, suc, ◌+◌}
use Rattle.std.proofs.Common.{ap, append-nil, suc-add, zero-add, arith}
use Rattle.definitions.specs.Table.{tm, nt, Table}
use Rattle.definitions.specs.Tree.{Tok, kind, Row, ∅, tok, nod, yield}
use Rattle.definitions.specs.Reading.{leaf, node, Stack, push, top}
use Rattle.definitions.specs.Moves.{pick, to, spread, Breaks, done, off, open!, right_break, breaks}
use Rattle.theory.specs.Machine.Rows.{append-empty}

-- u has a token, or the top of the stack is one
pub data At : List Tok → Stack → Type 0 where
  by_tok : {x : Tok} {u : List Tok} {σ : Stack} → At (x ∷ u) σ
  by_top : {u : List Tok} {σ : Stack} {s : ℕ} {y : Tok} → At u (push σ s (leaf y))

module _ (G : Table) where
  -- some turns of the loop
  data Part : ℕ → Stack → Stack → Type 0 where
    p0 : {σ : Stack} → Part 0 σ σ
    poff : {n s q : ℕ} {c : Row} {σ τ : Stack} → yield c ≡ [] → Part n σ τ → Part (suc n) (push σ s (node q c)) τ
    popen : {n s q : ℕ} {c : Row} {σ τ : Stack} {x : Tok} {u : List Tok} → yield c ≡ x ∷ u → Part n (spread G c σ) τ → Part (suc n) (push σ s (node q c)) τ

  chain : {m n : ℕ} {σ τ υ : Stack} → Part m σ τ → Part n τ υ → Part (m + n) σ υ
  chain p0 g = rw zero-add g
  chain (poff e f) g = rw suc-add (poff e (chain f g))
  chain (popen e f) g = rw suc-add (popen e (chain f g))

  bare : (f : Row) (σ : Stack) → yield f ≡ [] → right_break G f σ ≡ σ
  bare ∅ σ e = refl
  bare (tok x f) σ e = cc
  bare (nod q c f) σ e = let k = append-empty (yield c) (yield f) e in rw k.1 (bare c σ k.0)

  -- from the row on the stack
  part : (f : Row) (σ : Stack) → Part (breaks f) (spread G f σ) (right_break G f σ)
  part ∅ σ = p0
  part (tok x f) σ = part f (push σ (to G (top σ) (tm (kind x))) (leaf x))
  part (nod q c f) σ = by (part c σ) (part f σ') (yield f) refl (yield c) refl
    where
      σ' : Stack
      σ' = push σ (to G (top σ) (nt (G.lhs q))) (node q c)

      by : Part (breaks c) (spread G c σ) (right_break G c σ) → Part (breaks f) (spread G f σ') (right_break G f σ') → (u : List Tok) → yield f ≡ u → (v : List Tok) → yield c ≡ v
          → Part (pick u (breaks f + suc (pick v 0 (breaks c))) (breaks f)) (spread G f σ') (pick u (right_break G c σ) (right_break G f σ'))
      by bc bf [] e [] z = rw (bare c σ z) (chain bf (rw (bare f σ' e) (poff z p0)))
      by bc bf [] e (y ∷ v) z = chain bf (rw (bare f σ' e) (popen z bc))
      by bc bf (x ∷ u) e v z = bf

  -- and there the top is a token
  pub token_top : (f : Row) (σ : Stack) → At (yield f) σ → At [] (right_break G f σ)
  token_top ∅ σ h = h
  token_top (tok x f) σ h = token_top f (push σ (to G (top σ) (tm (kind x))) (leaf x)) by_top
  token_top (nod q c f) σ h = by (λ k. token_top c σ k) (λ k. token_top f σ' k) (yield f) refl
    where
      σ' : Stack
      σ' = push σ (to G (top σ) (nt (G.lhs q))) (node q c)

      by : (At (yield c) σ → At [] (right_break G c σ)) → (At (yield f) σ' → At [] (right_break G f σ')) → (u : List Tok) → yield f ≡ u
          → At [] (pick u (right_break G c σ) (right_break G f σ'))
      by kc kf [] e = kc (rw (e, append-nil) at h)
      by kc kf (x ∷ u) e = kf (rw e by_tok)

  -- the loop ends there
  ended : {n : ℕ} {σ τ : Stack} → Part n σ τ → At [] τ → Breaks G n σ τ
  ended p0 by_top = done
  ended (poff e f) t = off e (ended f t)
  ended (popen e f) t = open! e (ended f t)

  pub broken : {x : Tok} {u : List Tok} (c : Row) (σ : Stack) (s q : ℕ) → yield c ≡ x ∷ u → Breaks G (suc (breaks c)) (push σ s (node q c)) (right_break G c σ)
  broken c σ s q e = open! e (ended (part c σ) (token_top c σ (rw e by_tok)))

  -- one end, and one number of breaks
  pub one_break : {m n : ℕ} {σ τ υ : Stack} → Breaks G m σ τ → Breaks G n σ υ → (m ≡ n) × (τ ≡ υ)
  one_break done done = (refl, refl)
  one_break (off e f) (off e' g) = let k = one_break f g in (ap suc k.0, k.1)
  one_break (off e f) (open! e' g) = let z : ◌≡◌ {A = ℕ} 0 1 = cc in absurd (omega arith)
  one_break (open! e f) (off e' g) = let z : ◌≡◌ {A = ℕ} 0 1 = cc in absurd (omega arith)
  one_break (open! e f) (open! e' g) = let k = one_break f g in (ap suc k.0, k.1)
