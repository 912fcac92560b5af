-- A row of words read back: a reader that makes of the words of a derivation with small token kinds that derivation again.
use Rattle.std.specs.Prelude.{◌≡◌, length}
use Rattle.std.proofs.Math.Path.{refl, ap}
use Rattle.std.proofs.Common.{sym, ◌∙◌, arith}
use mathlib.Core.List.{List, [], ◌∷◌, ◌++◌, append_assoc, append-nil}
use Rattle.std.proofs.Math.Option.{Option, none, some}
use Prim.Native.Nat.{ℕ, zero, suc, ◌+◌, ◌-◌, ◌≤◌, ◌<◌}
use Rattle.std.proofs.Math.Decide.{dec_lt}
use Rattle.definitions.specs.Table.{Sym, Table}
use Rattle.definitions.specs.Tree.{size, Der, NRow, ε, ntok, nnod, erase, words, Kinds}
use Rattle.theory.specs.Tree.Derive.{parts}

-- a stack of pieces is a row, the last piece first. n pieces off it, in text order before f, and what is left
abbrev pub pull : ℕ → NRow → NRow → Option (NRow × NRow)
pull zero σ f = some (f, σ)
pull (suc n) ε f = none
pull (suc n) (ntok k i σ) f = pull n σ (ntok k i f)
pull (suc n) (nnod q i c σ) f = pull n σ (nnod q i c f)

-- pieces onto the stack; and before others
abbrev pub heap : NRow → NRow → NRow
heap ε σ = σ
heap (ntok k i f) σ = heap f (ntok k i σ)
heap (nnod q i c f) σ = heap f (nnod q i c σ)

abbrev pub join : NRow → NRow → NRow
join ε g = g
join (ntok k i f) g = ntok k i (join f g)
join (nnod q i c f) g = nnod q i c (join f g)

pub join-ε : (f : NRow) → join f ε ≡ f
join-ε ε = refl
join-ε (ntok k i f) = ap (ntok k i) (join-ε f)
join-ε (nnod q i c f) = ap (nnod q i c) (join-ε f)

-- how many pieces
abbrev pub pieces : NRow → ℕ
pieces ε = 0
pieces (ntok k i f) = suc (pieces f)
pieces (nnod q i c f) = suc (pieces f)

-- what was put there is pulled off
pub pull-heap : (f g σ : NRow) (m n : ℕ) → m ≡ pieces f + n → pull m (heap f σ) g ≡ pull n σ (join f g)
pull-heap ε g σ m n e = let z : m ≡ n = omega arith in rw z refl
pull-heap (ntok k i f) g σ m n e = pull-heap f g (ntok k i σ) m (suc n) (omega arith)
pull-heap (nnod q i c f) g σ m n e = pull-heap f g (nnod q i c σ) m (suc n) (omega arith)

-- the node of q numbered i over the pieces pulled
abbrev pub cover : ℕ → ℕ → Option (NRow × NRow) → Option NRow
cover q i none = none
cover q i (some x) = some (nnod q i x.0 x.1)

abbrev pub bind : Option NRow → (NRow → Option NRow) → Option NRow
bind none k = none
bind (some σ) k = k σ

-- token kinds are below 256
abbrev pub Small : NRow → Type 0
Small ε = Unit {0}
Small (ntok k i f) = (k < 256) × Small f
Small (nnod q i c f) = Small c × Small f

pub small : (T : ℕ) → T ≤ 256 → (r : NRow) → Kinds T r → Small r
small T h ε k = tt
small T h (ntok x i f) k = (omega (arith, k.1), small T h f k.2)
small T h (nnod q i c f) k = (small T h c k.0, small T h f k.1)

module _ (G : Table) where
  -- one node onto the stack, by its kind and number
  abbrev pub put : {A : Type 0} → Dec A → ℕ → ℕ → NRow → Option NRow
  put (yes h) k i σ = some (ntok k i σ)
  put (no h) k i σ = cover (k - 256) i (pull (length (G.rhs (k - 256))) σ ε)

  -- the words onto the stack, three a node; the sizes are not looked at
  unfoldable pub build : List ℕ → NRow → Option NRow
  build [] σ = some σ
  build (k ∷ []) σ = none
  build (k ∷ i ∷ []) σ = none
  build (k ∷ i ∷ s ∷ l) σ = bind (put (dec_lt k 256) k i σ) (λ τ. build l τ)

  put_token : {A : Type 0} (d : Dec A) (k i : ℕ) (σ : NRow) → A → put d k i σ ≡ some (ntok k i σ)
  put_token (yes h) k i σ a = refl
  put_token (no h) k i σ a = absurd (h a)

  put_node : {A : Type 0} (d : Dec A) (q i : ℕ) (c σ : NRow) → (A → ⊥) → length (G.rhs q) ≡ pieces c → put d (256 + q) i (heap c σ) ≡ some (nnod q i c σ)
  put_node (yes h) q i c σ a e = absurd (a h)
  put_node (no h) q i c σ a e =
      let z : 256 + q - 256 ≡ q = omega arith in
      rw (z, pull-heap c ε σ (length (G.rhs q)) 0 (omega arith), join-ε c) refl

  -- a derivation of γ has as many pieces as γ has symbols
  pub der_pieces : (f : NRow) (γ : List Sym) → Der G (erase f) γ → length γ ≡ pieces f
  der_pieces ε [] D = refl
  der_pieces ε (X ∷ γ) D = absurd (parts G D)
  der_pieces (ntok k i f) [] D = absurd (parts G D)
  der_pieces (ntok k i f) (X ∷ γ) D = ap suc (der_pieces f γ (parts G D).1)
  der_pieces (nnod q i c f) [] D = absurd (parts G D)
  der_pieces (nnod q i c f) (X ∷ γ) D = ap suc (der_pieces f γ (parts G D).1.1)

  -- the words of a derivation put its pieces onto the stack
  pub build-words : (f : NRow) (γ : List Sym) → Der G (erase f) γ → Small f → (l : List ℕ) (σ : NRow) → build (words f ++ l) σ ≡ build l (heap f σ)
  unfolding build
  build-words ε γ D s l σ = refl
  build-words (ntok k i f) [] D s l σ = absurd (parts G D)
  build-words (ntok k i f) (X ∷ γ) D s l σ =
      ap (λ o. bind o (λ τ. build (words f ++ l) τ)) (put_token (dec_lt k 256) k i σ s.0)
      ∙ build-words f γ (parts G D).1 s.1 l (ntok k i σ)
  build-words (nnod q i c f) [] D s l σ = absurd (parts G D)
  build-words (nnod q i c f) (X ∷ γ) D s l σ =
      let d = (parts G D).1 in
      ap (λ w. build w σ) (append_assoc (words c) ((256 + q) ∷ i ∷ suc (size (erase c)) ∷ words f) l)
      ∙ build-words c (G.rhs q) d.0.1 s.0 ((256 + q) ∷ i ∷ suc (size (erase c)) ∷ (words f ++ l)) σ
      ∙ ap (λ o. bind o (λ τ. build (words f ++ l) τ)) (put_node (dec_lt (256 + q) 256) q i c σ (λ h. omega arith) (der_pieces c (G.rhs q) d.0.1))
      ∙ build-words f γ d.1 s.1 l (nnod q i c σ)

  -- one piece alone on the stack is the piece
  heap_one : (f : NRow) (X : Sym) → Der G (erase f) (X ∷ []) → heap f ε ≡ f
  heap_one ε X D = refl
  heap_one (ntok k i ε) X D = refl
  heap_one (ntok k i (ntok l j f)) X D = absurd (parts G (parts G D).1)
  heap_one (ntok k i (nnod q j c f)) X D = absurd (parts G (parts G D).1)
  heap_one (nnod q i c ε) X D = refl
  heap_one (nnod q i c (ntok l j f)) X D = absurd (parts G (parts G D).1.1)
  heap_one (nnod q i c (nnod p j d f)) X D = absurd (parts G (parts G D).1.1)

  -- the words of a piece make the piece
  pub build-piece : (f : NRow) (X : Sym) → Der G (erase f) (X ∷ []) → Small f → build (words f) ε ≡ some f
  unfolding build
  build-piece f X D s =
      ap (λ w. build w ε) (sym (append-nil (words f))) ∙ build-words f (X ∷ []) D s [] ε ∙ ap some (heap_one f X D)
