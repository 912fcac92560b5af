-- Decisions that compute. Nothing here has to be believed: the type of each says what it decides.
use Rattle.std.specs.Prelude.{◌≡◌, refl, ℕ}
use Rattle.std.proofs.Math.Decide.{ℕ_discrete}
use Rattle.std.proofs.Common.{sym, arith}
use Rattle.definitions.specs.Tree.{Tok, mk, Row, ∅, tok, nod}

abbrev pub map_d : {A B : Type 0} → (A → B) → (B → A) → Dec A → Dec B
map_d f g (yes a) = yes (f a)
map_d f g (no h) = no (λ b. h (g b))

abbrev pub and_d : {A B : Type 0} → Dec A → Dec B → Dec (A × B)
and_d (no h) b = no (λ p. h p.0)
and_d (yes a) (yes b) = yes (a, b)
and_d (yes a) (no h) = no (λ p. h p.1)

-- equal tokens have equal parts, and those alone
pub same_tok : {k l i j : ℕ} → (k ≡ l) × (i ≡ j) → mk k i ≡ mk l j
same_tok p = let a = p.0 in let b = p.1 in cc

pub tok_parts : {k l i j : ℕ} → mk k i ≡ mk l j → (k ≡ l) × (i ≡ j)
tok_parts e = (cc, cc)

abbrev pub tok_d : (x y : Tok) → Dec (x ≡ y)
tok_d (mk k i) (mk l j) = map_d same_tok tok_parts (and_d (ℕ_discrete k l) (ℕ_discrete i j))

-- and so of rows of pieces
pub same_lead : {x y : Tok} {f g : Row} → (x ≡ y) × (f ≡ g) → tok x f ≡ tok y g
same_lead p = let a = p.0 in let b = p.1 in cc

pub lead_parts : {x y : Tok} {f g : Row} → tok x f ≡ tok y g → (x ≡ y) × (f ≡ g)
lead_parts e = (cc, cc)

pub same_node : {q p : ℕ} {c d f g : Row} → (q ≡ p) × ((c ≡ d) × (f ≡ g)) → nod q c f ≡ nod p d g
same_node t = let a = t.0 in let b = t.1.0 in let e = t.1.1 in cc

pub node_parts : {q p : ℕ} {c d f g : Row} → nod q c f ≡ nod p d g → (q ≡ p) × ((c ≡ d) × (f ≡ g))
node_parts e = (cc, (cc, cc))

pub ∅-tok : {x : Tok} {g : Row} → ∅ ≡ tok x g → ⊥
∅-tok e = let z : ◌≡◌ {A = ℕ} 0 1 = cc in omega arith

pub ∅-nod : {q : ℕ} {c g : Row} → ∅ ≡ nod q c g → ⊥
∅-nod e = let z : ◌≡◌ {A = ℕ} 0 1 = cc in omega arith

pub tok-nod : {x : Tok} {q : ℕ} {f c g : Row} → tok x f ≡ nod q c g → ⊥
tok-nod e = let z : ◌≡◌ {A = ℕ} 0 1 = cc in omega arith

abbrev pub row_d : (f g : Row) → Dec (f ≡ g)
row_d ∅ ∅ = yes refl
row_d ∅ (tok x g) = no ∅-tok
row_d ∅ (nod q c g) = no ∅-nod
row_d (tok x f) ∅ = no (λ e. ∅-tok (sym e))
row_d (tok x f) (tok y g) = map_d same_lead lead_parts (and_d (tok_d x y) (row_d f g))
row_d (tok x f) (nod q c g) = no tok-nod
row_d (nod q c f) ∅ = no (λ e. ∅-nod (sym e))
row_d (nod q c f) (tok x g) = no (λ e. tok-nod (sym e))
row_d (nod q c f) (nod p d g) = map_d same_node node_parts (and_d (ℕ_discrete q p) (and_d (row_d c d) (row_d f g)))
