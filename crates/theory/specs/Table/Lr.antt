-- What the theorems use of an accepted table: the grammar rules and the seven conditions over right sides and derivations.
-- (`Bridge` shows that every accepted sheet's table has them.)
use Rattle.std.specs.Prelude.{◌≡◌, List, [], ◌∷◌, ℕ, suc, ◌≤◌, ◌<◌, length, drop}
use Rattle.std.proofs.Math.Option.{some}
use Rattle.definitions.specs.Table.{Sym, tm, nt, acc, red, Table, trans}
use Rattle.definitions.specs.Tree.{Row, yield, look, Prod, Der}

module _ (G : Table) where
  -- in (p,d) the symbol X stands after the dot, and γ after X
  pub record After (p d : ℕ) (X : Sym) (γ : List Sym) : Type 0 where
    pub is : drop d (G.rhs p) ≡ X ∷ γ

  -- condition 7's chain, which ends in the item (p,d) of s
  pub data Chain (s : ℕ) : ℕ → ℕ → Type 0 where
    origin : {a : ℕ} → G.Item s 0 0 a → Chain s 0 0
    kernel : {p d a : ℕ} → G.Item s p (suc d) a → Chain s p (suc d)
    link : {p d q a : ℕ} {γ : List Sym} → Chain s p d → After p d (nt (G.lhs q)) γ → G.Item s q 0 a → Chain s q 0

  pub record Rules : Type 0 where
    pub rhs0 : G.rhs 0 ≡ nt G.start ∷ []
    pub exist : {s p d a : ℕ} → G.Item s p d a → p < G.prods
    pub range : {s p d a : ℕ} → G.Item s p d a → d ≤ length (G.rhs p)
    pub no_end : {p d : ℕ} {γ : List Sym} → After p d (tm 0) γ → ⊥
    -- every nonterminal of a right side derives some string
    pub productive : {p d B : ℕ} {γ : List Sym} → After p d (nt B) γ → (q : ℕ) × (c : Row) × Prod G q × (G.lhs q ≡ B) × Der G c (G.rhs q)

  pub record Conditions : Type 0 where
    pub c1_start : G.Item 0 0 0 0
    pub c1_dot : {p d a : ℕ} → G.Item 0 p (suc d) a → ⊥
    pub c1_end : {s d a : ℕ} → G.Item s 0 d a → a ≡ 0
    pub c1_only : {s a : ℕ} → G.Item s 0 0 a → s ≡ 0
    pub c2 : {s p d a q : ℕ} {γ : List Sym} {f : Row} → G.Item s p d a → After p d (nt (G.lhs q)) γ → Prod G q → Der G f γ → G.Item s q 0 (look a (yield f))
    pub c3 : {s p d a : ℕ} {X : Sym} {γ : List Sym} → G.Item s p d a → After p d X γ → (t : ℕ) × (trans G s X ≡ some t) × G.Item t p (suc d) a
    pub c4_red : {s p a : ℕ} → G.Item s p (length (G.rhs p)) a → 0 < p → G.act s a ≡ red p
    pub c4_acc : {s a : ℕ} → G.Item s 0 1 a → G.act s a ≡ acc
    pub c5_trans : (s : ℕ) (X : Sym) {t : ℕ} → trans G s X ≡ some t → (p d a : ℕ) × (γ : List Sym) × G.Item s p d a × After p d X γ
    pub c5_red : {s p a : ℕ} → G.act s a ≡ red p → G.Item s p (length (G.rhs p)) a
    pub c5_acc : {s a : ℕ} → G.act s a ≡ acc → (a ≡ 0) × G.Item s 0 1 0
    pub c6 : (s : ℕ) (X : Sym) {t p d a : ℕ} → G.Item t p (suc d) a → trans G s X ≡ some t → After p d X (drop (suc d) (G.rhs p)) × ((b : ℕ) × G.Item s p d b)
    pub c7 : {s p a : ℕ} → G.Item s p 0 a → 0 < p → Chain s p 0
