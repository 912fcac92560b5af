-- Document 01, "Kept numbers": the rule that says which numbers a new tree has.
use Rattle.std.specs.Prelude.{◌≡◌, List, [], ◌∷◌, ◌++◌, ℕ, suc, ◌≤◌, ◌<◌}
use Rattle.std.proofs.Math.Decide.{dec_le, dec_lt}
use Rattle.definitions.specs.Tree.{mk, Row, ∅, tok, nod, toks, NRow, ε, ntok, nnod, erase, occ}

-- the node of production q numbered i over d is in the row
pub data Sub (q i : ℕ) (d : NRow) : NRow → Type 0 where
  here : {f : NRow} → Sub q i d (nnod q i d f)
  under : {p j : ℕ} {c f : NRow} → Sub q i d c → Sub q i d (nnod p j c f)
  later : {p j : ℕ} {c f : NRow} → Sub q i d f → Sub q i d (nnod p j c f)
  past : {k j : ℕ} {f : NRow} → Sub q i d f → Sub q i d (ntok k j f)

abbrev pub below? : {A : Type 0} → Dec A → ℕ → ℕ
below? (yes h) i = i
below? (no h) i = 0

-- the row that was numbered: a token whose number is not below n was an inserted one
unfoldable pub cut : ℕ → ℕ → ℕ
cut n i = below? (dec_lt i n) i

abbrev pub forget : ℕ → Row → Row
forget n ∅ = ∅
forget n (tok (mk k i) f) = tok (mk k (cut n i)) (forget n f)
forget n (nod q c f) = nod q (forget n c) (forget n f)

-- the numbers from n on, in written order
abbrev pub sift : {A : Type 0} → Dec A → ℕ → List ℕ → List ℕ
sift (yes h) i l = i ∷ l
sift (no h) i l = l

unfoldable pub add : ℕ → ℕ → List ℕ → List ℕ
add n i l = sift (dec_le n i) i l

abbrev pub news : ℕ → NRow → List ℕ
news n ε = []
news n (ntok k i f) = add n i (news n f)
news n (nnod q i c f) = news n c ++ add n i (news n f)

-- the list is n, n + 1 and so on up to m
abbrev pub Rises : ℕ → List ℕ → ℕ → Type 0
Rises n [] m = n ≡ m
Rises n (x ∷ l) m = (x ≡ n) × Rises (suc n) l m

-- what lets a node keep its number alone (production, number, children): in document 01 nothing
abbrev pub Nothing : ℕ → ℕ → Row → Type 0
Nothing q i c = ⊥

module _ (old : NRow) (K : ℕ → ℕ → Row → Type 0) where
  -- each inner node lies in a piece with tokens taken whole from the old tree, or keeps its number alone, or has a number from n on
  pub data Cover (n : ℕ) : NRow → Type 0 where
    cε : Cover n ε
    ctok : {k i : ℕ} {f : NRow} → Cover n f → Cover n (ntok k i f)
    ccopy : {q i : ℕ} {d f : NRow} → Sub q i d old → 0 < toks (erase d) → Cover n f → Cover n (nnod q i d f)
    ckeep : {q i : ℕ} {c f : NRow} → K q i (forget n (erase c)) → Cover n c → Cover n f → Cover n (nnod q i c f)
    cnew : {q i : ℕ} {c f : NRow} → n ≤ i → Cover n c → Cover n f → Cover n (nnod q i c f)

  -- r, with the next number m, numbers the row f after the old tree with the next number n
  pub record Rule (n : ℕ) (f : Row) (r : NRow) (m : ℕ) : Type 0 where
    -- the tree is f, and its old tokens have their old numbers
    pub is_row : forget n (erase r) ≡ f
    pub low : occ 0 r ≡ 0
    -- "Pieces are equal when kinds, shape and token numbers agree. A new piece that has tokens and equals an old such piece takes
    -- that piece's numbers throughout."
    pub equal : {q i j : ℕ} {d e : NRow} → Sub q i d r → 0 < toks (erase d) → Sub q j e old → erase e ≡ erase d → (i ≡ j) × (d ≡ e)
    pub own : {q i j : ℕ} {d : NRow} → Sub q i d r → K q j (forget n (erase d)) → i ≡ j
    -- "Other nodes take the next number upward, in written order; the new next number is raised by exactly as many."
    pub others : Cover n r
    pub rises : Rises n (news n r) m

  -- "or is the whole tree .. (the whole tree only the whole tree, if it has no tokens)"
  pub data Kept (n : ℕ) (f : Row) : NRow → ℕ → Type 0 where
    the_same : erase old ≡ f → toks f ≡ 0 → Kept n f old n
    by_rule : {r : NRow} {m : ℕ} → ((erase old ≡ f) × (toks f ≡ 0) → ⊥) → Rule n f r m → Kept n f r m
