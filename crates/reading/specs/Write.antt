-- The tree's words off the room's records, numbered upward from the first number, written three at a time.
use Rattle.std.specs.Prelude.{◌≡◌, refl, List, [], ◌∷◌, ◌++◌, ℕ, zero, suc, ◌+◌, ◌*◌, ◌≤◌, length, get_or, take, drop, set}
use Rattle.std.proofs.Common.{sym, ap, ◌∙◌, append_assoc, append-nil, add-zero, add-one, arith, length-append, length-drop, take_at, drop-drop, get_or-drop}
use Rattle.std.proofs.lemmas.List.Edits.{sets-eq}
use Rattle.std.proofs.lemmas.List.Edits.{paste_all, paste-paste}
use Rattle.std.proofs.Math.Seq.{paste, drop-append-add}
use Rattle.theory.specs.Records.Flat.{Word}
use Rattle.machine.specs.Room.{kind_w, ident_w, size_w, enc}

-- records numbered from a number upward, in their written order
unfoldable pub rising : ℕ → List Word → List ℕ
rising a [] = []
rising a (w ∷ l) = kind_w w ∷ a ∷ size_w w ∷ rising (suc a) l

-- the same off a row of words, the first j nodes
unfoldable pub rows : ℕ → List ℕ → ℕ → List ℕ
rows a r zero = []
rows a r (suc j) = rows a r j ++ (get_or r (3 * j) 0 ∷ (a + j) ∷ get_or r (3 * j + 2) 0 ∷ [])

pub length-rows : (a : ℕ) (r : List ℕ) (j : ℕ) → length (rows a r j) ≡ 3 * j
unfolding rows
length-rows a r zero = refl
length-rows a r (suc j) = simp length-append (omega (arith, length-rows a r j))

peel : (l : List ℕ) (n a b c : ℕ) {m : List ℕ} → take (suc (suc (suc n))) l ≡ a ∷ b ∷ c ∷ m → (get_or l 0 0 ≡ a) × (get_or l 2 0 ≡ c) × (take n (drop 3 l) ≡ m)
peel [] n a b c e = let z : ◌≡◌ {A = ℕ} 0 1 = cc in absurd (omega arith)
peel (x ∷ []) n a b c e = let z : ◌≡◌ {A = ℕ} 0 1 = cc in absurd (omega arith)
peel (x ∷ y ∷ []) n a b c e = let z : ◌≡◌ {A = ℕ} 0 1 = cc in absurd (omega arith)
peel (x ∷ y ∷ z ∷ l) n a b c e = (cc, cc, cc)

rows_from : (a : ℕ) (r : List ℕ) (k : ℕ) (ws : List Word) → take (3 * length ws) (drop (3 * k) r) ≡ enc ws → rows a r (k + length ws) ≡ rows a r k ++ rising (a + k) ws
unfolding rows rising enc
rows_from a r k [] e = rw add-zero (sym (append-nil (rows a r k)))
rows_from a r k (w ∷ ws) e =
    let m = length ws in
    let g : 3 * suc m ≡ suc (suc (suc (3 * m))) = omega arith in
    let p = peel (drop (3 * k) r) (3 * m) (kind_w w) (ident_w w) (size_w w) (rw g at e) in
    let k3 : 3 * k + 3 ≡ 3 * suc k = omega arith in
    let z : 3 * k + 0 ≡ 3 * k = omega arith in
    let x : get_or r (3 * k) 0 ≡ kind_w w = ap (λ (i : ℕ). get_or r i 0) (sym z) ∙ sym (get_or-drop (3 * k) r 0 0) ∙ p.0 in
    let y : get_or r (3 * k + 2) 0 ≡ size_w w = sym (get_or-drop (3 * k) r 2 0) ∙ p.1 in
    let t : take (3 * m) (drop (3 * suc k) r) ≡ enc ws = rw (← k3, ← drop-drop) p.2 in
    let s : k + suc m ≡ suc k + m = omega arith in
    let u : a + suc k ≡ suc (a + k) = omega arith in
    ap (rows a r) s ∙ rows_from a r (suc k) ws t ∙ rw (x, y, u) (append_assoc (rows a r k) (kind_w w ∷ (a + k) ∷ size_w w ∷ []) (rising (suc (a + k)) ws))

-- the records that the room holds
pub rows-rising : (a : ℕ) (r : List ℕ) (n : ℕ) (ws : List Word) → n ≡ length ws → take (3 * n) r ≡ enc ws → rows a r n ≡ rising a ws
unfolding rows
rows-rising a r n ws h e =
    let z : a + 0 ≡ a = omega arith in
    let y : 0 + length ws ≡ length ws = omega arith in
    ap (rows a r) (h ∙ sym y) ∙ rows_from a r 0 ws (rw h at e) ∙ rw z refl

-- ---- the loop that writes
pub append3 : (X t : List ℕ) (i a b c : ℕ) → length X ≡ i → i + 3 ≤ length t → set (set (set (X ++ drop i t) i a) (i + 1) b) (i + 2) c ≡ (X ++ (a ∷ b ∷ c ∷ [])) ++ drop (i + 3) t
append3 X t i a b c e h =
    let p : i + 1 ≡ suc i = omega arith in
    let q : i + 2 ≡ suc (suc i) = omega arith in
    let l : i + 3 ≤ length (X ++ drop i t) = simp (length-append, length-drop) (omega arith) in
    let d : drop (i + 3) (X ++ drop i t) ≡ drop (i + 3) t = ap (λ (n : ℕ). drop (n + 3) (X ++ drop i t)) (sym e) ∙ drop-append-add X (drop i t) 3 ∙ drop-drop 3 i t in
    rw (p, q, sets-eq (a ∷ b ∷ c ∷ []) (X ++ drop i t) i l, take_at X (drop i t) i e, d) refl

-- three words written one by one are a block
pub three : (l : List ℕ) (i a b c : ℕ) → i + 3 ≤ length l → set (set (set l i a) (i + 1) b) (i + 2) c ≡ paste l i (a ∷ b ∷ c ∷ []) 3
three l i a b c h =
    let w = a ∷ b ∷ c ∷ [] in
    let e : i + 1 ≡ suc i = omega arith in
    let f : i + 2 ≡ suc (suc i) = omega arith in
    rw (e, f) (sets-eq w l i h ∙ append_assoc (take i l) w (drop (i + 3) l)) ∙ sym (paste_all l i w 3 refl)

-- the first j nodes written over a tree from its third word on
abbrev pub sofar : ℕ → List ℕ → List ℕ → ℕ → List ℕ
sofar a r t j = paste t 2 (rows a r j) (3 * j)

pub row_more : (a : ℕ) (r t : List ℕ) (j : ℕ) → 2 ≤ length t
    → paste (sofar a r t j) (2 + 3 * j) (get_or r (3 * j) 0 ∷ (a + j) ∷ get_or r (3 * j + 2) 0 ∷ []) 3 ≡ sofar a r t (j + 1)
unfolding rows
row_more a r t j h =
    let w = get_or r (3 * j) 0 ∷ (a + j) ∷ get_or r (3 * j + 2) 0 ∷ [] in
    let e : 3 * j + 3 ≡ 3 * suc j = omega arith in
    paste-paste t 2 (rows a r j) w (3 * j) 3 (sym (length-rows a r j)) refl h ∙ rw (add-one, e) refl

-- n nodes of a row written over a tree: count, next number, records
abbrev pub inscribed : ℕ → List ℕ → ℕ → List ℕ → List ℕ
inscribed a r n tree = (n ∷ (a + n) ∷ rows a r n) ++ drop (2 + 3 * n) tree

pub sofar_all : (a : ℕ) (r t : List ℕ) (n : ℕ) → 2 ≤ length t → sofar a r (set (set t 0 n) 1 (a + n)) n ≡ inscribed a r n t
sofar_all a r [] n h = absurd (omega arith)
sofar_all a r (x ∷ []) n h = absurd (omega arith)
sofar_all a r (x ∷ y ∷ t) n h =
    let e : 2 + 3 * n ≡ suc (suc (3 * n)) = omega arith in
    paste_all (n ∷ (a + n) ∷ t) 2 (rows a r n) (3 * n) (sym (length-rows a r n)) ∙ rw e refl
