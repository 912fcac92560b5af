-- Laws of the room: what one record more leaves standing, and that the room then holds one piece more.
use Rattle.std.specs.Prelude.{◌≡◌, refl, List, [], ◌∷◌, ◌++◌, ℕ, suc, ◌+◌, ◌*◌, ◌≤◌, ◌<◌, length, get_or, take, drop, set}
use Rattle.std.proofs.Common.{sym, ap, ◌∙◌, append_assoc, append-nil, arith, length-append, length-set, take_at, take-take, drop-set-lt, get_or-set_same, get_or-set_other, length-take-le, get_or-take, get_or-append-add}
use Rattle.std.proofs.lemmas.List.Edits.{sets-eq}
use Rattle.std.proofs.lemmas.List.{take-set-le}
use Rattle.definitions.specs.Tree.{Tok, ∅, size}
use Rattle.definitions.specs.Reading.{Tree, leaf, node, cons, Stack, bot, push, top, held}
use Rattle.theory.specs.Records.Flat.{Word, wtok, wnod, flat, length-flat}
use Rattle.theory.specs.Records.FlatStack.{flat_s}
use Rattle.machine.specs.Room.{kind_w, ident_w, size_w, enc, states_at, states_end, States, base, over, Holds, row3, put}

pub enc-append : (a b : List Word) → enc (a ++ b) ≡ enc a ++ enc b
unfolding enc
enc-append [] b = refl
enc-append (w ∷ a) b = ap (λ l. kind_w w ∷ ident_w w ∷ size_w w ∷ l) (enc-append a b)

pub length-enc : (a : List Word) → length (enc a) ≡ 3 * length a
unfolding enc
length-enc [] = refl
length-enc (w ∷ a) = omega (arith, length-enc a)

-- a piece's records: those inside, and its root last
abbrev pub last : Tree → Word
last (leaf x) = wtok x
last (node q c) = wnod q (suc (size c))

abbrev pub inside : Tree → List Word
inside (leaf x) = []
inside (node q c) = flat c

pub flat_push : (σ : Stack) (s : ℕ) (t : Tree) → flat_s (push σ s t) ≡ (flat_s σ ++ inside t) ++ (last t ∷ [])
flat_push σ s (leaf x) = rw append-nil refl
flat_push σ s (node q c) = sym (append_assoc (flat_s σ) (flat c) (wnod q (suc (size c)) ∷ []))

pub size-last : (t : Tree) → size (cons t ∅) ≡ size_w (last t)
size-last (leaf x) = refl
size-last (node q c) = omega arith

pub length-inside : (t : Tree) → length (inside t) + 1 ≡ size (cons t ∅)
length-inside (leaf x) = refl
length-inside (node q c) = omega (arith, length-flat c)

-- so many records as nodes held
pub length-flat_s : (σ : Stack) → length (flat_s σ) ≡ held σ
length-flat_s bot = refl
length-flat_s (push σ s t) =
    ap length (flat_push σ s t)
    ∙ omega (arith, length-append (flat_s σ ++ inside t) (last t ∷ []), length-append (flat_s σ) (inside t), length-inside t, length-flat_s σ)

pub top_state : {r : List ℕ} {σ : Stack} → States r σ → get_or r (states_at + held σ) 0 ≡ top σ
top_state (base x) = x
top_state (over x h) = x

pub states_stand : {r r' : List ℕ} {σ : Stack} → ((j : ℕ) → states_at ≤ j → j ≤ states_at + held σ → get_or r' j 0 ≡ get_or r j 0) → States r σ → States r' σ
states_stand k (base x) = base (k states_at (omega arith) (omega arith) ∙ x)
states_stand k (over {σ = σ} {s = s} {t = t} x h) = over {σ = σ} {s = s} {t = t} (k _ (omega arith) (omega arith) ∙ x) (states_stand (λ j a b. k j a (omega arith)) h)

-- the words up to the states' end are all that holds a stack
pub holds_stand : {r r' : List ℕ} {n : ℕ} {σ : Stack} → n ≤ 2048 → take states_end r' ≡ take states_end r → Holds r n σ → Holds r' n σ
holds_stand {r} {r'} {n} l e h =
    record {
      many = h.many;
      states = states_stand (λ j a b. sym (get_or-take states_end r' j 0 (omega (arith, h.many))) ∙ ap (λ (k : List ℕ). get_or k j 0) e ∙ get_or-take states_end r j 0 (omega (arith, h.many))) h.states;
      records = sym (take-take (3 * n) states_end r' (omega arith)) ∙ ap (take (3 * n)) e ∙ take-take (3 * n) states_end r (omega arith) ∙ h.records;
    }

module _ (r : List ℕ) (n s a b c : ℕ) where
  abbrev r1 : List ℕ
  r1 = set r (3 * n) a

  abbrev r2 : List ℕ
  r2 = set r1 (3 * n + 1) b

  abbrev r3 : List ℕ
  r3 = row3 r n a b c

  pub put_other : (j : ℕ) → 3 * n + 3 ≤ j → j < states_at + (n + 1) → get_or (put r n s a b c) j 0 ≡ get_or r j 0
  put_other j h l =
      get_or-set_other r3 (states_at + (n + 1)) j s 0 (λ e. omega arith)
      ∙ get_or-set_other r2 (3 * n + 2) j c 0 (λ e. omega arith)
      ∙ get_or-set_other r1 (3 * n + 1) j b 0 (λ e. omega arith)
      ∙ get_or-set_other r (3 * n) j a 0 (λ e. omega arith)

  pub put_rest : n < 2048 → drop states_end (put r n s a b c) ≡ drop states_end r
  put_rest h =
      drop-set-lt states_end r3 (states_at + (n + 1)) s (omega arith)
      ∙ drop-set-lt states_end r2 (3 * n + 2) c (omega arith)
      ∙ drop-set-lt states_end r1 (3 * n + 1) b (omega arith)
      ∙ drop-set-lt states_end r (3 * n) a (omega arith)

  module _ (long : 16384 ≤ length r) (h : n < 2048) where
    pub put_state : get_or (put r n s a b c) (states_at + (n + 1)) 0 ≡ s
    put_state = get_or-set_same r3 (states_at + (n + 1)) s 0 (simp length-set (omega arith))

    pub put-records : take (3 * (n + 1)) (put r n s a b c) ≡ take (3 * n) r ++ (a ∷ b ∷ c ∷ [])
    put-records =
        let e : 3 * n + 1 ≡ suc (3 * n) = omega arith in
        let f : 3 * n + 2 ≡ suc (suc (3 * n)) = omega arith in
        take-set-le (3 * (n + 1)) r3 (states_at + (n + 1)) s (omega arith)
        ∙ rw (e, f, sets-eq (a ∷ b ∷ c ∷ []) r (3 * n) (omega arith)) (take_at (take (3 * n) r ++ (a ∷ b ∷ c ∷ [])) _ (3 * (n + 1)) (simp length-append (omega (arith, length-take-le (3 * n) r (omega arith)))))

-- one record w more: the room holds τ with t on it, where the records of that are those of σ and w
pub pushed : {r : List ℕ} {n : ℕ} {σ : Stack} (w : Word) (τ : Stack) (s : ℕ) (t : Tree) → 16384 ≤ length r → n < 2048 → Holds r n σ → held τ ≤ n → States r τ
    → flat_s (push τ s t) ≡ flat_s σ ++ (w ∷ []) → Holds (put r n s (kind_w w) (ident_w w) (size_w w)) (n + 1) (push τ s t)
unfolding enc
pushed {r} {n} {σ} w τ s t long h H d x z =
    let r' = put r n s (kind_w w) (ident_w w) (size_w w) in
    let len : held (push τ s t) ≡ n + 1 = sym (length-flat_s (push τ s t)) ∙ ap length z ∙ omega (arith, length-append (flat_s σ) (w ∷ []), length-flat_s σ, H.many) in
    let p : states_at + held (push τ s t) ≡ states_at + (n + 1) = omega arith in
    let q = H.records in
    record {
      many = sym len;
      states = over {σ = τ} {s = s} {t = t} (ap (λ (j : ℕ). get_or r' j 0) p ∙ put_state r n s _ _ _ long h) (states_stand (λ j a b. put_other r n s _ _ _ j (omega arith) (omega arith)) x);
      records = put-records r n s _ _ _ long h ∙ rw (q, z) (sym (enc-append (flat_s σ) (w ∷ [])));
    }

-- a token more
pub shifted-on : {r : List ℕ} {n : ℕ} {σ : Stack} (s : ℕ) (x : Tok) → 16384 ≤ length r → n < 2048 → Holds r n σ → Holds (put r n s (kind_w (wtok x)) (ident_w (wtok x)) 1) (n + 1) (push σ s (leaf x))
shifted-on {σ = σ} s x long h H = pushed (wtok x) σ s (leaf x) long h H (omega (arith, H.many)) H.states refl

-- the empty stack
pub empty : (r : List ℕ) → states_at < length r → Holds (set r states_at 0) 0 bot
unfolding enc
empty r h = record { many = refl; states = base (get_or-set_same r states_at 0 0 h); records = refl }

-- the size word of a record
pub size-at : (r : List ℕ) (n : ℕ) (A : List Word) (w : Word) (B : List Word) (i : ℕ) → take (3 * n) r ≡ enc ((A ++ (w ∷ [])) ++ B) → length A < n → i ≡ 3 * length A + 2 → get_or r i 0 ≡ size_w w
unfolding enc
size-at r n A w B i e h q =
    let f : enc ((A ++ (w ∷ [])) ++ B) ≡ enc A ++ (kind_w w ∷ ident_w w ∷ size_w w ∷ enc B) = ap enc (append_assoc A (w ∷ []) B) ∙ enc-append A (w ∷ B) in
    let g : i ≡ length (enc A) + 2 = omega (arith, length-enc A) in
    sym (get_or-take (3 * n) r i 0 (omega arith))
    ∙ ap (λ (l : List ℕ). get_or l i 0) (e ∙ f)
    ∙ ap (λ (j : ℕ). get_or (enc A ++ (kind_w w ∷ ident_w w ∷ size_w w ∷ enc B)) j 0) g
    ∙ get_or-append-add (enc A) (kind_w w ∷ ident_w w ∷ size_w w ∷ enc B) 2 0
