-- What a state condition says of one item of a state: what stands after its dot, and conditions 3 and 4 at it. The laws say that
-- all of them together are the conditions.
use Rattle.std.specs.Prelude.{◌≡◌, refl, Bool, false, true, cond, ◌&&◌, List, ◌⊎◌, ◌↔◌, ℕ, zero, suc, ◌+◌, ◌-◌, ◌≤◌, ◌<◌, leb, ltb, eqb, Option, Some, None}
use Rattle.std.proofs.Common.{sym, subst, ◌∙◌, inl, inr, lt-ltb, le-ltb, le-leb, ltb-true, ltb-false, leb-true, arith}
use Rattle.std.proofs.Math.Path.{subst⁻¹}
use Rattle.std.proofs.lemmas.Bool.{lt-leb, leb-false}
use Rattle.definitions.specs.Sheet.{T, N, S, len, symbol, action, goto, count, prod, dot, ahead, IsSymbol, IsAction, IsGoto, Item, Layout}
use Rattle.definitions.specs.States.{Holds, HasItem, In, target, Goes, Condition3, Reduces, Condition4}
use Rattle.theory.specs.Check.Says.{Says, says_yes, says_no, says_as, says_eq}
use Rattle.theory.specs.Check.ItemLaws.{with_in}
use Rattle.terminals.specs.Members.{Within, empty_is, held_below}
use Rattle.states.specs.Places.{Lies, IsItem, once, listed}

-- x stands after the dot of item i of s
pub record After (t : List ℕ) (s i x : ℕ) : Type 0 where
  pub inner : dot t s i < len t (prod t s i)
  pub is : symbol t (prod t s i) (dot t s i) ≡ x

-- what the code reads after the dot: nothing where the item is complete
abbrev pub Reads : List ℕ → ℕ → ℕ → Option ℕ → Type 0
Reads t s i (Some x) = After t s i x
Reads t s i None = dot t s i ≡ len t (prod t s i)

-- the target of a transition, as the code reads it
abbrev pub Target : List ℕ → ℕ → ℕ → Option ℕ → Type 0
Target t s x (Some u) = (u ≡ target t s x) × (u < S t)
Target t s x None = target t s x ≡ 255

-- where an action word leads, if it is a shift
abbrev pub shift_of : ℕ → Option ℕ
shift_of w = cond (leb 256 w && ltb w 512) (Some (w - 256)) None

-- (p,d) is in u with a set that holds what x holds
abbrev pub Covers : List ℕ → ℕ → ℕ → ℕ → ℕ → Type 0
Covers t u p d x = (a : ℕ) → Holds x a → In t u p d a

-- conditions 3 and 4 at item i of s
pub record Condition3At (t : List ℕ) (s i : ℕ) : Type 0 where
  pub moves : (a : ℕ) → a < T t → Holds (ahead t s i) a → dot t s i < len t (prod t s i)
      → Goes t s (symbol t (prod t s i) (dot t s i)) × In t (target t s (symbol t (prod t s i) (dot t s i))) (prod t s i) (dot t s i + 1) a

pub record Condition4At (t : List ℕ) (s i a : ℕ) : Type 0 where
  pub reduces : Holds (ahead t s i) a → dot t s i ≡ len t (prod t s i) → Reduces (action t s a) (prod t s i)

-- the action word that a complete item of production p asks for
pub record Asks (p r : ℕ) : Type 0 where
  pub is : (w : ℕ) → (w ≡ r) ↔ Reduces w p

-- ---- the conditions are what they say of every item

pub three : (t : List ℕ) → ((s i : ℕ) → s < S t → i < count t s → Condition3At t s i) ↔ Condition3 t
unfolding Condition3
three t = (
  λ f s p d a hs ha r hd. with_in t s a (λ p d. d < len t p → Goes t s (symbol t p d) × In t (target t s (symbol t p d)) p (d + 1) a) (λ i l h. (f s i hs l).moves a ha h) p d r hd,
  λ g s i hs l. record { moves = λ a ha h hd. g s (prod t s i) (dot t s i) a hs ha (record { item = i; listed = l; production = refl; place = refl; looks = h }) hd },
)

pub four : (t : List ℕ) → ((s i a : ℕ) → s < S t → i < count t s → a < T t → Condition4At t s i a) ↔ Condition4 t
unfolding Condition4
four t = (
  λ f s p a hs ha r. with_in t s a (λ p d. d ≡ len t p → Reduces (action t s a) p) (λ i l h e. (f s i a hs l ha).reduces h e) p (len t p) r refl,
  λ g s i a hs l ha. record { reduces = λ h e. g s (prod t s i) a hs ha (record { item = i; listed = l; production = refl; place = e; looks = h }) },
)

-- ---- what the code needs

-- (p,d) at item j of s: its set covers; nowhere: no set is covered but an empty one
module _ (t : List ℕ) (laid : Layout t) (s : ℕ) (state : s < S t) where
  pub covers_at : (j p d x : ℕ) {b : Bool} → j < count t s → IsItem t s j p d → Says b (Within x (ahead t s j)) → Says b (Covers t s p d x)
  covers_at j p d x h e y = says_as y
      (λ f a k. record { item = j; listed = h; production = sym e.production; place = sym e.place; looks = f a k })
      (λ f a k. let r = f a k in let p1 = r.production in let p2 = r.place in let q1 = e.production in let q2 = e.place in
      subst (λ (j : ℕ). Holds (ahead t s j) a) (once t laid s state r.item j r.listed h (omega arith)) r.looks)

  pub covers_none : (p d x : ℕ) → 1 ≤ x → (HasItem t s p d → ⊥) → Says false (Covers t s p d x)
  covers_none p d x o f = says_no (λ g.
      let z = (empty_is x).0 (λ a k. let r = g a k in f (record { item = r.item; listed = r.listed; production = r.production; place = r.place })) in
      omega arith)

-- of an item of the state that lies at a place
module _ {t : List ℕ} {s at n : ℕ} (l : Lies t s at n) (i : ℕ) (h : i < n) where
  right : Item t s i
  right = (l.laid.states s l.state).items i (listed l i h)

  -- its set is not empty, and holds terminals only
  pub some-ahead : 1 ≤ ahead t s i
  some-ahead = right.full

  known : (a : ℕ) → Holds (ahead t s i) a → a < T t
  known a k = held_below (T t) (ahead t s i) a right.known k

  -- a symbol after its dot exists
  pub after_exists : {x : ℕ} → After t s i x → IsSymbol t x
  after_exists r = subst (IsSymbol t) r.is ((l.laid.productions (prod t s i) right.named).used (dot t s i) r.inner)

  -- condition 3 where it is complete; where its symbol leads nowhere; else
  pub three_done : dot t s i ≡ len t (prod t s i) → Says true (Condition3At t s i)
  three_done e = says_yes (record { moves = λ a ha k m. absurd (omega arith) })

  pub three_stuck : {x : ℕ} → After t s i x → target t s x ≡ 255 → Says false (Condition3At t s i)
  three_stuck r e = says_no (λ f.
      let z = (empty_is (ahead t s i)).0 (λ a k. subst (Goes t s) r.is (f.moves a (known a k) k r.inner).0 e) in
      let o = some-ahead in omega arith)

  pub three_goes : {b : Bool} {x u p d y : ℕ} → After t s i x → (u ≡ 255 → ⊥)
      → u ≡ target t s x → p ≡ prod t s i → d ≡ dot t s i → y ≡ ahead t s i → Says b (Covers t u p (d + 1) y) → Says b (Condition3At t s i)
  three_goes r g eu ep ed ey z = says_as z
      (λ f. record {
        moves = λ a ha k m. rw r.is (
          (λ q. g (eu ∙ q)),
          (let w = f a (subst⁻¹ (λ (y : ℕ). Holds y a) ey k) in rw (eu, ep, ed) at w),
        );
      })
      (λ f a k.
      let o = subst (λ (y : ℕ). Holds y a) ey k in
      let w = (f.moves a (known a o) o r.inner).1 in
      rw (eu, ep, ed, ← r.is) w)

-- what a complete item of production p asks for
pub asks_accept : (p : ℕ) → p ≡ 0 → Asks p 1
asks_accept zero e = record { is = λ w. (λ h. h, λ h. h) }
asks_accept (suc p) e = absurd (omega arith)

pub asks_reduce : (p : ℕ) → (p ≡ 0 → ⊥) → Asks p (512 + p)
asks_reduce zero e = absurd (e refl)
asks_reduce (suc p) e = record { is = λ w. (λ h. h, λ h. h) }

-- what the code reads after a dot, from the production's length and its symbol there
pub reads_open : {t : List ℕ} {s i p d n x : ℕ} → p ≡ prod t s i → d ≡ dot t s i → n ≡ len t p → d < n → x ≡ symbol t p d → After t s i x
reads_open e f g h k = record { inner = rw (← e, ← f, ← g) h; is = rw (← e, ← f) (sym k) }

pub reads_shut : (t : List ℕ) (s i : ℕ) {p d n : ℕ} → d ≤ len t (prod t s i) → p ≡ prod t s i → d ≡ dot t s i → n ≡ len t p → n ≤ d → dot t s i ≡ len t (prod t s i)
reads_shut t s i k e f g h = let a = rw e at g in omega arith

-- ---- where a symbol leads

pub terminal_of : (t : List ℕ) (x : ℕ) → IsSymbol t x → x < 128 → x < T t
terminal_of t x (inl h) k = h
terminal_of t x (inr h) k = absurd (let a = h.0 in omega arith)

pub nonterminal_of : (t : List ℕ) (x : ℕ) → Layout t → IsSymbol t x → 128 ≤ x → x - 128 < N t
nonterminal_of t x l (inl h) k = absurd (let a = l.head.terminals.1 in omega arith)
nonterminal_of t x l (inr h) k = let a = h.1 in omega arith

-- a shift; any other action
pub shift_some : (w u : ℕ) → shift_of w ≡ Some u → (256 ≤ w) × (w < 512) × (u ≡ w - 256)
shift_some w u e = go (leb 256 w) refl (ltb w 512) refl e
  where
    go : (a : Bool) → leb 256 w ≡ a → (b : Bool) → ltb w 512 ≡ b → cond (a && b) (Some (w - 256)) None ≡ Some u → (256 ≤ w) × (w < 512) × (u ≡ w - 256)
    go true p true q f = (leb-true 256 w p, ltb-true w 512 q, cc)
    go true p false q f = absurd cc
    go false p b q f = absurd cc

pub shift_none : (w : ℕ) → shift_of w ≡ None → (w < 256) ⊎ (512 ≤ w)
shift_none w e = go (leb 256 w) refl (ltb w 512) refl e
  where
    go : (a : Bool) → leb 256 w ≡ a → (b : Bool) → ltb w 512 ≡ b → cond (a && b) (Some (w - 256)) None ≡ None → (w < 256) ⊎ (512 ≤ w)
    go true p true q f = absurd cc
    go true p false q f = inr (ltb-false w 512 q)
    go false p b q f = inl (leb-false 256 w p)

-- where an action word leads: 255 where it is no shift
pub no_shift : (w : ℕ) → (w < 256) ⊎ (512 ≤ w) → cond (leb 256 w && ltb w 512) (w - 256) 255 ≡ 255
no_shift w (inl h) = simp (lt-leb 256 w h)
no_shift w (inr h) = simp (le-leb 256 w (omega arith), le-ltb w 512 h)

shift_state : (t : List ℕ) (w : ℕ) → Layout t → IsAction t w → 256 ≤ w → w < 512 → w - 256 < S t
shift_state t w l (inl (inl h)) a b = absurd (omega arith)
shift_state t w l (inl (inr h)) a b = let c = h.1 in omega arith
shift_state t w l (inr h) a b = let c = h.0 in absurd (omega arith)

goto_state : (t : List ℕ) (g : ℕ) → IsGoto t g → (g ≡ 255 → ⊥) → g < S t
goto_state t g (inl h) k = h
goto_state t g (inr h) k = absurd (k h)

module _ (t : List ℕ) (laid : Layout t) (s : ℕ) (state : s < S t) (x : ℕ) (sy : IsSymbol t x) where
  pub shift-target : x < 128 → (o : Option ℕ) → o ≡ shift_of (action t s x) → Target t s x o
  shift-target h (Some u) e =
      let k = shift_some (action t s x) u (sym e) in
      let a = k.0 in let b = k.1 in
      let z : target t s x ≡ action t s x - 256 = rw (lt-ltb x 128 h) (simp (le-leb 256 (action t s x) a, lt-ltb (action t s x) 512 b)) in
      let f : u ≡ action t s x - 256 = k.2 in
      (f ∙ sym z, subst⁻¹ (λ (u : ℕ). u < S t) f (shift_state t (action t s x) laid (laid.actions s state x (terminal_of t x sy h)) a b))
  shift-target h None e = rw (lt-ltb x 128 h) (no_shift (action t s x) (shift_none (action t s x) (sym e)))

  pub goto-target : 128 ≤ x → (g : ℕ) → g ≡ goto t s (x - 128) → (g ≡ 255 → ⊥) → Target t s x (Some g)
  goto-target h g e k =
      (rw (le-ltb x 128 h) e, subst⁻¹ (λ (u : ℕ). u < S t) e (goto_state t (goto t s (x - 128)) (laid.gotos s state (x - 128) (nonterminal_of t x laid sy h)) (λ q. k (e ∙ q))))

  pub goto-none : 128 ≤ x → (g : ℕ) → g ≡ goto t s (x - 128) → g ≡ 255 → Target t s x None
  goto-none h g e k = rw (le-ltb x 128 h) (sym e ∙ k)

-- ---- condition 4 at an item that is not complete, at one that does not hold a, at one that is and does

pub four_other : (t : List ℕ) (s i a : ℕ) → (dot t s i ≡ len t (prod t s i) → ⊥) → Says true (Condition4At t s i a)
four_other t s i a g = says_yes (record { reduces = λ o q. absurd (g q) })

pub four_not_held : (t : List ℕ) (s i a : ℕ) → (Holds (ahead t s i) a → ⊥) → Says true (Condition4At t s i a)
four_not_held t s i a g = says_yes (record { reduces = λ o q. absurd (g o) })

pub four_asks : (t : List ℕ) (s i a : ℕ) {p w r : ℕ} → p ≡ prod t s i → w ≡ action t s a → Asks p r → Holds (ahead t s i) a → dot t s i ≡ len t (prod t s i)
    → Says (eqb w r) (Condition4At t s i a)
four_asks t s i a {p} {w} {r} e f k h d =
    says_as (says_eq w r)
    (λ q. record { reduces = λ o u. subst (λ (w : ℕ). Reduces w (prod t s i)) f (subst (Reduces w) e ((k.is w).0 q)) })
    (λ m. (k.is w).1 (subst⁻¹ (Reduces w) e (subst⁻¹ (λ (w : ℕ). Reduces w (prod t s i)) f (m.reduces h d))))
