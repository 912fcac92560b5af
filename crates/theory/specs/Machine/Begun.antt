-- A grammar speaks of terminals alone; and the tokens of every good stack begin a derived text.
use Rattle.std.proofs.Math.Path.{◌≡◌, ap, subst}
use Rattle.std.specs.Prelude.{refl, ℕ, zero, suc, ◌+◌, ◌<◌, drop}
use Rattle.std.proofs.Common.{sym, ◌∙◌, arith}
use mathlib.Core.List.{List, [], ◌∷◌, ◌++◌, append_assoc, append-nil}
use Rattle.std.proofs.Math.Decide.{dec_lt}
use Rattle.definitions.specs.Table.{Sym, tm, nt, Table}
use Rattle.definitions.specs.Tree.{Tok, kind, Row, ∅, tok, nod, yield, Prod, Der, d∅, dtok, dnod}
use Rattle.definitions.specs.Reading.{Stack, bot, cons, push, top, popped, pop}
use Rattle.theory.specs.Table.Lr.{Chain, origin, kernel, link, Rules, Conditions}
use Rattle.theory.specs.Machine.Rows.{drop_tail}
use Rattle.theory.specs.Machine.Sound.{text, text-append, Good, gbot, gleaf, gnode, based, at_bottom}
use Rattle.theory.specs.Machine.Answer.{Parse}
use Rattle.theory.specs.Machine.Update.{derivable}

abbrev height : Stack → ℕ
height bot = 0
height (push σ s t) = suc (height σ)

pop-height : (d : ℕ) (σ : Stack) (f : Row) {c : Row} {τ : Stack} → pop d σ f ≡ popped c τ → height τ + d ≡ height σ
pop-height zero σ f {τ = τ} e = let z : σ ≡ τ = cc in omega (arith, ap height z)
pop-height (suc d) bot f e = cc
pop-height (suc d) (push σ s t) f e = omega (arith, pop-height d σ (cons t f) e)

-- the terminals of a text, which are all that a grammar says of it
abbrev pub kinds : List Tok → List ℕ
kinds [] = []
kinds (x ∷ w) = kind x ∷ kinds w

pub kinds-append : (u v w : List Tok) → kinds u ≡ kinds v → kinds (u ++ w) ≡ kinds (v ++ w)
kinds-append [] [] w e = refl
kinds-append [] (y ∷ v) w e = cc
kinds-append (x ∷ u) [] w e = cc
kinds-append (x ∷ u) (y ∷ v) w e = let k = kinds-append u v w (cc) in cc

Cut : List Tok → List Tok → List Tok → Type 0
Cut u a b = (v z : List Tok) × (u ≡ v ++ z) × (kinds v ≡ kinds a) × (kinds z ≡ kinds b)

cut : (u a b : List Tok) → kinds u ≡ kinds (a ++ b) → Cut u a b
unfolding Cut
cut u [] b e = ([], u, refl, refl, e)
cut [] (y ∷ a) b e = let z : ◌≡◌ {A = ℕ} 0 1 = cc in absurd (omega arith)
cut (x ∷ u) (y ∷ a) b e = let k = cut u a b (cc) in (x ∷ k.0, k.1, ap (x ∷◌) k.2, cc k.3, k.4)

module _ (G : Table) where
  -- u begins a derived text
  pub record Begun (u : List Tok) : Type 0 where
    pub prod : ℕ
    pub kids : Row
    pub after : List Tok
    pub parse : Parse G (u ++ after) prod kids

  shorten : (u v : List Tok) → Begun (u ++ v) → Begun u
  shorten u v b = record { prod = b.prod; kids = b.kids; after = v ++ b.after; parse = rw append_assoc at b.parse }

  -- a derivation over other tokens of the same terminals
  retold : {f : Row} {γ : List Sym} (u : List Tok) → Der G f γ → kinds u ≡ kinds (yield f) → (k : Row) × Der G k γ × (yield k ≡ u)
  unfolding Cut
  retold [] d∅ e = (∅, d∅, refl)
  retold (x ∷ u) d∅ e = let z : ◌≡◌ {A = ℕ} 0 1 = cc in absurd (omega arith)
  retold [] (dtok D) e = let z : ◌≡◌ {A = ℕ} 0 1 = cc in absurd (omega arith)
  retold (y ∷ u) (dtok {x = x} {γ = γ} D) e =
      let k = retold u D (cc) in
      let z : kind x ≡ kind y = cc in
      (tok y k.0, subst (λ a. Der G (tok y k.0) (tm a ∷ γ)) (sym z) (dtok k.1), ap (y ∷◌) k.2)
  retold u (dnod {q = q} {c = c} {f = f} P Dc D) e =
      let s = cut u (yield c) (yield f) e in
      let a = retold s.0 Dc s.3 in
      let b = retold s.1 D s.4 in
      (nod q a.0 b.0, dnod P a.1 b.1, rw (a.2, b.2) (sym s.2))

  pub reparse : {v : List Tok} {q : ℕ} {c : Row} (u : List Tok) → kinds u ≡ kinds v → Parse G v q c → (k : Row) × Parse G u q k
  reparse u e p =
      let k = retold u p.der (e ∙ ap kinds (sym p.text)) in
      (k.0, record { prod = p.prod; start = p.start; der = k.1; text = k.2 })

  lone : {f : Row} {γ : List Sym} {B : ℕ} → Der G f γ → γ ≡ nt B ∷ [] → (q : ℕ) × (c : Row) × Prod G q × (G.lhs q ≡ B) × Der G c (G.rhs q) × (yield f ≡ yield c)
  lone d∅ e = let z : ◌≡◌ {A = ℕ} 0 1 = cc in absurd (omega arith)
  lone (dtok D) e = let z : ◌≡◌ {A = ℕ} 0 1 = cc in absurd (omega arith)
  lone (dnod {q = q} {c = c} P Dc d∅) e = (q, c, P, cc, Dc, append-nil (yield c))
  lone (dnod P Dc (dtok D)) e = let z : ◌≡◌ {A = ℕ} 0 1 = cc in absurd (omega arith)
  lone (dnod P Dc (dnod P' D' D)) e = let z : ◌≡◌ {A = ℕ} 0 1 = cc in absurd (omega arith)

  module _ (R : Rules G) (C : Conditions G) where
    -- production 0 from its first symbol on: the stack is empty
    root : {p a : ℕ} {f : Row} (β : Stack) → p ≡ 0 → G.Item (top β) p 0 a → Good G β → Der G f (G.rhs p) → Begun (text β (yield f))
    root {f = f} β z i g D =
        let b : β ≡ bot = at_bottom G R C g (C.c1_only (rw z at i)) in
        let k = lone D (ap G.rhs z ∙ R.rhs0) in
        rw b (record { prod = k.0; kids = k.1; after = []; parse = record { prod = k.2; start = k.3; der = k.4; text = rw (append-nil, k.5) refl } })

    chain_of : {s p a : ℕ} → G.Item s p 0 a → Chain G s p 0
    chain_of {s} {p} {a} i = by p refl
      where
        by : (n : ℕ) → p ≡ n → Chain G s p 0
        by zero z = rw z (origin (rw z at i))
        by (suc n) z = C.c7 i (omega arith)

    -- whatever item the top state has, the stack and a derivation of what follows the item's dot go on to a derived text:
    -- from what is so of lower stacks
    up : (β : Stack) {p d : ℕ} {f : Row} → ((q : ℕ) (k : Row) (α : Stack) → height α < height β → Good G α → Chain G (top α) q 0 → Der G k (G.rhs q) → Begun (text α (yield k)))
        → Good G β → Chain G (top β) p d → Der G f (drop d (G.rhs p)) → Begun (text β (yield f))
    up β ih g (origin i) D = root β refl i g D
    up β {f = f} ih g (kernel {p = p} {d = d} i) D =
        let b = based G R C (suc d) β f g i D in
        let k = ih p b.row b.base (omega (arith, pop-height (suc d) β f b.is)) b.good (chain_of b.item) b.der in
        rw append-nil at (subst Begun (b.same []) (rw append-nil k))
    up β {f = f} ih g (link {p = p} {d = d} {q = q} {γ = γ} c A i) D =
        let r = derivable G R C p (suc d) γ (drop_tail (G.rhs p) d A.is) in
        by r (λ P. up β {f = nod q f r.0} ih g c (rw A.is (dnod P D r.1))) (dec_lt 0 q)
      where
        by : (r : (h : Row) × Der G h γ) → (Prod G q → Begun (text β (yield f ++ yield r.0))) → Dec (0 < q) → Begun (text β (yield f))
        by r k (yes h) = shorten (text β (yield f)) (yield r.0) (rw text-append at (k (record { above = h; below = R.exist i })))
        by r k (no h) = root β (omega arith) i g D

    climb : (n : ℕ) {p d : ℕ} {f : Row} (β : Stack) → height β < n → Good G β → Chain G (top β) p d → Der G f (drop d (G.rhs p)) → Begun (text β (yield f))
    climb zero β h g c D = absurd (omega arith)
    climb (suc n) β h g c D = up β (λ q k α l g' c' D'. climb n α (omega arith) g' c' D') g c D

    -- some item stands in the state of every stack
    some_item : {β : Stack} → Good G β → (p d : ℕ) × Chain G (top β) p d
    some_item gbot = (0, 0, origin C.c1_start)
    some_item (gleaf {σ = σ} {x = x} {s = s} g e) =
        let k = C.c5_trans (top σ) (tm (kind x)) e in
        let m = C.c3 k.4 k.5 in
        let z : m.0 ≡ s = cc m.1 in
        (k.0, suc k.1, kernel (rw z at m.2))
    some_item (gnode {σ = σ} {p = p} {s = s} g e P D) =
        let k = C.c5_trans (top σ) (nt (G.lhs p)) e in
        let m = C.c3 k.4 k.5 in
        let z : m.0 ≡ s = cc m.1 in
        (k.0, suc k.1, kernel (rw z at m.2))

    -- the tokens of every good stack begin a derived text
    pub begun : (β : Stack) → Good G β → Begun (text β [])
    begun β g =
        let c = some_item g in
        let r = derivable G R C c.0 c.1 (drop c.1 (G.rhs c.0)) refl in
        shorten (text β []) (yield r.0) (rw (text-append β [] (yield r.0)) at (climb (suc (height β)) β (omega arith) g c.2 r.1))
