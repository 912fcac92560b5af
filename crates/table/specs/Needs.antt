-- Condition 2 at a state: what its items need of the productions of each nonterminal, and that the items (q,0) have it.
use Rattle.std.specs.Prelude.{◌≡◌, refl, Bool, List, ◌↔◌, ℕ, ◌+◌, ◌^◌, ◌≤◌, ◌<◌, Some, None}
use Rattle.std.proofs.Math.Path.{sym}
use Rattle.std.proofs.Common.{subst, arith}
use Rattle.definitions.specs.Sheet.{T, P, S, left, len, symbol, prod, dot, ahead, count, Layout}
use Rattle.definitions.specs.Grammar.{InFirst}
use Rattle.definitions.specs.States.{Holds, In, Condition2}
use Rattle.theory.specs.Check.Says.{Says, says_as}
use Rattle.theory.specs.Check.ItemLaws.{with_in}
use Rattle.terminals.specs.Members.{Within, empty_is, held_below}
use Rattle.terminals.specs.declared.Terminals.{Terminals}
use Rattle.grammar.specs.First.{FirstOf}
use Rattle.states.specs.Places.{Lies, listed}
use Rattle.states.specs.Items.{After}
use Rattle.states.specs.Gathering.{Exactly, Among, AfterNonterminal, nonterminal_one, small_nonterminal, entry, Puts}
use Rattle.states.specs.Zeros.{Zeros}

-- condition 2 at s
unfoldable pub Condition2At : List ℕ → ℕ → Type 0
Condition2At t s =
    (p d a : ℕ) → a < T t → In t s p d a → d < len t p → 128 ≤ symbol t p d
    → (q b : ℕ) → q < P t → 128 + left t q ≡ symbol t p d → b < T t → InFirst t p (d + 1) a b → In t s q 0 b

pub two : (t : List ℕ) → ((s : ℕ) → s < S t → Condition2At t s) ↔ Condition2 t
unfolding Condition2 Condition2At
two t = (λ f s p d a hs. f s hs p d a, λ g s hs p d a. g s p d a hs)

-- item i needs b of the productions of nonterminal m, which stands after its dot
pub record Need (t : List ℕ) (s m i b : ℕ) : Type 0 where
  pub after : AfterNonterminal t s i m
  pub known : b < T t
  pub first : (a : ℕ) × Holds (ahead t s i) a × InFirst t (prod t s i) (dot t s i + 1) a b

-- entry m of the array is what the items of s need of the productions of m
abbrev pub Needs : List ℕ → ℕ → List Terminals → Type 0
Needs t s needs = (m : ℕ) → m < 64 → Exactly (entry needs m) (Among (Need t s m) (count t s))

-- what they need of production q is in the set of (q,0)
pub record Met (t : List ℕ) (s q : ℕ) : Type 0 where
  pub gives : (b : ℕ) → Among (Need t s (left t q)) (count t s) b → In t s q 0 b

-- ---- one item

-- with no nonterminal after its dot
pub need_none : {t : List ℕ} {s i : ℕ} → ((m : ℕ) → AfterNonterminal t s i m → ⊥) → Puts 64 (Need t s) i None
need_none f m b n = f m n.after

module _ {t : List ℕ} {s at n : ℕ} (l : Lies t s at n) (i : ℕ) (h : i < n) where
  -- what FIRST is asked of, whatever stands after the dot
  pub need_asks : {x : ℕ} → After t s i x → {p d y : ℕ} → p ≡ prod t s i → d ≡ dot t s i → y ≡ ahead t s i → ((p < P t) × (d + 1 ≤ len t p)) × ((1 ≤ y) × (y < 2 ^ T t))
  need_asks r {p} {d} {y} e f o =
      let it = (l.laid.states s l.state).items i (listed l i h) in
      let a = r.inner in
      rw (e, f, o) ((it.named, omega arith), (it.full, it.known))

  module _ {m : ℕ} (r : AfterNonterminal t s i m) where
    pub need_some : {p d y : ℕ} (z : Terminals) → p ≡ prod t s i → d ≡ dot t s i → y ≡ ahead t s i → FirstOf t p (d + 1) y z.bits → Puts 64 (Need t s) i (Some (m, z))
    need_some {p} {d} {y} z e f o q =
        let k = small_nonterminal l i h r.after (omega arith) in
        (omega arith, told (rw (e, f, o) at q), λ k b n. nonterminal_one r n.after)
      where
        told : FirstOf t (prod t s i) (dot t s i + 1) (ahead t s i) z.bits → Exactly z.bits (Need t s m i)
        told q = record {
          holds = λ b. (
            (λ h. let w = q.some b h in record { after = r; known = w.0; first = w.1 }),
            (λ n. q.each n.first.0 b n.first.1 n.known n.first.2),
          );
        }

-- ---- one production, every production

pub met_lent : {t : List ℕ} {s q m : ℕ} {b : Bool} (needs zeros : List Terminals) → Needs t s needs → Zeros t s zeros → m ≡ left t q → m < 64 → q < 200
    → Says b (Within (entry needs m) (entry zeros q)) → Says b (Met t s q)
met_lent {t} {s} {q} {m} needs zeros f g e hm hq w = says_as w
    (λ v. record { gives = λ b r. ((g q hq).holds b).0 (v b ((n.holds b).1 r)) })
    (λ v b h. ((g q hq).holds b).1 (v.gives b ((n.holds b).0 h)))
  where
    n : Exactly (entry needs m) (Among (Need t s (left t q)) (count t s))
    n = subst (λ (k : ℕ). Exactly (entry needs m) (Among (Need t s k) (count t s))) e (f m hm)

module _ (t : List ℕ) (laid : Layout t) (s : ℕ) (state : s < S t) where
  pub met_all : ((q : ℕ) → q < P t → Met t s q) → Condition2At t s
  unfolding Condition2At
  met_all f p d a ha r = with_in t s a
      (λ p d. d < len t p → 128 ≤ symbol t p d → (q b : ℕ) → q < P t → 128 + left t q ≡ symbol t p d → b < T t → InFirst t p (d + 1) a b → In t s q 0 b)
      (λ i l h hd hs q b hq e hb w. (f q hq).gives b (i, l, record { after = record { after = record { inner = hd; is = sym e } }; known = hb; first = (a, h, w) }))
      p d r

  -- of a state with no nonterminal after a dot nothing is needed
  pub met_none : {x : ℕ} → Exactly x (Among (AfterNonterminal t s) (count t s)) → x ≡ 0 → Condition2At t s
  met_none {x} f e = met_all (λ q hq. record { gives = λ b r. absurd ((empty_is x).1 e _ ((f.holds _).1 (r.0, r.1, r.2.after))) })

  pub all_met : Condition2At t s → (q : ℕ) → q < P t → Met t s q
  unfolding Condition2At
  all_met f q hq = record { gives = λ b r. one b r.0 r.1 r.2 }
    where
      one : (b i : ℕ) → i < count t s → Need t s (left t q) i b → In t s q 0 b
      one b i l n =
          let a = n.first.0 in
          let h = n.first.1 in
          let e = n.after.after.is in
          f (prod t s i) (dot t s i) a (held_below (T t) (ahead t s i) a ((laid.states s state).items i l).known h)
          (record { item = i; listed = l; production = refl; place = refl; looks = h }) n.after.after.inner (omega arith) q b hq (sym e) n.known n.first.2
