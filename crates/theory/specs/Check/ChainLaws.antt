-- What the test of the state condition 7 says: `Condition7`, chains of a state's own items.
use Rattle.std.specs.Prelude.{◌≡◌, refl, Bool, true, ◌&&◌, ◌||◌, cond, List, ◌⊎◌, ℕ, zero, suc, ◌+◌, ◌-◌, ◌≤◌, ◌<◌, ltb, eqb}
use Rattle.std.proofs.Common.{sym, subst, inl, inr, arith}
use Rattle.theory.specs.Check.Every.{times}
use Rattle.theory.specs.Check.Sets.{empty, one, holds}
use Rattle.definitions.specs.Sheet.{N, S, left, len, symbol, count, prod, dot, Layout}
use Rattle.definitions.specs.States.{HasItem, Led, begin, next, Condition7}
use Rattle.theory.specs.Check.StatesTest.{opens, afters, led, led_next, cond7}
use Rattle.theory.specs.Check.Says.{Says, says_as, says_and, says_or, says_all, says_imp, says_eq, says_lt, says_le, says_so}
use Rattle.theory.specs.Check.SetLaws.{Held, says_joins, says_empty, map_right}
use Rattle.theory.specs.Check.Rounds.{Under}
use Rattle.theory.specs.Check.Least.{closed, says_pick}
use Rattle.theory.specs.Check.LayoutLaws.{named_left_exists}
use Rattle.theory.specs.Check.ItemLaws.{with_item, says_item}

-- the first of a chain
abbrev Starts : ℕ → ℕ → Type 0
Starts p d = ((p ≡ 0) × (d ≡ 0)) ⊎ (0 < d)

-- item i passes, and n is after its dot
record After (t : List ℕ) (s : ℕ) (ok : ℕ → ℕ → Bool) (n : ℕ) : Type 0 where
  i : ℕ
  listed : i < count t s
  passes : ok (prod t s i) (dot t s i) ≡ true
  inner : dot t s i < len t (prod t s i)
  big : 128 ≤ symbol t (prod t s i) (dot t s i)
  is : symbol t (prod t s i) (dot t s i) - 128 ≡ n

says_opens : (t : List ℕ) (ok : ℕ → ℕ → Bool) (p d : ℕ) → Says (opens t ok p d) (((ok p d ≡ true) × (d < len t p)) × (128 ≤ symbol t p d))
says_opens t ok p d = says_and (says_and (says_so (ok p d)) (says_lt d (len t p))) (says_le 128 (symbol t p d))

says_afters : (t : List ℕ) (s : ℕ) (ok : ℕ → ℕ → Bool) (n : ℕ) → Says (holds (afters t s ok) n) (After t s ok n)
says_afters t s ok n =
    says_as (says_joins (count t s) _ n)
    (λ r. let h = (pick r.0).to r.2 in let g = (says_opens t ok (prod t s r.0) (dot t s r.0)).to h.0 in
    record { i = r.0; listed = r.1; passes = g.0.0; inner = g.0.1; big = g.1; is = h.1 })
    (λ r. (r.i, r.listed, (pick r.i).from ((says_opens t ok (prod t s r.i) (dot t s r.i)).from ((r.passes, r.inner), r.big), r.is)))
  where
    pick : (i : ℕ) → Says (holds (cond (opens t ok (prod t s i) (dot t s i)) (one (symbol t (prod t s i) (dot t s i) - 128)) empty) n)
        ((opens t ok (prod t s i) (dot t s i) ≡ true) × (symbol t (prod t s i) (dot t s i) - 128 ≡ n))
    pick i = says_pick (opens t ok (prod t s i) (dot t s i)) (symbol t (prod t s i) (dot t s i) - 128) n

abbrev passing : List ℕ → ℕ → ℕ → ℕ → Bool
passing t set p d = (eqb p 0 && eqb d 0) || ltb 0 d || holds set (left t p)

says_passing : (t : List ℕ) (set p d : ℕ) → Says (passing t set p d) (Starts p d ⊎ Held set (left t p))
says_passing t set p d = says_or (says_or (says_and (says_eq p 0) (says_eq d 0)) (says_lt 0 d)) (says_so (holds set (left t p)))

-- of a state of a sheet well laid out, whose every production and left side named exists
module _ (t : List ℕ) (laid : Layout t) (s : ℕ) (state : s < S t) where
  exist : (i : ℕ) → i < count t s → left t (prod t s i) < N t
  exist i l = named_left_exists t laid s i state l

  mono : (a b : ℕ) → Under (N t) (holds a) (holds b) → Under (N t) (holds (led_next t s a)) (holds (led_next t s b))
  mono a b u n h e =
      let r = (says_afters t s (passing t a) n).to e in
      (says_afters t s (passing t b) n).from
      (record {
        i = r.i;
        listed = r.listed;
        inner = r.inner;
        big = r.big;
        is = r.is;
        passes = (says_passing t b (prod t s r.i) (dot t s r.i)).from
            (map_right (u (left t (prod t s r.i)) (exist r.i r.listed)) ((says_passing t a (prod t s r.i) (dot t s r.i)).to r.passes));
      })

  -- n is after the dot of an item that a chain leads to
  record Open (n : ℕ) : Type 0 where
    p : ℕ
    d : ℕ
    led-to : Led t s p d
    inner : d < len t p
    is : symbol t p d ≡ 128 + n

  -- an item that starts a chain, or whose left side a chain opens (a dot above 0 starts one)
  lead : (i : ℕ) → i < count t s → (c : ℕ) → dot t s i ≡ c
      → Starts (prod t s i) (dot t s i) ⊎ Open (left t (prod t s i)) → Led t s (prod t s i) (dot t s i)
  lead i l c e (inl x) = begin (prod t s i) (dot t s i) (record { item = i; listed = l; production = refl; place = refl }) x
  lead i l zero e (inr o) =
      subst (λ (d : ℕ). Led t s (prod t s i) d) (sym e)
      (next o.p o.d (prod t s i) o.led-to o.inner o.is (record { item = i; listed = l; production = refl; place = e }))
  lead i l (suc c) e (inr o) = begin (prod t s i) (dot t s i) (record { item = i; listed = l; production = refl; place = refl }) (inr (omega arith))

  sound : (r n : ℕ) → Held (times r (led_next t s) empty) n → Open n
  sound zero n h = absurd (says_empty n h)
  sound (suc r) n h =
      let set = times r (led_next t s) empty in
      let a = (says_afters t s (passing t set) n).to h in
      let b = a.big in let q = a.is in
      record {
        p = prod t s a.i;
        d = dot t s a.i;
        inner = a.inner;
        is = omega arith;
        led-to = lead a.i a.listed (dot t s a.i) refl
            (map_right (sound r (left t (prod t s a.i))) ((says_passing t set (prod t s a.i) (dot t s a.i)).to a.passes));
      }

  -- an item that passes has its nonterminal in the set
  add : (i : ℕ) → i < count t s → Starts (prod t s i) (dot t s i) ⊎ Held (led t s) (left t (prod t s i))
      → dot t s i < len t (prod t s i) → 128 ≤ symbol t (prod t s i) (dot t s i) → symbol t (prod t s i) (dot t s i) - 128 < N t
      → Held (led t s) (symbol t (prod t s i) (dot t s i) - 128)
  add i l x h b k =
      closed (N t) (led_next t s) mono (symbol t (prod t s i) (dot t s i) - 128) k
      ((says_afters t s (passing t (led t s)) (symbol t (prod t s i) (dot t s i) - 128)).from
      (record { i = i; listed = l; inner = h; big = b; is = refl; passes = (says_passing t (led t s) (prod t s i) (dot t s i)).from x }))

  complete : (p d : ℕ) → Led t s p d → d < len t p → 128 ≤ symbol t p d → symbol t p d - 128 < N t → Held (led t s) (symbol t p d - 128)
  complete p d (begin p' d' has x) = with_item t s
      (λ p d. Starts p d → d < len t p → 128 ≤ symbol t p d → symbol t p d - 128 < N t → Held (led t s) (symbol t p d - 128))
      (λ i l x. add i l (inl x)) p' d' has x
  complete q d (next p' d' q' w h e has) =
      let n : left t q' < N t = with_item t s (λ p d. left t p < N t) exist q' 0 has in
      let z : symbol t p' d' - 128 ≡ left t q' = omega arith in
      with_item t s
      (λ q d. Held (led t s) (left t q) → d < len t q → 128 ≤ symbol t q d → symbol t q d - 128 < N t → Held (led t s) (symbol t q d - 128))
      (λ i l x. add i l (inr x)) q' 0 has
      (subst (Held (led t s)) z (complete p' d' w h (omega arith) (omega arith)))

  -- a chain leads to (p,0), p > 0, where its left side is in the set
  behind : (p d : ℕ) → Led t s p d → d ≡ 0 → 0 < p → Held (led t s) (left t p)
  behind p d (begin p' d' has (inl x)) z h = let e = x.0 in absurd (omega arith)
  behind p d (begin p' d' has (inr x)) z h = absurd (omega arith)
  behind p d (next p' d' q' w l e has) z h =
      let n : left t q' < N t = with_item t s (λ p d. left t p < N t) exist q' 0 has in
      let y : symbol t p' d' - 128 ≡ left t q' = omega arith in
      subst (Held (led t s)) y (complete p' d' w l (omega arith) (omega arith))

  onward : (p : ℕ) → HasItem t s p 0 → Held (led t s) (left t p) → Led t s p 0
  onward p has h = let o = sound (N t) (left t p) h in next o.p o.d p o.led-to o.inner o.is has

pub says_7 : (t : List ℕ) → Layout t → Says (cond7 t) (Condition7 t)
unfolding cond7 Condition7
says_7 t laid =
    says_as (says_all (S t) (λ s. says_item t s (λ p d. says_imp (says_and (says_eq d 0) (says_lt 0 p)) (says_so (holds (led t s) (left t p))))))
    (λ g s p hs hp has. onward t laid s hs p has (g s hs p 0 has (refl, hp)))
    (λ g s hs p d has r. behind t laid s hs p 0 (g s p hs r.1 (subst (HasItem t s p) r.0 has)) refl r.1)
