-- What the tests of the state conditions 1 to 6 say: `Condition1` .. `Condition6`. (`ChainLaws` has condition 7.)
use Rattle.std.specs.Prelude.{refl, cond, List, ℕ, zero, suc, ◌+◌, ◌-◌, ◌<◌, eqb}
use Rattle.std.proofs.Common.{subst}
use Rattle.std.proofs.Math.Dec.{eqb-suc-zero}
use Rattle.definitions.specs.Sheet.{T, P, S, left, len, symbol, action, count, prod, dot, ahead, Layout}
use Rattle.definitions.specs.States.{In, target, Condition1, Condition2, Condition3, Reduces, Condition4, Condition5, Condition6}
use Rattle.theory.specs.Check.Sets.{one}
use Rattle.theory.specs.Check.StatesTest.{cond1, cond2, cond3, cond4, cond5, cond6}
use Rattle.theory.specs.Check.Says.{Says, says_and, says_imp, says_as, says_each_below, says_all, says_any, says_not, says_eq, says_lt, says_le}
use Rattle.theory.specs.Check.LayoutLaws.{named_exists}
use Rattle.theory.specs.Check.FirstLaws.{says_first}
use Rattle.theory.specs.Check.ItemLaws.{says_has, says_in, says_item, says_each_named, says_each, says_symbol}

pub says_1 : (t : List ℕ) → Says (cond1 t) (Condition1 t)
unfolding cond1
says_1 t =
    says_as (says_and (says_and (says_and (says_in t 0 0 0 0)
    (says_item t 0 (λ p d. says_eq d 0)))
    (says_all (S t) (λ s. says_all (count t s) (λ i. says_imp (says_eq (prod t s i) 0) (says_eq (ahead t s i) (one 0))))))
    (says_all (S t) (λ s. says_imp (says_has t s 0 0) (says_eq s 0))))
    (λ r. record { starts = r.0.0.0; dots = r.0.0.1; ends = λ s i h k. r.0.1 s h i k; once = λ s h. r.1 s h })
    (λ r. (((r.starts, r.dots), λ s h i k. r.ends s i h k), r.once))

-- (of a sheet well laid out, whose every symbol and every production named exists)
pub says_2 : (t : List ℕ) → Layout t → Says (cond2 t) (Condition2 t)
unfolding cond2 Condition2
says_2 t laid =
    says_as (says_all (T t) (λ b. says_each_below (S t) (λ s hs. says_each_named t s {B = λ p. p < P t} (λ i l. named_exists t laid s i hs l) (λ p d a hp.
    says_imp (says_and (says_lt d (len t p)) (says_le 128 (symbol t p d)))
    (says_imp (says_first t laid p (d + 1) a b hp)
    (says_all (P t) (λ q. says_imp (says_eq (128 + left t q) (symbol t p d)) (says_in t s q 0 b))))))))
    (λ g s p d a hs ha r hd hB q b hq eq hb hF. g b hb s hs p d a ha r (hd, hB) hF q hq eq)
    (λ g b hb s hs p d a ha r h hF q hq eq. g s p d a hs ha r h.0 h.1 q b hq eq hb hF)

pub says_3 : (t : List ℕ) → Says (cond3 t) (Condition3 t)
unfolding cond3 Condition3
says_3 t =
    says_as (says_all (S t) (λ s. says_each t s (λ p d a. says_imp (says_lt d (len t p))
    (says_and (says_not (says_eq (target t s (symbol t p d)) 255)) (says_in t (target t s (symbol t p d)) p (d + 1) a)))))
    (λ g s p d a hs. g s hs p d a)
    (λ g s hs p d a. g s p d a hs)

says_reduces : (w p : ℕ) → Says (eqb w (cond (eqb p 0) 1 (512 + p))) (Reduces w p)
says_reduces w zero = says_eq w 1
says_reduces w (suc p) = rw eqb-suc-zero (says_eq w (512 + suc p))

pub says_4 : (t : List ℕ) → Says (cond4 t) (Condition4 t)
unfolding cond4 Condition4
says_4 t =
    says_as (says_all (S t) (λ s. says_each t s (λ p d a. says_imp (says_eq d (len t p)) (says_reduces (action t s a) p))))
    (λ g s p a hs ha r. g s hs p (len t p) a ha r refl)
    (λ g s hs p d a ha r e. g s p a hs ha (subst (λ (d : ℕ). In t s p d a) e r))

pub says_5 : (t : List ℕ) → Says (cond5 t) ((s : ℕ) → s < S t → Condition5 t s)
unfolding cond5
says_5 t = says_all (S t) (λ s.
    says_as (says_and
    (says_symbol t (λ x. says_imp (says_not (says_eq (target t s x) 255))
    (says_any (count t s) (λ i. says_and (says_lt (dot t s i) (len t (prod t s i))) (says_eq (symbol t (prod t s i) (dot t s i)) x)))))
    (says_all (T t) (λ a. says_and
    (says_imp (says_le 512 (action t s a)) (says_in t s (action t s a - 512) (len t (action t s a - 512)) a))
    (says_imp (says_eq (action t s a) 1) (says_and (says_eq a 0) (says_has t s 0 1))))))
    (λ r. record { goes = r.0; reduces = λ a h. (r.1 a h).0; accepts = λ a h. (r.1 a h).1 })
    (λ r. (r.goes, λ a h. (r.reduces a h, r.accepts a h))))

pub says_6 : (t : List ℕ) → Says (cond6 t) (Condition6 t)
unfolding cond6 Condition6
says_6 t =
    says_as (says_all (S t) (λ s. says_symbol t (λ x. says_imp (says_not (says_eq (target t s x) 255))
    (says_item t (target t s x) (λ p d. says_imp (says_lt 0 d) (says_and (says_eq (symbol t p (d - 1)) x) (says_has t s p (d - 1))))))))
    (λ g s x p d hs hx hg. g s hs x hx hg p d)
    (λ g s hs x hx hg p d. g s x p d hs hx hg)
