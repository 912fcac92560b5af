-- What the answers of a state tell: that what is asked holds, or a condition that is broken, by its number.
use Rattle.std.specs.Prelude.{◌≡◌, refl, Bool, List, ℕ, ◌+◌, ◌<◌, Result, Ok, Err}
use Rattle.std.proofs.Common.{subst, inl, inr}
use Rattle.std.proofs.Math.Path.{subst⁻¹}
use Rattle.definitions.specs.Sheet.{T, N, S, count, Layout}
use Rattle.definitions.specs.Grammar.{GrammarRules}
use Rattle.definitions.specs.States.{Symbol, Goes, target, Condition5, StateConditions}
use Rattle.theory.specs.Check.Says.{Says, says_as}
use Rattle.states.specs.First as firsts
use Rattle.states.specs.First.{Condition1At}
use Rattle.states.specs.Items as items
use Rattle.states.specs.Items.{Condition3At, Condition4At}
use Rattle.states.specs.Weak as weakly
use Rattle.states.specs.Weak.{WeakAction, WeakGoto, Weak5}
use Rattle.states.specs.Dots as dots
use Rattle.states.specs.Dots.{Condition6At}
use Rattle.states.specs.Chains as chains
use Rattle.states.specs.Chains.{Condition7At}
use Rattle.table.specs.declared.Condition.{Condition}
use Rattle.table.specs.Conditions.{condition}
use Rattle.table.specs.Needs as needs
use Rattle.table.specs.Needs.{Condition2At}

-- what an answer tells: A where nothing is broken, else B of the number of a condition
abbrev pub Tells : Type 0 → (ℕ → Type 0) → Result (Unit {0}) Condition → Type 0
Tells A B (Ok u) = A
Tells A B (Err c) = B (condition c)

-- ---- the transitions of a state

-- condition 6 at the transition of s on x, if there is one
pub record Into (t : List ℕ) (s x : ℕ) : Type 0 where
  pub enters : Goes t s x → Condition6At t s x (target t s x)

pub into_none : {t : List ℕ} {s x : ℕ} → target t s x ≡ 255 → Into t s x
into_none e = record { enters = λ g. absurd (g e) }

pub into_told : {t : List ℕ} {s x u : ℕ} {b : Bool} → u ≡ target t s x → Goes t s x → Says b (Condition6At t s x u) → Says b (Into t s x)
into_told {t} {s} {x} e g w = says_as w
    (λ f. record { enters = λ h. subst (λ (u : ℕ). Condition6At t s x u) e f })
    (λ f. subst⁻¹ (λ (u : ℕ). Condition6At t s x u) e (f.enters g))

-- condition 6 at s
pub record Condition6From (t : List ℕ) (s : ℕ) : Type 0 where
  pub each : (x : ℕ) → Symbol t x → Into t s x

-- which of the two is broken
pub data Fails (A B : Type 0) : ℕ → Type 0 where
  five : (A → ⊥) → Fails A B 5
  six : (B → ⊥) → Fails A B 6

pub fails_more : {A B C D : Type 0} {r : ℕ} → (C → A) → (D → B) → Fails A B r → Fails C D r
fails_more f g (five h) = five (λ c. h (f c))
fails_more f g (six h) = six (λ d. h (g d))

-- what an answer on transitions tells
abbrev pub Moves : Type 0 → Type 0 → Result (Unit {0}) Condition → Type 0
Moves A B = Tells (A × B) (Fails A B)

-- all of them, from the terminals and the nonterminals
module _ {t : List ℕ} {s : ℕ} where
  pub weak_all : ((a : ℕ) → a < T t → WeakAction t s a) → ((m : ℕ) → m < N t → WeakGoto t s m) → Weak5 t s
  weak_all f g = record { actions = f; gotos = g }

  pub from_all : ((a : ℕ) → a < T t → Into t s a) → ((m : ℕ) → m < N t → Into t s (128 + m)) → Condition6From t s
  from_all f g = record { each = go }
    where
      go : (x : ℕ) → Symbol t x → Into t s x
      go x (inl h) = f x h
      go x (inr h) = rw h.2 (g h.0 h.1)

  pub from_terminals : Condition6From t s → (a : ℕ) → a < T t → Into t s a
  from_terminals f a h = f.each a (inl h)

  pub from_nonterminals : Condition6From t s → (m : ℕ) → m < N t → Into t s (128 + m)
  from_nonterminals f m h = f.each (128 + m) (inr (m, h, refl))

-- ---- a state

-- what is judged once of a state
pub record Kept (t : List ℕ) (s : ℕ) : Type 0 where
  pub one : Condition1At t s
  pub seven : Condition7At t s
  pub two : Condition2At t s
  pub five : Weak5 t s
  pub six : Condition6From t s

-- what is judged of each of its items
pub record ItemKept (t : List ℕ) (s i : ℕ) : Type 0 where
  pub three : Condition3At t s i
  pub four : (a : ℕ) → a < T t → Condition4At t s i a

pub record StateKept (t : List ℕ) (s : ℕ) : Type 0 where
  pub once : Kept t s
  pub items : (i : ℕ) → i < count t s → ItemKept t s i

-- condition c is broken at s
pub data BrokenAt (t : List ℕ) (s : ℕ) : ℕ → Type 0 where
  first : (Condition1At t s → ⊥) → BrokenAt t s 1
  second : (Condition2At t s → ⊥) → BrokenAt t s 2
  third : (((i : ℕ) → i < count t s → Condition3At t s i) → ⊥) → BrokenAt t s 3
  fourth : (((i a : ℕ) → i < count t s → a < T t → Condition4At t s i a) → ⊥) → BrokenAt t s 4
  fifth : (Condition5 t s → ⊥) → BrokenAt t s 5
  sixth : (Condition6From t s → ⊥) → BrokenAt t s 6
  seventh : (Condition7At t s → ⊥) → BrokenAt t s 7

module _ (t : List ℕ) (laid : Layout t) (rules : GrammarRules t) where
  -- a state of which all is kept keeps condition 5; one where the weak form of 5 fails, and 1 does not, breaks it
  fifth_kept : (s : ℕ) → StateKept t s → Condition5 t s
  fifth_kept s k = weakly.five t laid s rules.top.1 k.once.one.ends (λ i a h ha. (k.items i h).four a ha) k.once.five

  moves_broken : (s r : ℕ) → Condition1At t s → Fails (Weak5 t s) (Condition6From t s) r → BrokenAt t s r
  moves_broken s r o (five h) = fifth (λ f. h (weakly.weak t laid s rules.top.1 o.ends f))
  moves_broken s r o (six h) = sixth h

  pub state_then : {s : ℕ} → Condition1At t s → Condition7At t s → Condition2At t s
      → (r : Result (Unit {0}) Condition) → Moves (Weak5 t s) (Condition6From t s) r → Tells (Kept t s) (BrokenAt t s) r
  state_then a b c (Ok u) m = record { one = a; seven = b; two = c; five = m.0; six = m.1 }
  state_then {s} a b c (Err e) m = moves_broken s (condition e) a m

  -- ---- all states

  pub all_kept : ((s : ℕ) → s < S t → StateKept t s) → StateConditions t
  all_kept f = record {
    one = (firsts.one t laid).0 (λ s h. (f s h).once.one);
    two = (needs.two t).0 (λ s h. (f s h).once.two);
    three = (items.three t).0 (λ s i h l. ((f s h).items i l).three);
    four = (items.four t).0 (λ s i a h l k. ((f s h).items i l).four a k);
    five = λ s h. fifth_kept s (f s h);
    six = (dots.six t).0 (λ s x h y. ((f s h).once.six.each x y).enters);
    seven = (chains.seven t).0 (λ s h. (f s h).once.seven);
  }

pub one-broken : (t : List ℕ) → Layout t → (s c : ℕ) → s < S t → BrokenAt t s c → StateConditions t → ⊥
one-broken t laid s c h (first g) k = g ((firsts.one t laid).1 k.one s h)
one-broken t laid s c h (second g) k = g ((needs.two t).1 k.two s h)
one-broken t laid s c h (third g) k = g (λ i l. (items.three t).1 k.three s i h l)
one-broken t laid s c h (fourth g) k = g (λ i a l m. (items.four t).1 k.four s i a h l m)
one-broken t laid s c h (fifth g) k = g (k.five s h)
one-broken t laid s c h (sixth g) k = g (record { each = λ x y. record { enters = (dots.six t).1 k.six s x h y } })
one-broken t laid s c h (seventh g) k = g ((chains.seven t).1 k.seven s h)
