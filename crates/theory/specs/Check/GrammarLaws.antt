-- What the test of the grammar rules says: `GrammarRules`. "Every nonterminal derives some string of terminals" is what the N rounds say.
use Rattle.std.specs.Prelude.{refl, Bool, List, ℕ, zero, suc, ◌-◌, ◌≤◌, ◌<◌, leb}
use Rattle.std.proofs.Common.{subst}
use Rattle.theory.specs.Check.Every.{times, ◌⇒◌}
use Rattle.theory.specs.Check.Sets.{empty, holds}
use Rattle.definitions.specs.Sheet.{N, P, left, len, symbol, Layout}
use Rattle.definitions.specs.Grammar.{Derives, by, GrammarRules}
use Rattle.theory.specs.Check.GrammarTest.{each_right, productive_next, productive, grammar}
use Rattle.theory.specs.Check.Says.{Says, says_as, says_and, says_not, says_each_below, says_all, says_imp, says_eq, says_le, says_so}
use Rattle.theory.specs.Check.SetLaws.{Held, says_empty}
use Rattle.theory.specs.Check.Least.{closed, says_lefts, lefts_mono}
use Rattle.theory.specs.Check.Rounds.{Under}
use Rattle.theory.specs.Check.LayoutLaws.{symbol_exists}

module _ (t : List ℕ) where
  -- every nonterminal of production p is in the set
  abbrev ready : ℕ → ℕ → Bool
  ready set p = each_right t p (λ x. leb 128 x ⇒ holds set (x - 128))

  says_ready : (set p : ℕ) → Says (ready set p) ((k : ℕ) → k < len t p → 128 ≤ symbol t p k → Held set (symbol t p k - 128))
  says_ready set p = says_all (len t p) (λ k. says_imp (says_le 128 (symbol t p k)) (says_so (holds set (symbol t p k - 128))))

  sound : (r n : ℕ) → Held (times r (productive_next t) empty) n → Derives t n
  sound zero n h = absurd (says_empty n h)
  sound (suc r) n h =
      let set = times r (productive_next t) empty in
      let l = (says_lefts t (ready set) n).to h in
      let g = (says_ready set l.rule).to l.passes in
      subst (Derives t) l.for (by l.rule l.exists (λ k m b. sound r (symbol t l.rule k - 128) (g k m b)))

  -- of a sheet well laid out, whose every symbol named exists
  module _ (laid : Layout t) where
    exist : (p k : ℕ) → p < P t → k < len t p → symbol t p k - 128 < N t
    exist = symbol_exists t laid

    mono : (a b : ℕ) → Under (N t) (holds a) (holds b) → Under (N t) (holds (productive_next t a)) (holds (productive_next t b))
    mono a b u = lefts_mono t (N t) _ _ (λ p hp e.
        (says_ready b p).from (λ k m l. u (symbol t p k - 128) (exist p k hp m) ((says_ready a p).to e k m l)))

    complete : (n : ℕ) → n < N t → Derives t n → Held (productive t) n
    complete n h (by p hp f) =
        closed (N t) (productive_next t) mono (left t p) h
        ((says_lefts t (ready (productive t)) (left t p)).from
        (record {
          rule = p;
          exists = hp;
          for = refl;
          passes = (says_ready (productive t) p).from (λ k m b. complete (symbol t p k - 128) (exist p k hp m) (f k m b));
        }))

    pub says_productive : (n : ℕ) → n < N t → Says (holds (productive t) n) (Derives t n)
    says_productive n h = record { to = sound (N t) n; from = complete n h }

pub says_grammar : (t : List ℕ) → Layout t → Says (grammar t) (GrammarRules t)
unfolding grammar
says_grammar t laid =
    says_as
    (says_and (says_and (says_and (says_and (says_and
    (says_all (P t) (λ p. says_all (len t p) (λ k. says_and (says_not (says_eq (symbol t p k) 0)) (says_not (says_eq (symbol t p k) 128)))))
    (says_eq (left t 0) 0)) (says_eq (len t 0) 1)) (says_le 128 (symbol t 0 0)))
    (says_all (P t) (λ p. says_imp (says_eq (left t p) 0) (says_eq p 0))))
    (says_each_below (N t) (says_productive t laid)))
    (λ r. record { inside = r.0.0.0.0.0; top = (r.0.0.0.0.1, r.0.0.0.1); start = r.0.0.1; only = r.0.1; derive = r.1 })
    (λ r. (((((r.inside, r.top.0), r.top.1), r.start), r.only), r.derive))
