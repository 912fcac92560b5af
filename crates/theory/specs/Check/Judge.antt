-- The three judgements of document 01 on a table sheet, made by the tests: each one way or the other, with its reason.
use Rattle.std.specs.Prelude.{◌≡◌, refl, Bool, true, false, ◌&&◌, List, ℕ}
use Rattle.std.proofs.lemmas.Bool.{false≢true}
use Rattle.definitions.specs.Sheet.{Layout}
use Rattle.definitions.specs.States.{StateConditions, Accepted, Judged}
use Rattle.theory.specs.Check.LayoutTest.{layout}
use Rattle.theory.specs.Check.GrammarTest.{grammar}
use Rattle.theory.specs.Check.StatesTest.{states}
use Rattle.theory.specs.Check.Says.{Says, says_as, says_and}
use Rattle.theory.specs.Check.LayoutLaws.{says_layout}
use Rattle.theory.specs.Check.GrammarLaws.{says_grammar}
use Rattle.theory.specs.Check.ConditionLaws.{says_1, says_2, says_3, says_4, says_5, says_6}
use Rattle.theory.specs.Check.ChainLaws.{says_7}

-- of a sheet well laid out, the test of the states says the seven conditions
pub says_states : (t : List ℕ) → Layout t → Says (states t) (StateConditions t)
unfolding states
says_states t l =
    says_as
    (says_and (says_and (says_and (says_and (says_and (says_and (says_1 t)
    (says_2 t l)) (says_3 t)) (says_4 t)) (says_5 t)) (says_6 t))
    (says_7 t l))
    (λ r. record {
      one = r.0.0.0.0.0.0;
      two = r.0.0.0.0.0.1;
      three = r.0.0.0.0.1;
      four = r.0.0.0.1;
      five = r.0.0.1;
      six = r.0.1;
      seven = r.1;
    })
    (λ r. ((((((r.one, r.two), r.three), r.four), r.five), r.six), r.seven))

-- the three tests together
unfoldable pub accepts : List ℕ → Bool
accepts t = layout t && grammar t && states t

pub says_accepts : (t : List ℕ) → Says (accepts t) (Accepted t)
unfolding accepts
says_accepts t = record { to = go (layout t) refl (grammar t) refl; from = back }
  where
    go : (a : Bool) → layout t ≡ a → (b : Bool) → grammar t ≡ b → (a && b && states t) ≡ true → Accepted t
    go true p true q e =
        let l = (says_layout t).to p in
        record { layout = l; rules = (says_grammar t l).to q; states = (says_states t l).to e }
    go true p false q e = absurd (false≢true e)
    go false p b q e = absurd (false≢true e)

    back : Accepted t → (layout t && grammar t && states t) ≡ true
    back a =
        let l = a.layout in
        (says_and (says_and (says_layout t) (says_grammar t l)) (says_states t l)).from ((l, a.rules), a.states)

-- what a test says is so or is not: the test computes, and its reason waits
unfoldable pub decided : {b : Bool} {A : Type 0} → Says b A → Dec A
decided {b} {A} says = go b says
  where
    go : (b : Bool) → Says b A → Dec A
    go true s = yes (s.to refl)
    go false s = no (λ a. false≢true (s.from a))

unfoldable pub judged : (t : List ℕ) → Judged t
judged t =
    record {
      layout = decided (says_layout t);
      rules = λ l. decided (says_grammar t l);
      states = λ l. decided (says_states t l);
    }
