-- A nonterminal that may derive the empty string, or begin with b, does: the tests of the theory find out. So what a type holds of the
-- nullable nonterminals and of FIRST without saying how, as a ghost field must, is known.
use Rattle.std.specs.Prelude.{List, ℕ, ◌<◌}
use Rattle.std.proofs.Math.Logic.{∥∥₁_elim}
use Rattle.std.proofs.Props.{props}
use Rattle.definitions.specs.Sheet.{N, Layout}
use Rattle.definitions.specs.Grammar.{Nullable, by, Begins, here, inside}
use Rattle.terminals.specs.declared.Terminals.{Terminals}
use Rattle.theory.specs.Check.FirstLaws.{says_nullable, says_begins}
use Rattle.grammar.specs.First.{Firsts}
use Rattle.grammar.specs.Least.{Nulls}

module _ (t : List ℕ) (l : Layout t) where
  -- only a nonterminal derives something
  nullable_below : (n : ℕ) → Nullable t n → n < N t
  nullable_below n (by p h f g) = (l.productions p h).of

  begins_below : (b n : ℕ) → Begins t b n → n < N t
  begins_below b n (here p k h i e f) = (l.productions p h).of
  begins_below b n (inside p k h i e g f) = (l.productions p h).of

  nullable_known : (n : ℕ) → ∥ Nullable t n ∥₁ → Nullable t n
  nullable_known n x =
      let h : n < N t = ∥∥₁_elim x (Prim.hlevel props) (nullable_below n) in
      let s = says_nullable t l n h in
      s.to (∥∥₁_elim x (Prim.hlevel props) s.from)

  begins_known : (b n : ℕ) → ∥ Begins t b n ∥₁ → Begins t b n
  begins_known b n x =
      let h : n < N t = ∥∥₁_elim x (Prim.hlevel props) (begins_below b n) in
      let s = says_begins t l b n h in
      s.to (∥∥₁_elim x (Prim.hlevel props) s.from)

  pub nulls_known : (set : ℕ) → ∥ Nulls t set ∥₁ → Nulls t set
  nulls_known set x n = (
    λ h. nullable_known n (∥∥₁_elim x (Prim.hlevel props) (λ f. ∣ (f n).0 h ∣₁)),
    λ k. ∥∥₁_elim x (Prim.hlevel props) (λ f. (f n).1 k),
  )

  pub firsts_known : (fs : List Terminals) → ∥ Firsts t fs ∥₁ → Firsts t fs
  firsts_known fs x n b = (
    λ h. (∥∥₁_elim x (Prim.hlevel props) (λ f. ((f n b).0 h).0), begins_known b n (∥∥₁_elim x (Prim.hlevel props) (λ f. ∣ ((f n b).0 h).1 ∣₁))),
    λ k. ∥∥₁_elim x (Prim.hlevel props) (λ f. (f n b).1 k),
  )
