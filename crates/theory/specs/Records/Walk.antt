-- The backward pass over the records: a copied piece is stepped over by its size. It finds what `sources` says.
use Rattle.std.specs.Prelude.{◌≡◌, ℕ, zero, suc, length}
use Rattle.std.proofs.Math.Path.{refl, ap}
use Rattle.std.proofs.Common.{sym, ◌∙◌, arith, length-append}
use mathlib.Core.List.{List, [], ◌∷◌, ◌++◌, append_assoc, append-nil}
use Rattle.std.proofs.Math.Option.{Option, none, some}
use Rattle.definitions.specs.Tree.{mk, Row, ∅, tok, nod, size, nums}
use Rattle.theory.specs.Numbers.Number.{Verdict, copy, keep, new!, number}
use Rattle.theory.specs.Numbers.Seek.{numbered}
use Rattle.theory.specs.Records.Words.{given, source, sources, assign, raised, forward}

-- of a record: how many records its piece has before it, and its verdict (a token's: it keeps its number, or is new)
pub data Info : Type 0 where
  info : ℕ → Verdict → Info

-- the records from the last to the first
abbrev pub walk : List Info → ℕ → List (Option ℕ) → List (Option ℕ)
walk [] k a = a
walk (info z v ∷ l) (suc k) a = walk l k a
walk (info z (copy i d) ∷ l) zero a = walk l z (given (nums d) ++ (some i ∷ a))
walk (info z (keep i) ∷ l) zero a = walk l 0 (some i ∷ a)
walk (info z new! ∷ l) zero a = walk l 0 (none ∷ a)

skip : (a l : List Info) (k : ℕ) (s : List (Option ℕ)) → length a ≡ k → walk (a ++ l) k s ≡ walk l 0 s
skip [] l zero s e = refl
skip [] l (suc k) s e = absurd (omega arith)
skip (info z v ∷ a) l zero s e = absurd (omega arith)
skip (info z v ∷ a) l (suc k) s e = skip a l k s (omega arith)

module _ (J : ℕ → Row → Verdict) where
  -- the records of the row from the last to the first, then l
  abbrev pub infos : Row → List Info → List Info
  infos ∅ l = l
  infos (tok (mk k zero) f) l = infos f (info 0 new! ∷ l)
  infos (tok (mk k (suc i)) f) l = infos f (info 0 (keep (suc i)) ∷ l)
  infos (nod q c f) l = infos f (info (size c) (J q c) ∷ infos c l)

  infos_split : (f : Row) (l : List Info) → (a : List Info) × (infos f l ≡ a ++ l) × (length a ≡ size f)
  infos_split ∅ l = ([], refl, refl)
  infos_split (tok (mk k zero) f) l = let r = infos_split f (info 0 new! ∷ l) in (r.0 ++ (info 0 new! ∷ []), r.1 ∙ sym (append_assoc r.0 (info 0 new! ∷ []) l), omega (arith, length-append r.0 (info 0 new! ∷ []), r.2))
  infos_split (tok (mk k (suc i)) f) l = let r = infos_split f (info 0 (keep (suc i)) ∷ l) in (r.0 ++ (info 0 (keep (suc i)) ∷ []), r.1 ∙ sym (append_assoc r.0 (info 0 (keep (suc i)) ∷ []) l), omega (arith, length-append r.0 (info 0 (keep (suc i)) ∷ []), r.2))
  infos_split (nod q c f) l =
      let s = infos_split c l in
      let x : Info = info (size c) (J q c) in
      let r = infos_split f (x ∷ infos c l) in
      (r.0 ++ (x ∷ s.0), r.1 ∙ ap (λ m. r.0 ++ (x ∷ m)) s.1 ∙ sym (append_assoc r.0 (x ∷ s.0) l), omega (arith, length-append r.0 (x ∷ s.0), r.2, s.2))

  pub walk_is : (f : Row) (l : List Info) (a : List (Option ℕ)) → walk (infos f l) 0 a ≡ walk l 0 (sources J f ++ a)
  unfolding sources
  walk_is ∅ l a = refl
  walk_is (tok (mk k zero) f) l a = walk_is f (info 0 new! ∷ l) a
  walk_is (tok (mk k (suc i)) f) l a = walk_is f (info 0 (keep (suc i)) ∷ l) a
  walk_is (nod q c f) l a = walk_is f (info (size c) (J q c) ∷ infos c l) a ∙ by (J q c) (λ m. walk_is c l m) ∙ ap (walk l 0) (sym (append_assoc (source (J q c) (sources J c)) (sources J f) a))
    where
      by : (v : Verdict) → ((m : List (Option ℕ)) → walk (infos c l) 0 m ≡ walk l 0 (sources J c ++ m)) → walk (info (size c) v ∷ infos c l) 0 (sources J f ++ a) ≡ walk l 0 (source v (sources J c) ++ (sources J f ++ a))
      by (copy i d) k =
          let r = infos_split c l in
          ap (λ m. walk m (size c) (given (nums d) ++ (some i ∷ (sources J f ++ a)))) r.1 ∙ skip r.0 l (size c) (given (nums d) ++ (some i ∷ (sources J f ++ a))) r.2
          ∙ ap (walk l 0) (sym (append_assoc (given (nums d)) (some i ∷ []) (sources J f ++ a)))
      by (keep i) k = k (some i ∷ (sources J f ++ a)) ∙ ap (walk l 0) (sym (append_assoc (sources J c) (some i ∷ []) (sources J f ++ a)))
      by new! k = k (none ∷ (sources J f ++ a)) ∙ ap (walk l 0) (sym (append_assoc (sources J c) (none ∷ []) (sources J f ++ a)))

  pub walked : (f : Row) → walk (infos f []) 0 [] ≡ sources J f
  walked f = walk_is f [] [] ∙ append-nil (sources J f)

  -- the numbers of the numbered row, and the next number, from the backward walk and one forward pass
  pub walk-numbers : (f : Row) (n : ℕ) → (nums (number J f n).0 ≡ assign (walk (infos f []) 0 []) n) × ((number J f n).1 ≡ raised (walk (infos f []) 0 []) n)
  walk-numbers f n = let u = forward J (numbered J f n) in (u.0 ∙ ap (λ l. assign l n) (sym (walked f)), u.1 ∙ ap (λ l. raised l n) (sym (walked f)))
