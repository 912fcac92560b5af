-- The least set that holds each left side of a production whose symbols all pass: what a round adds to a set, and that a set to
-- which a round adds nothing is the nonterminals that derive some string, or the empty one.
use Rattle.std.specs.Prelude.{◌≡◌, refl, Bool, true, false, List, ◌⊎◌, ◌↔◌, ℕ, ◌+◌, ◌-◌, ◌≤◌, ◌<◌, ltb}
use Rattle.std.proofs.Common.{subst, inl, inr, ⊎_elim, arith, ltb-true, ltb-false}
use Rattle.std.proofs.lemmas.Bool.{false≢true}
use Rattle.definitions.specs.Sheet.{P, left, len, symbol}
use Rattle.definitions.specs.States.{Holds}
use Rattle.definitions.specs.Grammar.{Derives, Nullable, by}
use Rattle.theory.specs.Check.Says.{Says, says_as}
use Rattle.terminals.specs.Members.{One, Join, Within}

-- the symbol x passes: a terminal where `tokens`, a nonterminal where it is in the set
abbrev pub Passes : Bool → ℕ → ℕ → Type 0
Passes tokens set x = ((x < 128) × (tokens ≡ true)) ⊎ ((128 ≤ x) × Holds set (x - 128))

-- every symbol of production p passes
abbrev pub Ready : List ℕ → Bool → ℕ → ℕ → Type 0
Ready t tokens set p = (k : ℕ) → k < len t p → Passes tokens set (symbol t p k)

-- n is the left side of a production whose terminals may stand there and whose nonterminals are such left sides themselves
pub data Least (t : List ℕ) (tokens : Bool) : ℕ → Type 0 where
  of : (p : ℕ) → p < P t → ((k : ℕ) → k < len t p → symbol t p k < 128 → tokens ≡ true)
      → ((k : ℕ) → k < len t p → 128 ≤ symbol t p k → Least t tokens (symbol t p k - 128)) → Least t tokens (left t p)

-- the set holds the nonterminals that derive the empty string
abbrev pub Nulls : List ℕ → ℕ → Type 0
Nulls t set = (n : ℕ) → Holds set n ↔ Nullable t n

-- the set holds none but those
abbrev pub Sound : List ℕ → Bool → ℕ → Type 0
Sound t tokens set = (n : ℕ) → Holds set n → Least t tokens n

-- what the productions from lo up to hi make of a set
pub record Round (t : List ℕ) (tokens : Bool) (lo hi set next : ℕ) : Type 0 where
  pub grows : Within set next
  pub sound : Sound t tokens set → Sound t tokens next
  -- where they add nothing, the set holds the left side of each whose symbols all pass
  pub closed : Within next set → (p : ℕ) → lo ≤ p → p < hi → Ready t tokens set p → Holds set (left t p)

-- the test of one symbol
pub says_terminal : (tokens : Bool) (set x : ℕ) → x < 128 → Says tokens (Passes tokens set x)
says_terminal tokens set x l = record { to = λ e. inl (l, e); from = back }
  where
    back : Passes tokens set x → tokens ≡ true
    back (inl h) = h.1
    back (inr h) = let a = h.0 in absurd (omega arith)

pub says_nonterminal : (tokens : Bool) (set x : ℕ) {b : Bool} → 128 ≤ x → Says b (Holds set (x - 128)) → Says b (Passes tokens set x)
says_nonterminal tokens set x l s = says_as s (λ h. inr (l, h)) back
  where
    back : Passes tokens set x → Holds set (x - 128)
    back (inl h) = let a = h.0 in absurd (omega arith)
    back (inr h) = h.1

module _ (t : List ℕ) (tokens : Bool) where
  -- more symbols pass where the set is larger
  pass_more : (a b x : ℕ) → Within a b → Passes tokens a x → Passes tokens b x
  pass_more a b x w (inl h) = inl h
  pass_more a b x w (inr h) = inr (h.0, w (x - 128) h.1)

  -- ---- one production, and one after the other

  pub round_none : (p set : ℕ) → Round t tokens p p set set
  round_none p set = record { grows = λ b h. h; sound = λ s. s; closed = λ w q l h r. absurd (omega arith) }

  -- nothing is added where the left side is there, or a symbol does not pass
  pub round_same : (p set : ℕ) → (Ready t tokens set p → Holds set (left t p)) → Round t tokens p (p + 1) set set
  round_same p set f =
      record {
        grows = λ b h. h;
        sound = λ s. s;
        closed = λ w q l h r. let e : p ≡ q = omega arith in subst (λ q. Ready t tokens set q → Holds set (left t q)) e f r;
      }

  made : (p set : ℕ) → p < P t → Ready t tokens set p → Sound t tokens set → Least t tokens (left t p)
  made p set h r s = of p h (λ k i. terminal (symbol t p k) (r k i)) (λ k i. other (symbol t p k) (r k i))
    where
      terminal : (x : ℕ) → Passes tokens set x → x < 128 → tokens ≡ true
      terminal x (inl g) l = g.1
      terminal x (inr g) l = let a = g.0 in absurd (omega arith)

      other : (x : ℕ) → Passes tokens set x → 128 ≤ x → Least t tokens (x - 128)
      other x (inl g) l = let a = g.0 in absurd (omega arith)
      other x (inr g) l = s (x - 128) g.1

  pub round_join : (p set one next : ℕ) → p < P t → Ready t tokens set p → One (left t p) one → Join set one next
      → Round t tokens p (p + 1) set next
  round_join p set one next h r o j =
      record {
        grows = λ b g. (j.holds b).1 (inl g);
        sound = λ s n g. ⊎_elim (s n) (λ g. subst (Least t tokens) ((o.holds n).0 g) (made p set h r s)) ((j.holds n).0 g);
        closed = λ w q l m _.
            let e : p ≡ q = omega arith in
            subst (λ q. Holds set (left t q)) e (w (left t p) ((j.holds (left t p)).1 (inr ((o.holds (left t p)).1 refl))));
      }

  pub round_next : (lo p hi set mid next : ℕ) → Round t tokens lo p set mid → Round t tokens p hi mid next → Round t tokens lo hi set next
  round_next lo p hi set mid next f g =
      record {
        grows = λ b h. g.grows b (f.grows b h);
        sound = λ s. g.sound (f.sound s);
        closed = λ w q l h r. go w q l h r (ltb q p) refl;
      }
    where
      go : Within next set → (q : ℕ) → lo ≤ q → q < hi → Ready t tokens set q → (c : Bool) → ltb q p ≡ c → Holds set (left t q)
      go w q l h r true e = f.closed (λ b m. w b (g.grows b m)) q l (ltb-true q p e) r
      go w q l h r false e =
          w (left t q) (g.grows (left t q) (g.closed (λ b m. f.grows b (w b m)) q (ltb-false q p e) h (λ k i. pass_more set mid (symbol t q k) f.grows (r k i))))

  -- ---- the set to which a round adds nothing

  pass : (x set : ℕ) → (x < 128 → tokens ≡ true) → (128 ≤ x → Holds set (x - 128)) → Passes tokens set x
  pass x set f g = go (ltb x 128) refl
    where
      go : (c : Bool) → ltb x 128 ≡ c → Passes tokens set x
      go true e = let l = ltb-true x 128 e in inl (l, f l)
      go false e = let l = ltb-false x 128 e in inr (l, g l)

  complete : (set : ℕ) → ((p : ℕ) → p < P t → Ready t tokens set p → Holds set (left t p)) → (n : ℕ) → Least t tokens n → Holds set n
  complete set f n (of p h a b) = f p h (λ k i. pass (symbol t p k) set (a k i) (λ l. complete set f (symbol t p k - 128) (b k i l)))

  pub found : (set next : ℕ) → Round t tokens 0 (P t) set next → next ≡ set → Sound t tokens set → (n : ℕ) → Holds set n ↔ Least t tokens n
  found set next r e s n =
      (s n, complete set (λ p h. r.closed (λ b g. subst (λ x. Holds x b) e g) p (omega arith) h) n)

-- ---- in the words of the definitions

module _ (t : List ℕ) where
  pub least_derives : (n : ℕ) → Least t true n → Derives t n
  least_derives n (of p h a b) = by p h (λ k i l. least_derives (symbol t p k - 128) (b k i l))

  pub derives_least : (n : ℕ) → Derives t n → Least t true n
  derives_least n (by p h f) = of p h (λ k i l. refl) (λ k i l. derives_least (symbol t p k - 128) (f k i l))

  -- no terminal may stand there
  none : (x : ℕ) → (x < 128 → false ≡ true) → 128 ≤ x
  none x f = go (ltb x 128) refl
    where
      go : (c : Bool) → ltb x 128 ≡ c → 128 ≤ x
      go true e = absurd (false≢true (f (ltb-true x 128 e)))
      go false e = ltb-false x 128 e

  pub least_nullable : (n : ℕ) → Least t false n → Nullable t n
  least_nullable n (of p h a b) =
      by p h (λ k i. none (symbol t p k) (a k i)) (λ k i. least_nullable (symbol t p k - 128) (b k i (none (symbol t p k) (a k i))))

  pub nullable_least : (n : ℕ) → Nullable t n → Least t false n
  nullable_least n (by p h f g) =
      of p h (λ k i l. let b = f k i in absurd (omega arith)) (λ k i l. nullable_least (symbol t p k - 128) (g k i))
