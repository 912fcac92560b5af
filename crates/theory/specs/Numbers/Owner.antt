-- Distinct numbers: every old number has an owner, a token of every old piece with tokens that holds the number.
use Rattle.std.specs.Prelude.{◌≡◌, ℕ, zero, suc, ◌+◌, ◌≤◌, ◌<◌, length}
use Rattle.std.proofs.Common.{arith}
use Rattle.std.proofs.Math.Decide.{ℕ_discrete, dec_lt}
use Rattle.definitions.specs.Tree.{Row, ∅, tok, nod, NRow, ε, ntok, nnod, erase, occ, noc, eqn, toks}
use Rattle.theory.specs.Numbers.Counting.{eqn_same, eqn_eq, eqn-other, ids, direct, among, ids_split, some_token}

-- every piece with tokens that holds the inner number i has the token x; and the node i has it directly, if it has tokens directly
abbrev pub Owned : ℕ → ℕ → NRow → Type 0
Owned i x ε = Unit {0}
Owned i x (ntok k j f) = Owned i x f
Owned i x (nnod q j d f) =
    (0 < toks (erase d) → noc i d + eqn i j ≤ ids x (erase d)) × (i ≡ j → 0 < length (direct (erase d)) → 0 < among x (direct (erase d))) × Owned i x d × Owned i x f

pub direct-toks : (f : Row) → length (direct f) ≤ toks f
direct-toks ∅ = omega arith
direct-toks (tok x f) = omega (arith, direct-toks f)
direct-toks (nod q c f) = omega (arith, direct-toks f)

absent : (i x : ℕ) (r : NRow) → noc i r ≡ 0 → Owned i x r
absent i x ε z = tt
absent i x (ntok k j f) z = absent i x f z
absent i x (nnod q j d f) z = ((λ h. omega arith), (λ e h. absurd (omega (arith, eqn_eq e))), absent i x d (omega arith), absent i x f (omega arith))

bare : (i x : ℕ) (r : NRow) → toks (erase r) ≡ 0 → Owned i x r
bare i x ε z = tt
bare i x (ntok k j f) z = absurd (omega arith)
bare i x (nnod q j d f) z = ((λ h. absurd (omega arith)), (λ e h. absurd (omega (arith, direct-toks (erase d)))), bare i x d (omega arith), bare i x f (omega arith))

pub some-direct : (r : NRow) → occ 0 r ≡ 0 → 0 < length (direct (erase r)) → (x : ℕ) × (0 < x) × (0 < among x (direct (erase r)))
some-direct ε z h = absurd (omega arith)
some-direct (ntok k zero f) z h = absurd (omega (arith, eqn_same 0))
some-direct (ntok k (suc i) f) z h = (suc i, omega arith, omega (arith, eqn_same (suc i)))
some-direct (nnod p j c f) z h = some-direct f (omega arith) h

-- the token of the row that stands for its node i
abbrev Owner : ℕ → NRow → Type 0
Owner i r = (x : ℕ) × (0 < x) × Owned i x r × (0 < noc i r → 0 < toks (erase r) → 0 < ids x (erase r))

pub owner : (i : ℕ) (r : NRow) → occ 0 r ≡ 0 → noc i r ≤ 1 → Owner i r
owner i ε z h = (1, omega arith, tt, λ a b. absurd (omega arith))
owner i (ntok k zero f) z h = absurd (omega (arith, eqn_same 0))
owner i (ntok k (suc j) f) z h = by (dec_lt 0 (toks (erase f))) (owner i f (omega arith) h)
  where
    by : Dec (0 < toks (erase f)) → Owner i f → Owner i (ntok k (suc j) f)
    by (yes l) o = (o.0, o.1, o.2, λ a b. omega (arith, o.3 a l))
    by (no l) o = (suc j, omega arith, bare i (suc j) f (omega arith), λ a b. omega (arith, eqn_same (suc j)))
owner i (nnod q j c f) z h = by (dec_lt 0 (noc i f)) (dec_lt 0 (toks (erase f))) (dec_lt 0 (toks (erase c))) (ℕ_discrete i j) (λ l. owner i c (omega arith) l) (λ l. owner i f (omega arith) l)
  where
    -- the node itself: a token directly under it, or any
    itself : 0 < toks (erase c) → noc i f ≡ 0 → i ≡ j → Dec (0 < length (direct (erase c))) → Owner i (nnod q j c f)
    itself l g e (yes d) =
        let x = some-direct c (omega arith) d in
        let u : eqn i j ≡ 1 = eqn_eq e in
        (x.0, x.1, ((λ y. omega (arith, x.2, ids_split x.0 (erase c))), (λ y w. x.2), absent i x.0 c (omega arith), absent i x.0 f g), λ y w. omega (arith, x.2, ids_split x.0 (erase c)))
    itself l g e (no d) =
        let x = some_token c (omega arith) l in
        let u : eqn i j ≡ 1 = eqn_eq e in
        (x.0, x.1, ((λ y. omega (arith, x.2)), (λ y w. absurd (d w)), absent i x.0 c (omega arith), absent i x.0 f g), λ y w. omega (arith, x.2))

    by : Dec (0 < noc i f) → Dec (0 < toks (erase f)) → Dec (0 < toks (erase c)) → Dec (i ≡ j) → (noc i c ≤ 1 → Owner i c) → (noc i f ≤ 1 → Owner i f) → Owner i (nnod q j c f)
    by (yes g) (yes l) t e oc of =
        let o = of (omega arith) in
        (o.0, o.1, ((λ y. omega arith), (λ y w. absurd (omega (arith, eqn_eq y))), absent i o.0 c (omega arith), o.2), λ y w. omega (arith, o.3 g l))
    by (yes g) (no l) (yes t) e oc of =
        let x = some_token c (omega arith) t in
        (x.0, x.1, ((λ y. omega arith), (λ y w. absurd (omega (arith, eqn_eq y))), absent i x.0 c (omega arith), bare i x.0 f (omega arith)), λ y w. omega (arith, x.2))
    by (yes g) (no l) (no t) e oc of = (1, omega arith, bare i 1 (nnod q j c f) (omega arith), λ y w. absurd (omega arith))
    by (no g) (no l) (no t) e oc of = (1, omega arith, bare i 1 (nnod q j c f) (omega arith), λ y w. absurd (omega arith))
    by (no g) (yes l) (no t) e oc of =
        let x = some_token f (omega arith) l in
        (x.0, x.1, ((λ y. absurd (t y)), (λ y w. absurd (omega (arith, direct-toks (erase c)))), bare i x.0 c (omega arith), absent i x.0 f (omega arith)), λ y w. omega (arith, x.2))
    by (no g) l (yes t) (yes e) oc of = itself t (omega arith) e (dec_lt 0 (length (direct (erase c))))
    by (no g) l (yes t) (no e) oc of =
        let o = oc (omega arith) in
        let u = eqn-other {i = i} {j = j} e in
        (o.0, o.1, ((λ y. inside o (dec_lt 0 (noc i c)) y), (λ y w. absurd (e y)), o.2, absent i o.0 f (omega arith)), λ y w. omega (arith, o.3 (omega arith) t))
      where
        inside : (o : Owner i c) → Dec (0 < noc i c) → 0 < toks (erase c) → noc i c + eqn i j ≤ ids o.0 (erase c)
        inside o (yes v) y = omega (arith, o.3 v y, eqn-other {i = i} {j = j} e)
        inside o (no v) y = omega (arith, eqn-other {i = i} {j = j} e)
