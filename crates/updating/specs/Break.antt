-- A run searched from its end: the last token, and the breaks behind it.
use Rattle.std.specs.Prelude.{◌≡◌, refl, List, [], ◌∷◌, ◌++◌, ℕ, zero, suc, ◌+◌, ◌-◌, ◌≤◌, ◌<◌, length}
use Rattle.std.proofs.Common.{sym, ap, ◌∙◌, append_assoc, append-nil, arith}
use Rattle.std.proofs.Math.Option.{some}
use Rattle.std.proofs.Math.Decide.{dec_lt}
use Rattle.std.proofs.Math.ListN.{get_elem?}
use Rattle.definitions.specs.Table.{Table}
use Rattle.definitions.specs.Tree.{Tok, Row, ∅, tok, nod, ◌⧺◌, size, toks}
use Rattle.definitions.specs.Reading.{leaf, node}
use Rattle.definitions.specs.Moves.{standing, breaks}
use Rattle.theory.specs.Machine.Rows.{size-append, toks-append}
use Rattle.theory.specs.Records.Flat.{Word, wtok, wnod, flat, length-flat, trim, grow}
use Rattle.theory.specs.Records.Stand.{at_right}
use Rattle.theory.specs.Records.Scan.{flat_append, Last, empty, ends, last}
use Rattle.updating.specs.Records.{cell, Coded, Reads}
use Rattle.updating.specs.Cut.{standing-none, standing-some, standing-size, standing-toks, breaks_off, breaks_open, breaks_token}

-- ---- the last token
trim_node : (l : List Word) (q n : ℕ) → trim (l ++ (wnod q n ∷ [])) ≡ trim l
trim_node [] q n = refl
trim_node (wtok x ∷ l) q n = ap (wtok x ∷◌) (trim_node l q n)
trim_node (wnod p m ∷ l) q n = ap (grow (wnod p m)) (trim_node l q n)

trim_token : (l : List Word) (x : Tok) → trim (l ++ (wtok x ∷ [])) ≡ l ++ (wtok x ∷ [])
trim_token [] x = refl
trim_token (wtok y ∷ l) x = ap (wtok y ∷◌) (trim_token l x)
trim_token (wnod q n ∷ []) x = refl
trim_token (wnod q n ∷ (y ∷ l)) x = rw (trim_token (y ∷ l) x) refl

snoc : (l : List Word) (m : ℕ) → suc m ≡ length l → (l' : List Word) × (w : Word) × (l ≡ l' ++ (w ∷ [])) × (m ≡ length l')
snoc [] m e = absurd (omega arith)
snoc (x ∷ []) m e = ([], x, refl, omega arith)
snoc (x ∷ (y ∷ l)) zero e = absurd (omega arith)
snoc (x ∷ (y ∷ l)) (suc m) e = let r = snoc (y ∷ l) m (omega arith) in (x ∷ r.0, r.1, ap (x ∷◌) r.2, ap suc r.3)

-- the last token is among the first m records
pub record Trimming (ws : List Word) (m : ℕ) : Type 0 where
  pub front : List Word
  pub back : List Word
  pub is : front ++ back ≡ ws
  pub many : m ≡ length front
  pub same : trim ws ≡ trim front

pub all_front : (ws : List Word) (m : ℕ) → m ≡ length ws → Trimming ws m
all_front ws m e = record { front = ws; back = []; is = append-nil ws; many = e; same = refl }

pub no_front : (ws : List Word) → Trimming ws 0 → 0 ≡ length (trim ws)
no_front ws T = by T.front T.many T.same
  where
    by : (l : List Word) → 0 ≡ length l → trim ws ≡ trim l → 0 ≡ length (trim ws)
    by [] e s = rw s refl
    by (w ∷ l) e s = absurd (omega arith)

pub trimmed_few : (l : List Word) → length (trim l) ≤ length l
trimmed_few [] = omega arith
trimmed_few (wtok x ∷ l) = omega (arith, trimmed_few l)
trimmed_few (wnod q n ∷ l) = by (trim l) (trimmed_few l)
  where
    by : (u : List Word) → length u ≤ length l → length (grow (wnod q n) u) ≤ suc (length l)
    by [] h = omega arith
    by (x ∷ u) h = omega arith

module _ {G : Table} {nodes : List (List ℕ)} {ws : List Word} {m : ℕ} (R : Reads G nodes ws) (T : Trimming ws (suc m)) where
  at_front : (l : List Word) (w : Word) → T.front ≡ l ++ (w ∷ []) → m ≡ length l → Coded G nodes m w
  at_front l w e q =
      let z : ws ≡ l ++ (w ∷ T.back) = sym T.is ∙ ap (◌++ T.back) e ∙ append_assoc l (w ∷ []) T.back in
      R.at m w (ap (λ (u : List Word). get_elem? u m) z ∙ at_right l (w ∷ T.back) m 0 (omega arith))

  last_token : cell nodes m 0 < 256 → suc m ≡ length (trim ws)
  last_token h = let s = snoc T.front m T.many in by s.0 s.1 s.2 s.3
    where
      by : (l : List Word) (w : Word) → T.front ≡ l ++ (w ∷ []) → m ≡ length l → suc m ≡ length (trim ws)
      by l (wtok x) e q = T.many ∙ ap length (e ∙ sym (trim_token l x) ∙ ap trim (sym e) ∙ sym T.same)
      by l (wnod p n) e q = absurd (omega (arith, (at_front l (wnod p n) e q).kind))

  no_token : 256 ≤ cell nodes m 0 → Trimming ws m
  no_token h = let s = snoc T.front m T.many in by s.0 s.1 s.2 s.3
    where
      by : (l : List Word) (w : Word) → T.front ≡ l ++ (w ∷ []) → m ≡ length l → Trimming ws m
      by l (wtok x) e q = let c = at_front l (wtok x) e q in absurd (omega (arith, c.kind, c.fine.1))
      by l (wnod p n) e q =
          record {
            front = l;
            back = wnod p n ∷ T.back;
            is = sym (append_assoc l (wnod p n ∷ []) T.back) ∙ ap (◌++ T.back) (sym e) ∙ T.is;
            many = q;
            same = T.same ∙ ap trim e ∙ trim_node l p n;
          }

-- where no record from m on is a token, and the one before m is
pub stands : {G : Table} {nodes : List (List ℕ)} {ws : List Word} (m : ℕ) → Reads G nodes ws → m ≤ length nodes → ((i : ℕ) → m ≤ i → i < length nodes → 256 ≤ cell nodes i 0)
    → (0 < m → cell nodes (m - 1) 0 < 256) → m ≡ length (trim ws)
stands {G} {nodes} {ws} m R h behind last = at m (down (length nodes - m) m (omega arith) (λ i a. behind i a)) last
  where
    down : (d i : ℕ) → i + d ≡ length nodes → ((j : ℕ) → i ≤ j → j < length nodes → 256 ≤ cell nodes j 0) → Trimming ws i
    down zero i e k = all_front ws i (omega (arith, R.many))
    down (suc d) i e k = no_token R (down d (suc i) (omega arith) (λ j a. k j (omega arith))) (k i (omega arith) (omega arith))

    at : (i : ℕ) → Trimming ws i → (0 < i → cell nodes (i - 1) 0 < 256) → i ≡ length (trim ws)
    at zero T l = no_front ws T
    at (suc i) T l = let z : suc i - 1 ≡ i = omega arith in last_token R T (rw z at (l (omega arith)))

-- ---- the breaks: of the row f, k are counted and the first pos records are left to look at
pub record Breaking (f : Row) (m k pos : ℕ) : Type 0 where
  pub left : Row
  pub back : List Word
  pub is : flat left ++ back ≡ flat f
  pub many : pos ≡ size left
  pub stands : m ≡ standing left
  pub some : 0 < toks left
  pub counted : breaks f ≡ k + breaks left

pub all_left : (f : Row) (m pos : ℕ) → m ≡ standing f → pos ≡ size f → 0 < toks f → Breaking f m 0 pos
all_left f m pos e p h = record { left = f; back = []; is = append-nil (flat f); many = p; stands = e; some = h; counted = omega arith }

-- all that is left stands
pub none_left : {f : Row} {m k : ℕ} → Breaking f m k m → breaks f ≡ k
none_left {f} {m} {k} B = by B.left (last B.left) B.many B.stands B.some B.counted
  where
    by : (l : Row) → Last l → m ≡ size l → m ≡ standing l → 0 < toks l → breaks f ≡ k + breaks l → breaks f ≡ k
    by ∅ empty a b s c = absurd (omega arith)
    by l (ends g (leaf x)) a b s c = omega (arith, breaks_token g x)
    by l (ends g (node q d)) a b s c = on (dec_lt 0 (toks d))
      where
        on : Dec (0 < toks d) → breaks f ≡ k
        on (yes h) = absurd (omega (arith, standing-some g (nod q d ∅) (omega arith), standing-size d, size-append g (nod q d ∅)))
        on (no h) = absurd (omega (arith, standing-none g (nod q d ∅) (omega arith), standing-size g, size-append g (nod q d ∅)))

-- one break more: a piece without tokens goes with all its records, one with tokens with its root
pub record Broken (f : Row) (m k pos s : ℕ) : Type 0 where
  pub some : 0 < s
  pub within : s ≤ pos
  pub off : m + s ≤ pos → Breaking f m (k + 1) (pos - s)
  pub opened : pos < m + s → Breaking f m (k + 1) (pos - 1)

pub broken : {G : Table} {nodes : List (List ℕ)} {f : Row} {m k pos : ℕ} → Reads G nodes (flat f) → Breaking f m k pos → m < pos → Broken f m k pos (cell nodes (pos - 1) 2)
broken {G} {nodes} {f} {m} {k} {pos} R B h = by B.left (last B.left) B.is B.many B.stands B.some B.counted
  where
    by : (l : Row) → Last l → flat l ++ B.back ≡ flat f → pos ≡ size l → m ≡ standing l → 0 < toks l → breaks f ≡ k + breaks l → Broken f m k pos (cell nodes (pos - 1) 2)
    by ∅ empty i a b s c = absurd (omega arith)
    by l (ends g (leaf x)) i a b s c = absurd (omega (arith, standing-some g (tok x ∅) (omega arith), size-append g (tok x ∅)))
    by l (ends g (node q d)) i a b s c =
        let w = wnod q (suc (size d)) in
        let z : flat g ++ (flat d ++ (w ∷ B.back)) ≡ flat f =
        ap (flat g ++◌) (sym (append_assoc (flat d) (w ∷ []) B.back)) ∙ sym (append_assoc (flat g) (flat d ++ (w ∷ [])) B.back) ∙ ap (◌++ B.back) (sym (flat_append g (nod q d ∅))) ∙ i in
        let n = size-append g (nod q d ∅) in
        let e : get_elem? (flat f) (pos - 1) ≡ some w =
        ap (λ (u : List Word). get_elem? u (pos - 1)) (sym z) ∙ at_right (flat g) (flat d ++ (w ∷ B.back)) (pos - 1) (size d) (omega (arith, length-flat g))
        ∙ at_right (flat d) (w ∷ B.back) (size d) 0 (omega (arith, length-flat d)) in
        let v : cell nodes (pos - 1) 2 ≡ suc (size d) = (R.at (pos - 1) w e).size in
        let t = toks-append g (nod q d ∅) in
        rw v (record {
          some = omega arith;
          within = omega arith;
          off = λ u. off (dec_lt 0 (toks d)) u z;
          opened = λ u. opened (dec_lt 0 (toks d)) u z;
        })
      where
        off : Dec (0 < toks d) → m + suc (size d) ≤ pos → flat g ++ (flat d ++ (wnod q (suc (size d)) ∷ B.back)) ≡ flat f → Breaking f m (k + 1) (pos - suc (size d))
        off (yes y) u z = absurd (omega (arith, standing-some g (nod q d ∅) (omega arith), standing-toks d, size-append g (nod q d ∅)))
        off (no y) u z =
            record {
              left = g;
              back = flat d ++ (wnod q (suc (size d)) ∷ B.back);
              is = z;
              many = omega (arith, size-append g (nod q d ∅));
              stands = b ∙ standing-none g (nod q d ∅) (omega arith);
              some = omega (arith, toks-append g (nod q d ∅));
              counted = omega (arith, breaks_off g q d (omega arith));
            }

        opened : Dec (0 < toks d) → pos < m + suc (size d) → flat g ++ (flat d ++ (wnod q (suc (size d)) ∷ B.back)) ≡ flat f → Breaking f m (k + 1) (pos - 1)
        opened (yes y) u z =
            record {
              left = g ⧺ d;
              back = wnod q (suc (size d)) ∷ B.back;
              is = ap (◌++ (wnod q (suc (size d)) ∷ B.back)) (flat_append g d) ∙ append_assoc (flat g) (flat d) (wnod q (suc (size d)) ∷ B.back) ∙ z;
              many = omega (arith, size-append g (nod q d ∅), size-append g d);
              stands = b ∙ standing-some g (nod q d ∅) (omega arith) ∙ sym (standing-some g d y);
              some = omega (arith, toks-append g d);
              counted = omega (arith, breaks_open g q d y);
            }
        opened (no y) u z = absurd (omega (arith, standing-none g (nod q d ∅) (omega arith), standing-size g, size-append g (nod q d ∅)))
