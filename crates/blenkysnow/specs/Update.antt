-- What an update tells where it is refused before the list is read, and where it goes on.
use Rattle.std.specs.Prelude.{◌≡◌, List, ◌++◌, ℕ, ◌+◌, ◌*◌, ◌≤◌, ◌<◌, length, get_or, drop}
use Rattle.std.proofs.Math.Path.{refl, subst}
use Rattle.std.proofs.Common.{sym, ap, ◌∙◌, arith}
use Rattle.std.proofs.Math.Decide.{dec_le}
use Rattle.definitions.specs.Sheet.{T}
use Rattle.definitions.specs.States.{Accepted}
use Rattle.definitions.specs.Tree.{Row, size, yield, NRow, erase, written, InOrder}
use Rattle.definitions.specs.Reading.{End, taken, refused}
use Rattle.definitions.specs.Moves.{Done}
use Rattle.definitions.specs.Edits.{Edit, EditsInOrder}
use Rattle.definitions.specs.Answers.{Told, refusal, accepted, if, cleared, refuse, accept, tree_of, ending, finished}
use Rattle.theory.specs.Machine.Rows.{toks-length}
use Rattle.theory.specs.Check.Judge.{judged}
use Rattle.theory.specs.Tree.InOrderD.{tree_in, one-tree}
use Rattle.theory.specs.Edits.EditsD.{edits_in}
use Rattle.theory.specs.Answers.{read_list, update_in, update, enough, taken_on}
use Rattle.theory.specs.Demands.Update as Demand
use Rattle.theory.specs.Demands.Calls.{Checks, takes, two, three, four, Enough, UpdatedAll, update_answers}
use Rattle.tree.specs.Rows.{holds_stands}
use Rattle.tree.specs.Tokens.{tokens}
use Rattle.list.specs.Pieces.{all_old, tokens_forest}
use Rattle.updating.specs.Finish.{Judged, numbers, done}
use Rattle.blenkysnow.specs.Afresh.{small, short, given_no, told-2, told-3, told-4}

-- the old tree's tokens are those of its records
pub old_tokens : (t old : List ℕ) (r : NRow) → T t ≤ 256 → InOrder t old r → tokens old (get_or old 0 0) ≡ length (yield (erase r))
old_tokens t old r few O = tokens_forest (get_or old 0 0) r few (all_old O) (ends O) ∙ omega (arith, toks-length (erase r))
  where
    ends : InOrder t old r → 0 + size (erase r) ≡ get_or old 0 0
    ends O = omega (arith, (holds_stands old r O.holds).0.0)

module _ (t old edits codes tree room : List ℕ) where
  pub too_short' : (Enough tree room → ⊥) → update t old edits codes tree room ≡ small tree room
  unfolding update
  too_short' n = short tree room _ n

  abbrev on : Accepted t → Told
  on a = read_list t old edits codes tree room (tree_in t old a.layout) (λ r. edits_in t (yield (erase r)) edits codes)

  pub refused_by' : 6146 ≤ length tree → 16384 ≤ length room → (n : ℕ) → 0 < n → Checks t n → update t old edits codes tree room ≡ refuse tree room n 0
  unfolding update update_in
  refused_by' h k n p (takes a) = absurd (omega arith)
  refused_by' h k n p (two l) = enough tree room _ h k ∙ told-2 t (judged t) tree room on l
  refused_by' h k n p (three l g) = enough tree room _ h k ∙ told-3 t (judged t) tree room on l g
  refused_by' h k n p (four l g s) = enough tree room _ h k ∙ told-4 t (judged t) tree room on l g s

  module _ (h : 6146 ≤ length tree) (k : 16384 ≤ length room) (A : Accepted t) where
    -- 5
    pub no_tree : ((r : NRow) × InOrder t old r → ⊥) → update t old edits codes tree room ≡ refuse tree room 5 0
    unfolding update update_in
    no_tree n = enough tree room _ h k ∙ taken_on t (judged t) A tree room _ _ (λ a. by (tree_in t old a.layout))
      where
        by : (d : Dec ((x : NRow) × InOrder t old x)) → read_list t old edits codes tree room d (λ x. edits_in t (yield (erase x)) edits codes) ≡ refuse tree room 5 0
        by (yes x) = absurd (n x)
        by (no m) = refl

    -- 6
    pub no_edits : (r : NRow) → InOrder t old r → ((es : List Edit) × EditsInOrder t (yield (erase r)) edits codes es → ⊥) → update t old edits codes tree room ≡ refuse tree room 6 0
    unfolding update update_in
    no_edits r O n = enough tree room _ h k ∙ taken_on t (judged t) A tree room _ _ (λ a. by a (tree_in t old a.layout))
      where
        by : (a : Accepted t) (d : Dec ((x : NRow) × InOrder t old x)) → read_list t old edits codes tree room d (λ x. edits_in t (yield (erase x)) edits codes) ≡ refuse tree room 6 0
        by a (yes x) =
            let e = one-tree t old a.layout x.0 r x.1 O in
            given_no (edits_in t (yield (erase x.0)) edits codes) _ _ (λ g. n (g.0, subst (λ (y : NRow). EditsInOrder t (yield (erase y)) edits codes g.0) e g.1))
        by a (no m) = absurd (m (r, O))

    -- the list is read
    pub reads_on : (r : NRow) (es : List Edit) (J : Judged t old edits codes r es) → update t old edits codes tree room ≡ finished tree room (numbers J) (done J)
    reads_on r es J = Demand.told t A old edits codes r J.tree es J.changes tree room h k

  -- what equals the call is told as demand 3 has it
  pub tells' : {x : Told} → x ≡ update t old edits codes tree room → (x ≡ update t old edits codes tree room) × UpdatedAll t old edits codes tree room x
  tells' e = (e, subst (UpdatedAll t old edits codes tree room) (sym e) (update_answers t old edits codes tree room))

-- ---- of the room only what is past its first words shows
pub room_alone : (tree a b : List ℕ) (n : Row → NRow × ℕ) (d : Done) → cleared a ≡ cleared b → finished tree a n d ≡ finished tree b n d
room_alone tree a b n d e = by d.end
  where
    by : (x : End) → ending tree a n d.counts x ≡ ending tree b n d.counts x
    by (taken σ) = at (n (tree_of σ)) (dec_le (n (tree_of σ)).1 4294967295)
      where
        at : (x : NRow × ℕ) (y : Dec (x.1 ≤ 4294967295)) → if y (accept tree a x.0 x.1 d.counts) (refuse tree a 9 0) ≡ if y (accept tree b x.0 x.1 d.counts) (refuse tree b 9 0)
        at x (yes h) = ap (λ (c : List ℕ). record { answer = accepted d.counts; tree = written x.0 x.1 ++ drop (2 + 3 * size (erase x.0)) tree; room = c }) e
        at x (no h) = ap (λ (c : List ℕ). record { answer = refusal 9 0; tree = tree; room = c }) e
    by (refused m i) = ap (λ (c : List ℕ). record { answer = refusal m i; tree = tree; room = c }) e
