-- The laws of the edits passed one by one, at the update that the caller has at hand.
use Rattle.std.proofs.Common.{◌≡◌, refl, ◌*◌, ◌∙◌, ◌++◌, length, take, drop, arith}
use Rattle.std.proofs.lemmas.Option.{MatchOption-at_some}
use Rattle.list.specs.Lent.{first_long, pending_whole, counted_whole, first_back, rest_back}
use Rattle.edits.specs.Begin.{case-holds}
use Rattle.edits.specs.Fits.{Record}
use Rattle.edits.specs.Words.{edit, words_of}
use Rattle.edits.specs.Passing.{case, item, mark_asks, mark_next, list_asks, Lists, Leaves, list_lists, list_leaves, list_long}
use Rattle.edits.proofs.make_list_of.Goals as goal
use Rattle.edits.proofs.make_list_of.Given.{Over}
use Rattle.edits.proofs.make_list_of.Goals.{After-unwrap-room, After-into, After-list_marked}

-- the edit at hand
here : (g : Over) (c : After-into g) → Record (words_of g.E.AsEdit.stands_for c.args.edits.now) (c.loop-e.e-index * 3) (edit c.into.result)
here g c =
    item g.E.AsEdit.stands_for c.args.edits.now c.loop-e.e-index c.e-item.result c.e-item.is c.loop-e-test.true
    (g.met.E.AsEdit.converted c.e-item.result c.into.result c.into.ensures)

pub begin_marks-m-requires : goal.begin_marks-m-requires
begin_marks-m-requires g c = case-holds (case g.E.AsEdit.stands_for c.args.edits.now c.args.old.now c.args.put.now c.requires.by_index)

pub mark_edit-m-requires : goal.mark_edit-m-requires
mark_edit-m-requires g c =
    let i = c.loop-e.invariant in
    mark_asks g.E.AsEdit.stands_for c.args.edits.now c.args.old.now c.args.put.now c.loop-e.e-index i.1 c.requires.by_index (here g c)

pub loop-e-preserved : goal.loop-e-preserved
loop-e-preserved g c = (
  omega (arith, c.loop-e-test.true),
  mark_next g.E.AsEdit.stands_for c.args.edits.now c.args.old.now c.args.put.now c.loop-e.e-index c.loop-e.invariant.1 (here g (goal.at.loop-e-preserved g c).After-into) c.mark_edit-m.ensures,
)

pub list_marked-requires : goal.list_marked-requires
list_marked-requires g c =
    let i = c.loop-e.invariant in
    list_asks g.E.AsEdit.stands_for c.args.edits.now c.args.old.now c.args.put.now c.loop-e.e-index i.1 i.0 c.loop-e-test.false c.requires.by_index

-- the words that are lent on
first : (g : Over) (c : After-unwrap-room g) → c.unwrap-room.result.now ≡ take 16384 c.args.room.now
first g c = (MatchOption-at_some _ _ _ c.unwrap-room.ensures c.first_chunk_mut.ensures.cases).same

pub loop-e-init : goal.loop-e-init
loop-e-init g c = (
  omega arith,
  λ C is. rw (← first g (goal.at.loop-e-init g c).After-unwrap-room) (c.begin_marks-m.ensures C),
)

-- the list in the words that are handed back
back : (g : Over) (c : After-list_marked g) → let a = c.args in let b = take 16384 a.room.now in
    Lists g.E.AsEdit.stands_for a.edits.now a.old.now a.put.now c.list_marked.new.room c.list_marked.result
    × Leaves g.E.AsEdit.stands_for a.edits.now a.old.now a.put.now b c.list_marked.new.room c.list_marked.result × (length c.list_marked.new.room ≡ 16384)
back g c =
    let a = c.args in
    let f = g.E.AsEdit.stands_for in
    let i = c.loop-e.invariant in
    let e = c.list_marked.ensures in (
      list_lists f a.edits.now a.old.now a.put.now c.loop-e.e-index i.1 i.0 c.loop-e-test.false e,
      list_leaves f a.edits.now a.old.now a.put.now c.loop-e.e-index i.1 i.0 c.loop-e-test.false c.requires.by_index e,
      list_long f a.edits.now a.old.now a.put.now c.loop-e.e-index i.1 i.0 c.loop-e-test.false c.requires.by_index e ∙ first_long a.room.now refl c.requires.in_bounds,
    )

pub returns-clause-by_index_2 : goal.returns-clause-by_index_2
returns-clause-by_index_2 g c t tree es few s o =
    let b = back g (goal.at.returns-clause-by_index_2 g c).After-list_marked in
    pending_whole (c.list_marked.new.room ++ drop 16384 c.args.room.now) (first_back _ c.args.room.now b.2) b.1.0 (b.0 t tree es few s o)

pub returns-clause-upper_bound : goal.returns-clause-upper_bound
returns-clause-upper_bound g c =
    let b = back g (goal.at.returns-clause-upper_bound g c).After-list_marked in
    let C = case g.E.AsEdit.stands_for c.args.edits.now c.args.old.now c.args.put.now c.requires.by_index in
    (b.1.0, counted_whole _ (first_back _ c.args.room.now b.2) c.args.old.now (case-holds C).0.1 b.1.1, rest_back _ c.args.room.now b.2)
