-- `updating::read_words` meets its contract: in each turn the reading from there on comes to what the whole comes to. Assumes nothing.
use mathlib.Core.Path.{◌≡◌, refl, sym, ap, ◌∙◌, subst}
use Prim.Native.Nat.{ℕ, ◌+◌, ◌-◌, ◌≤◌}
use native.Mathlib.Omega.{arith}
use Rattle.std.specs.Prelude.{Result, Ok}
use Rattle.machine.specs.declared.Stuck.{Stuck}
use lib.ListN.{length}
use Rattle.definitions.specs.Table.{table_of}
use Rattle.definitions.specs.Tree.{Row, size}
use Rattle.definitions.specs.Reading.{shifted, zeros}
use Rattle.definitions.specs.Moves.{turn, Done}
use Rattle.list.specs.Pending.{pending_toks}
use Rattle.updating.specs.declared.Turn.{Turn}
use Rattle.updating.specs.declared.Turn.TheVariants.{Plain}
use Rattle.updating.specs.Turns.{Listed, Does, Above, list_stands, above_states, counting_of}
use Rattle.answers.specs.Values.{counts_of}
use Rattle.machine.specs.Back.{stuck_of}
use Rattle.updating.specs.Running.{few_nodes, Running, begins, small_then, falls, looks_still, goes, with_counts, ends, counts_few, above_on}
use borrow.Author.Rules.{rules}
use Rattle.updating.proofs.read_words.Goals as goal
use Rattle.updating.proofs.read_words.Goals.{After-begin, After-take_turn, After-tokens_left, At-loop-n}

-- the list at the start of the loop
start : (c : After-begin) (f : Row) → let a = c.args in Listed a.t.now a.old.now a.put.now a.room.now a.m f
    → Listed a.t.now a.old.now a.put.now c.begin.new.room a.m f
start c f L = list_stands c.begin.ensures.room_unchanged L

first : (c : At-loop-n) → let a = c.args in Listed a.t.now a.old.now a.put.now c.begin.new.room a.m c.requires.2.0
first c =
    let start' : (f : Row) → let a = c.args in Listed a.t.now a.old.now a.put.now a.room.now a.m f
    → Listed a.t.now a.old.now a.put.now c.begin.new.room a.m f = λ f L. list_stands c.begin.ensures.room_unchanged L in
    let x = c.requires.2 in start' x.0 x.1

abbrev witness : (c : At-loop-n) → let a = c.args in let l = c.loop-n in
    Running a.t.now a.old.now a.put.now c.begin.new.room l.room c.requires.2.0 l.n l.words l.next (counts_of l.counts)
witness c = c.loop-n.invariant c.requires.2.0 (first c)

-- the list has few nodes, so that no count wraps
few : (c : At-loop-n) → size c.requires.2.0 ≤ 4194304
few c = let p = c.requires in let L = p.2.1 in omega (arith, few_nodes p.1.0.1 L.pending, pending_toks L.pending, L.small)

long : (c : At-loop-n) → 16384 ≤ length c.loop-n.room
long c = omega (arith, c.told-room, c.begin.array_long, (witness c).above.long)

-- what the turn did, by the case that the code finds
did : {x o : Turn} (c : After-take_turn) (f : Row) → let a = c.args in let l = c.loop-n in
    (L : Listed a.t.now a.old.now a.put.now c.begin.new.room a.m f) → c.take_turn.result ≡ Ok x → x ≡ o
    → Does a.t.now a.old.now a.put.now c.take_turn.new.room l.n l.words (l.invariant f L).stack (l.invariant f L).rest (turn (table_of a.t.now) (2048 - l.n) (l.invariant f L).stack (l.invariant f L).rest) (Ok o)
did c f L e z =
    let a = c.args in
    let l = c.loop-n in
    let R = l.invariant f L in
    subst (λ (o : Result Turn Stuck). Does a.t.now a.old.now a.put.now c.take_turn.new.room l.n l.words R.stack R.rest (turn (table_of a.t.now) (2048 - l.n) R.stack R.rest) o) (e ∙ ap Ok z)
    (c.take_turn.ensures.does R.stack R.rest R.holds R.listed R.looks)

above_then : (c : After-take_turn) → Above c.args.room.now c.take_turn.new.room
above_then c =
    let first' : Listed c.args.t.now c.args.old.now c.args.put.now c.begin.new.room c.args.m c.requires.2.0 = list_stands c.begin.ensures.room_unchanged c.requires.2.1 in
    above_on (above_on (above_states c.begin.ensures.room_unchanged (c.begin.array_long ∙ sym c.told-room)) (c.loop-n.invariant c.requires.2.0 first').above) c.take_turn.ensures.above

length-then : (c : After-take_turn) → length c.take_turn.new.room ≡ length c.args.room.now
length-then c = (above_then c).long

long-then : (c : After-take_turn) → 16384 ≤ length c.take_turn.new.room
long-then c = omega (arith, length-then c, c.told-room)

-- the tokens shifted are those that are not left
shifted-then : (c : After-tokens_left) (f : Row) → let a = c.args in
    (L : Listed a.t.now a.old.now a.put.now c.begin.new.room a.m f)
    → shifted (c.loop-n.invariant f L).stack + c.tokens_left.result ≡ c.tokens_left-total.result
shifted-then c f L =
    let a = c.args in
    let R = c.loop-n.invariant f L in
    let d = c.in-Err.ensures.does R.stack R.rest R.holds R.listed R.looks in
    omega (arith, R.tokens, c.tokens_left.ensures a.t.now a.put.now R.rest (counting_of d.1), c.tokens_left-total.ensures a.t.now a.put.now f (counting_of L))

-- all tokens are few
total-few : (c : After-tokens_left) → c.tokens_left-total.result ≤ 2048
total-few c =
    let a = c.args in
    let L : Listed a.t.now a.old.now a.put.now c.begin.new.room a.m c.requires.2.0 = list_stands c.begin.ensures.room_unchanged c.requires.2.1 in
    omega (arith, c.tokens_left-total.ensures a.t.now a.put.now _ (counting_of L), L.small)

pub tokens_left-total-requires : goal.tokens_left-total-requires
tokens_left-total-requires c =
    let p = c.requires in
    (p.1, (c.args.t.now, c.args.put.now, p.2.0, counting_of (start (goal.at.tokens_left-total-requires c).After-begin p.2.0 p.2.1)))

pub peek-next-requires : goal.peek-next-requires
peek-next-requires c =
    let p = c.requires in
    let L = start (goal.at.peek-next-requires c).After-begin p.2.0 p.2.1 in
    (omega (arith, c.begin.array_long), omega (arith, pending_toks L.pending, L.small), p.1, (c.args.t.now, p.2.0, L.few, L.pending))

pub loop-n-init : goal.loop-n-init
loop-n-init c f L =
    let z : counts_of c.default-counts.result ≡ zeros = search rules in
    rw z (begins (record { rest = refl; long = refl }) c.begin.ensures.holds L (c.peek-next.ensures c.args.t.now f L.few L.pending))

pub take_turn-requires : goal.take_turn-requires
take_turn-requires c =
    let p = c.requires in
    let R = c.loop-n.invariant _ (first (goal.at.take_turn-requires c).At-loop-n) in
    (p.0, R.small, p.1, (R.stack, R.rest, R.holds, R.listed))

pub overflow_add-n : goal.overflow_add-n
overflow_add-n c =
    let R = witness (goal.at.overflow_add-n c).At-loop-n in
    let d = did (goal.at.overflow_add-n c).After-take_turn _ (first (goal.at.overflow_add-n c).At-loop-n) c.in-Ok-Plain-Shifted.is (c.in-Ok-Plain-Shifted.field-0-is ∙ ap Plain c.in-Ok-Plain-Shifted.field-0-0-is) in
    let h = small_then R d.0 in
    search rules

pub overflow_sub-words : goal.overflow_sub-words
overflow_sub-words c =
    let R = witness (goal.at.overflow_sub-words c).At-loop-n in
    let d = did (goal.at.overflow_sub-words c).After-take_turn _ (first (goal.at.overflow_sub-words c).At-loop-n) c.in-Ok-Plain-Shifted.is (c.in-Ok-Plain-Shifted.field-0-is ∙ ap Plain c.in-Ok-Plain-Shifted.field-0-0-is) in
    let h = d.1 in
    search rules

pub overflow_add-counts : goal.overflow_add-counts
overflow_add-counts c =
    let b = few (goal.at.overflow_add-counts c).At-loop-n in
    let k = (counts_few (witness (goal.at.overflow_add-counts c).At-loop-n)).3 in
    search rules

pub peek-next-requires-in-Ok-Plain-Shifted : goal.peek-next-requires-in-Ok-Plain-Shifted
peek-next-requires-in-Ok-Plain-Shifted c =
    let p = c.requires in
    let R = witness (goal.at.peek-next-requires-in-Ok-Plain-Shifted c).At-loop-n in
    let g = (did (goal.at.peek-next-requires-in-Ok-Plain-Shifted c).After-take_turn _ (first (goal.at.peek-next-requires-in-Ok-Plain-Shifted c).At-loop-n) c.in-Ok-Plain-Shifted.is (c.in-Ok-Plain-Shifted.field-0-is ∙ ap Plain c.in-Ok-Plain-Shifted.field-0-0-is)).0 in
    (long-then (goal.at.peek-next-requires-in-Ok-Plain-Shifted c).After-take_turn, omega (arith, pending_toks g.listed.pending, g.listed.small), p.1, (c.args.t.now, g.rest, g.listed.few, g.listed.pending))

pub loop-n-smaller-in-Ok-Plain-Shifted : goal.loop-n-smaller-in-Ok-Plain-Shifted
loop-n-smaller-in-Ok-Plain-Shifted c =
    let R = witness (goal.at.loop-n-smaller-in-Ok-Plain-Shifted c).At-loop-n in
    falls R (did (goal.at.loop-n-smaller-in-Ok-Plain-Shifted c).After-take_turn _ (first (goal.at.loop-n-smaller-in-Ok-Plain-Shifted c).At-loop-n) c.in-Ok-Plain-Shifted.is (c.in-Ok-Plain-Shifted.field-0-is ∙ ap Plain c.in-Ok-Plain-Shifted.field-0-0-is)).0

pub loop-n-preserved-in-Ok-Plain-Shifted : goal.loop-n-preserved-in-Ok-Plain-Shifted
loop-n-preserved-in-Ok-Plain-Shifted c f L =
    let R = c.loop-n.invariant f L in
    let g = (did (goal.at.loop-n-preserved-in-Ok-Plain-Shifted c).After-take_turn f L c.in-Ok-Plain-Shifted.is (c.in-Ok-Plain-Shifted.field-0-is ∙ ap Plain c.in-Ok-Plain-Shifted.field-0-0-is)).0 in
    with_counts _ (goes R g c.take_turn.ensures.above (c.peek-next-in-Ok-Plain-Shifted.ensures c.args.t.now g.rest g.listed.few g.listed.pending)) (omega arith) (omega arith) (omega arith) (omega arith) (omega arith)

pub overflow_add-n-in-Ok-Plain-Reduced : goal.overflow_add-n-in-Ok-Plain-Reduced
overflow_add-n-in-Ok-Plain-Reduced c =
    let R = witness (goal.at.overflow_add-n-in-Ok-Plain-Reduced c).At-loop-n in
    let d = did (goal.at.overflow_add-n-in-Ok-Plain-Reduced c).After-take_turn _ (first (goal.at.overflow_add-n-in-Ok-Plain-Reduced c).At-loop-n) c.in-Ok-Plain-Reduced.is (c.in-Ok-Plain-Reduced.field-0-is ∙ ap Plain c.in-Ok-Plain-Reduced.field-0-0-is) in
    let h = small_then R d in
    search rules

pub overflow_add-counts-in-Ok-Plain-Reduced : goal.overflow_add-counts-in-Ok-Plain-Reduced
overflow_add-counts-in-Ok-Plain-Reduced c =
    let b = few (goal.at.overflow_add-counts-in-Ok-Plain-Reduced c).At-loop-n in
    let k = (counts_few (witness (goal.at.overflow_add-counts-in-Ok-Plain-Reduced c).At-loop-n)).4 in
    search rules

pub loop-n-smaller-in-Ok-Plain-Reduced : goal.loop-n-smaller-in-Ok-Plain-Reduced
loop-n-smaller-in-Ok-Plain-Reduced c =
    let R = witness (goal.at.loop-n-smaller-in-Ok-Plain-Reduced c).At-loop-n in
    falls R (did (goal.at.loop-n-smaller-in-Ok-Plain-Reduced c).After-take_turn _ (first (goal.at.loop-n-smaller-in-Ok-Plain-Reduced c).At-loop-n) c.in-Ok-Plain-Reduced.is (c.in-Ok-Plain-Reduced.field-0-is ∙ ap Plain c.in-Ok-Plain-Reduced.field-0-0-is))

pub loop-n-preserved-in-Ok-Plain-Reduced : goal.loop-n-preserved-in-Ok-Plain-Reduced
loop-n-preserved-in-Ok-Plain-Reduced c f L =
    let R = c.loop-n.invariant f L in
    let g = did (goal.at.loop-n-preserved-in-Ok-Plain-Reduced c).After-take_turn f L c.in-Ok-Plain-Reduced.is (c.in-Ok-Plain-Reduced.field-0-is ∙ ap Plain c.in-Ok-Plain-Reduced.field-0-0-is) in
    with_counts _ (goes R g c.take_turn.ensures.above (looks_still R g tt)) (omega arith) (omega arith) (omega arith) (omega arith) (omega arith)

pub overflow_sub-words-in-Ok-Whole : goal.overflow_sub-words-in-Ok-Whole
overflow_sub-words-in-Ok-Whole c =
    let R = witness (goal.at.overflow_sub-words-in-Ok-Whole c).At-loop-n in
    let d = did (goal.at.overflow_sub-words-in-Ok-Whole c).After-take_turn _ (first (goal.at.overflow_sub-words-in-Ok-Whole c).At-loop-n) c.in-Ok-Whole.is c.in-Ok-Whole.field-0-is in
    let h = d.1 in
    search rules

pub overflow_add-counts-in-Ok-Whole : goal.overflow_add-counts-in-Ok-Whole
overflow_add-counts-in-Ok-Whole c =
    let b = few (goal.at.overflow_add-counts-in-Ok-Whole c).At-loop-n in
    let k = (counts_few (witness (goal.at.overflow_add-counts-in-Ok-Whole c).At-loop-n)).2 in
    search rules

pub overflow_add-counts-in-Ok-Whole-2 : goal.overflow_add-counts-in-Ok-Whole-2
overflow_add-counts-in-Ok-Whole-2 c =
    let R = witness (goal.at.overflow_add-counts-in-Ok-Whole-2 c).At-loop-n in
    let w = (did (goal.at.overflow_add-counts-in-Ok-Whole-2 c).After-take_turn _ (first (goal.at.overflow_add-counts-in-Ok-Whole-2 c).At-loop-n) c.in-Ok-Whole.is c.in-Ok-Whole.field-0-is).0 in
    let b = few (goal.at.overflow_add-counts-in-Ok-Whole-2 c).At-loop-n in
    let k = (goes R w.goes c.take_turn.ensures.above refl).breaks in
    let e = w.broken in
    search rules

pub peek-next-requires-in-Ok-Whole : goal.peek-next-requires-in-Ok-Whole
peek-next-requires-in-Ok-Whole c =
    let p = c.requires in
    let R = witness (goal.at.peek-next-requires-in-Ok-Whole c).At-loop-n in
    let g = (did (goal.at.peek-next-requires-in-Ok-Whole c).After-take_turn _ (first (goal.at.peek-next-requires-in-Ok-Whole c).At-loop-n) c.in-Ok-Whole.is c.in-Ok-Whole.field-0-is).0.goes in
    (long-then (goal.at.peek-next-requires-in-Ok-Whole c).After-take_turn, omega (arith, pending_toks g.listed.pending, g.listed.small), p.1, (c.args.t.now, g.rest, g.listed.few, g.listed.pending))

pub loop-n-smaller-in-Ok-Whole : goal.loop-n-smaller-in-Ok-Whole
loop-n-smaller-in-Ok-Whole c =
    let R = witness (goal.at.loop-n-smaller-in-Ok-Whole c).At-loop-n in
    falls R (did (goal.at.loop-n-smaller-in-Ok-Whole c).After-take_turn _ (first (goal.at.loop-n-smaller-in-Ok-Whole c).At-loop-n) c.in-Ok-Whole.is c.in-Ok-Whole.field-0-is).0.goes

pub loop-n-preserved-in-Ok-Whole : goal.loop-n-preserved-in-Ok-Whole
loop-n-preserved-in-Ok-Whole c f L =
    let R = c.loop-n.invariant f L in
    let w = (did (goal.at.loop-n-preserved-in-Ok-Whole c).After-take_turn f L c.in-Ok-Whole.is c.in-Ok-Whole.field-0-is).0 in
    let g = w.goes in
    with_counts _ (goes R g c.take_turn.ensures.above (c.peek-next-in-Ok-Whole.ensures c.args.t.now g.rest g.listed.few g.listed.pending)) (omega arith) (omega (arith, w.broken)) (omega arith) (omega arith) (omega arith)

pub overflow_add-counts-in-Ok-Left : goal.overflow_add-counts-in-Ok-Left
overflow_add-counts-in-Ok-Left c =
    let b = few (goal.at.overflow_add-counts-in-Ok-Left c).At-loop-n in
    let k = (counts_few (witness (goal.at.overflow_add-counts-in-Ok-Left c).At-loop-n)).0 in
    search rules

pub loop-n-smaller : goal.loop-n-smaller
loop-n-smaller c =
    let R = witness (goal.at.loop-n-smaller c).At-loop-n in
    falls R (did (goal.at.loop-n-smaller c).After-take_turn _ (first (goal.at.loop-n-smaller c).At-loop-n) c.in-Ok-Left.is c.in-Ok-Left.field-0-is)

pub loop-n-preserved : goal.loop-n-preserved
loop-n-preserved c f L =
    let R = c.loop-n.invariant f L in
    let g = did (goal.at.loop-n-preserved c).After-take_turn f L c.in-Ok-Left.is c.in-Ok-Left.field-0-is in
    with_counts _ (goes R g c.take_turn.ensures.above (looks_still R g tt)) (omega arith) (omega arith) (omega arith) (omega arith) (omega arith)

pub returns-in-Ok-Plain-Taken : goal.returns-in-Ok-Plain-Taken
returns-in-Ok-Plain-Taken c = record {
  ends = λ f L.
      let M = start (goal.at.returns-in-Ok-Plain-Taken c).After-begin f L in
      let R = c.loop-n.invariant f M in
      let d = did (goal.at.returns-in-Ok-Plain-Taken c).After-take_turn f M c.in-Ok-Plain-Taken.is (c.in-Ok-Plain-Taken.field-0-is ∙ ap Plain c.in-Ok-Plain-Taken.field-0-0-is) in
      let e = ends R d.0 in
      record { stack = R.stack; is = ap (λ (x : Done). x.end) e; counts = ap (λ (x : Done). x.counts) e; small = R.small; holds = d.1 };
  above = above_then (goal.at.returns-in-Ok-Plain-Taken c).After-take_turn;
}

pub tokens_left-requires : goal.tokens_left-requires
tokens_left-requires c =
    let R = witness (goal.at.tokens_left-requires c).At-loop-n in
    let d = c.in-Err.ensures.does R.stack R.rest R.holds R.listed R.looks in
    (c.requires.1, (c.args.t.now, c.args.put.now, R.rest, counting_of d.1))

pub overflow_sub-shifted : goal.overflow_sub-shifted
overflow_sub-shifted c = let h = shifted-then c _ (first (goal.at.overflow_sub-shifted c).At-loop-n) in omega arith

pub overflow_cast-shifted : goal.overflow_cast-shifted
overflow_cast-shifted c = let h = total-few c in omega arith

pub returns-in-Err : goal.returns-in-Err
returns-in-Err c = record {
  ends = λ f L.
      let M = start (goal.at.returns-in-Err c).After-begin f L in
      let R = c.loop-n.invariant f M in
      let d = c.in-Err.ensures.does R.stack R.rest R.holds R.listed R.looks in
      let h = shifted-then (goal.at.returns-in-Err c).After-tokens_left f M in
      let i : shifted R.stack ≡ c.tokens_left-total.result - c.tokens_left.result = omega arith in
      let few = total-few (goal.at.returns-in-Err c).After-tokens_left in (
        ap (λ (x : Done). x.end) (ends R d.0) ∙ ap (λ (n : ℕ). stuck_of n c.in-Err.stuck) i ∙ sym c.refusal.ensures,
        (c.in-Err.stuck, c.tokens_left-total.result - c.tokens_left.result, omega arith, c.refusal.ensures),
      );
  above = above_then (goal.at.returns-in-Err c).After-take_turn;
}
