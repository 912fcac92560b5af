-- The parts that are tested are the fields of `Layout`, and what a test passed is known after it.
use Rattle.std.proofs.Common.{◌≤◌, length}
use Rattle.definitions.specs.Sheet.{items_at, Head}
use Rattle.theory.specs.Check.Says.{Says, says_as}
use Rattle.sheet.specs.Within.{items_within}
use Rattle.layout.specs.Parts.{Productions, Actions, Gotos}
use Rattle.layout.proofs.Laws.{joined, stopped, part_refused}
use Rattle.layout.proofs.laid_out.Goals as goal
use Rattle.layout.proofs.laid_out.Goals.{then-head_fits, else-head_fits, then-head_right, else-head_right, then-productions_right, else-productions_right, then-actions_right, else-actions_right}

pub returns-then-gotos_right : goal.returns-then-gotos_right
returns-then-gotos_right c =
    let t = c.args.t.now in
    let head : Says c.if-head_fits.value ((items_at t ≤ length t) × Head t) = elim c.if-head_fits.branch [
      | then-head_fits w ↦ joined c.head_fits.ensures w.if-head_fits.true w.value-is w.head_right.ensures
      | else-head_fits w ↦ stopped c.head_fits.ensures w.if-head_fits.false w.value-is
    ] in
    let productions : Says c.if-head_right.value (((items_at t ≤ length t) × Head t) × Productions t) = elim c.if-head_right.branch [
      | then-head_right w ↦ joined head w.if-head_right.true w.value-is w.productions_right.ensures
      | else-head_right w ↦ stopped head w.if-head_right.false w.value-is
    ] in
    let actions : Says c.if-productions_right.value ((((items_at t ≤ length t) × Head t) × Productions t) × Actions t) = elim c.if-productions_right.branch [
      | then-productions_right w ↦ joined productions w.if-productions_right.true w.value-is w.actions_right.ensures
      | else-productions_right w ↦ stopped productions w.if-productions_right.false w.value-is
    ] in
    let gotos : Says c.if-actions_right.value (((((items_at t ≤ length t) × Head t) × Productions t) × Actions t) × Gotos t) = elim c.if-actions_right.branch [
      | then-actions_right w ↦ joined actions w.if-actions_right.true w.value-is w.gotos_right.ensures
      | else-actions_right w ↦ stopped actions w.if-actions_right.false w.value-is
    ] in
    let h = gotos.to c.if-gotos_right.true in
    says_as c.states_right.ensures
    (λ s. record {
      head = h.0.0.0.1;
      productions = h.0.0.1;
      actions = h.0.1;
      gotos = h.1;
      states = s.states;
      few = s.few;
      exact = s.exact;
    })
    (λ l. record { states = l.states; few = l.few; exact = l.exact })

pub returns-else-gotos_right : goal.returns-else-gotos_right
returns-else-gotos_right c =
    let t = c.args.t.now in
    let head : Says c.if-head_fits.value ((items_at t ≤ length t) × Head t) = elim c.if-head_fits.branch [
      | then-head_fits w ↦ joined c.head_fits.ensures w.if-head_fits.true w.value-is w.head_right.ensures
      | else-head_fits w ↦ stopped c.head_fits.ensures w.if-head_fits.false w.value-is
    ] in
    let productions : Says c.if-head_right.value (((items_at t ≤ length t) × Head t) × Productions t) = elim c.if-head_right.branch [
      | then-head_right w ↦ joined head w.if-head_right.true w.value-is w.productions_right.ensures
      | else-head_right w ↦ stopped head w.if-head_right.false w.value-is
    ] in
    let actions : Says c.if-productions_right.value ((((items_at t ≤ length t) × Head t) × Productions t) × Actions t) = elim c.if-productions_right.branch [
      | then-productions_right w ↦ joined productions w.if-productions_right.true w.value-is w.actions_right.ensures
      | else-productions_right w ↦ stopped productions w.if-productions_right.false w.value-is
    ] in
    let gotos : Says c.if-actions_right.value (((((items_at t ≤ length t) × Head t) × Productions t) × Actions t) × Gotos t) = elim c.if-actions_right.branch [
      | then-actions_right w ↦ joined actions w.if-actions_right.true w.value-is w.gotos_right.ensures
      | else-actions_right w ↦ stopped actions w.if-actions_right.false w.value-is
    ] in
    part_refused gotos c.if-gotos_right.false (λ l. ((((items_within t l, l.head), l.productions), l.actions), l.gotos))
