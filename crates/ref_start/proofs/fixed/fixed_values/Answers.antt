use Rattle.std.proofs.Common.{arith, ◌≡◌, ◌<◌, ◌≤◌, ℕ, List, length, Option, Some, All, get_or, slice_get, sym, subst, ◌∙◌}
use Rattle.std.proofs.lemmas.Option.{slice_get-get_or, get_or_from_slice_get}
use Rattle.core_nodes.specs.kept_nodes.Marked.{marked}
use Rattle.unit_finish.specs.unit_parts.Marked.{AreMarked}
use Rattle.core_tree.specs.Seen.{core_of}
use Rattle.ref_cells.specs.declared.cells.Value.{Value}
use Rattle.ref_cells.specs.declared.instance.Instance.{Instance}
use Rattle.ref_start.specs.Fixed.{static_bodies, PartsGiven}
use Rattle.ref_start.proofs.BodySteps.{bodies_within, parts_given, bodies_given}
use Rattle.ref_start.proofs.fixed.fixed_values.Goals as goal

pub marks_under-requires-clause-tops : goal.marks_under-requires-clause-tops
marks_under-requires-clause-tops c =
    let u = core_of c.args.trees.now in
    subst (All (λ t. t < length u.nodes)) (sym (c.as_slice.ensures.value ∙ c.in_ok-bodies.ensures)) (bodies_within u c.requires.range)

pub value_by-requires-clause-table : goal.value_by-requires-clause-table
value_by-requires-clause-table c =
    let u = core_of c.args.trees.now in
    let memory = c.args.memory.now in
    let n = c.loop-n.n in
    let marks = c.in_ok-marks.marks.items in
    let table = c.loop-n.table.items in
    let are : AreMarked u.nodes (static_bodies u.entities) marks =
    subst (λ (bodies : List ℕ). AreMarked u.nodes bodies marks) (c.as_slice.ensures.value ∙ c.in_ok-bodies.ensures) c.in_ok-marks.ensures in
    let within : n < length marks = omega (arith, c.loop-n-test.true, c.len-n-end.ensures) in
    let r = c.index.result.now in
    let there : slice_get marks n ≡ Some (get_or marks n r) = slice_get-get_or marks n r within in
    let on : marked marks n = get_or_from_slice_get marks n (get_or marks n r) _ there ∙ (sym c.index.ensures ∙ c.if-index.true) in
    let same : n ≤ n = omega arith in
    let parts : PartsGiven u memory table n = parts_given u memory marks c.requires.range are table n n same on c.loop-n.invariant.table in
    subst (λ (m : List Instance). PartsGiven u m c.as_slice-then-index.result.now n) (sym c.loop-n.invariant.memory)
    (subst (λ (t : List (Option Value)). PartsGiven u memory t n) (sym c.as_slice-then-index.ensures.value) parts)

pub returns-clause-table : goal.returns-clause-table
returns-clause-table c =
    let u = core_of c.args.trees.now in
    let marks = c.in_ok-marks.marks.items in
    let are : AreMarked u.nodes (static_bodies u.entities) marks =
    subst (λ (bodies : List ℕ). AreMarked u.nodes bodies marks) (c.as_slice.ensures.value ∙ c.in_ok-bodies.ensures) c.in_ok-marks.ensures in
    let past : length u.nodes ≤ c.loop-n.n = omega (arith, c.loop-n-test.false, c.len-n-end.ensures, are.long) in
    bodies_given u c.args.memory.now marks c.requires.range are c.loop-n.table.items c.loop-n.n past c.loop-n.invariant.table
