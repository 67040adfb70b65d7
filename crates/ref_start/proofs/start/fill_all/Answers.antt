use Rattle.std.proofs.Common.{◌≡◌, ◌+◌, List, length, Option, Some, drop, slice_get, refl, ap, sym, subst, ◌∙◌}
use Rattle.std.proofs.lemmas.Option.{slice_get_read}
use Rattle.core_tree.specs.declared.node.Entity.{Entity}
use Rattle.core_tree.specs.Seen.{core_of}
use Rattle.ref_cells.specs.declared.cells.Value.{Value}
use Rattle.ref_cells.specs.Places.{AreKnown}
use Rattle.ref_places.specs.Places.{first_instance}
use Rattle.ref_start.specs.Fixed.{PartsGiven, static_body}
use Rattle.ref_start.specs.Start.{filled_if, all_filled, filled_over}
use Rattle.ref_start.proofs.FilledSteps.{filled_next, if_known, if_first}
use Rattle.ref_start.proofs.start.fill_all.Goals as goal
use Rattle.ref_start.proofs.start.fill_all.Goals.{in-Some+in_ok-fill_by-in-Some, in-None}

pub loop-entity-preserved : goal.loop-entity-preserved
loop-entity-preserved c =
    let u = core_of c.args.trees.now in
    let objects = c.args.memory.now in
    let old = c.loop-entity.memory in
    let new = c.match-static_body.memory in
    let i = c.loop-entity.entity-index in
    let entity : Entity = c.entity-item.result in
    let at : slice_get u.entities i ≡ Some entity =
    slice_get_read u.entities (length u.entities) i entity refl c.loop-entity-test.true c.entity-item.is in
    let body : c.static_body.result ≡ static_body entity = c.static_body.ensures in
    let made : new ≡ filled_if u objects old (static_body entity) =
    elim c.match-static_body.branch [
      | in-Some+in_ok-fill_by-in-Some w ↦
          let is : static_body entity ≡ Some w.in-Some.body = sym body ∙ w.in-Some.is in
          let given : PartsGiven u objects w.as_slice.result.now w.in-Some.body =
          subst (λ (t : List (Option Value)). PartsGiven u objects t w.in-Some.body) (sym w.as_slice.ensures.value)
          (c.in_ok-table.ensures.table i entity w.in-Some.body at is) in
          w.memory-is ∙ (w.in_ok-fill_by-in-Some.ensures objects given ∙ ap (filled_if u objects old) (sym is))
      | in-None w ↦ w.memory-is ∙ ap (filled_if u objects old) (sym w.in-None.is ∙ body)
    ] in
    record {
      known = subst (AreKnown (length u.types.terms)) (sym made)
          (if_known u objects (length u.types.terms) old (static_body entity) c.loop-entity.invariant.known);
      first = λ key.
          c.loop-entity.invariant.first key
          ∙ (sym (if_first u objects key old (static_body entity)) ∙ ap (first_instance key 0) (sym made));
      same =
          ap (all_filled u objects (drop (i + 1) u.entities)) made
          ∙ filled_next u objects u.entities i entity old (filled_over u objects) at c.loop-entity.invariant.same;
    }
