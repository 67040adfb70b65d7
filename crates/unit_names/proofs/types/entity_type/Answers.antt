use Rattle.std.proofs.Common.{◌≡◌, true, false, sym, ap, ◌∙◌}
use Rattle.c_senses.specs.Sense.{sense_in}
use Rattle.c_results.specs.Standing.{senses_made}
use Rattle.tree_reads.specs.Sources.{source_in}
use Rattle.std.proofs.lemmas.Result.{IfOk-weaker}
use Rattle.unit_names.specs.Choosing as choice
use Rattle.unit_names.proofs.Places.{place_internal}
use Rattle.unit_names.proofs.Typed.{typed_internal, typed_own}
use Rattle.unit_names.proofs.types.entity_type.Goals as goal

pub returns-then-not-internal-clause-made : goal.returns-then-not-internal-clause-made
returns-then-not-internal-clause-made c =
    let u = c.args.unit.now in
    let senses = senses_made u c.args.results.now in
    let e : c.args.internal ≡ false = cc in
    IfOk-weaker c.own_type.result _ _ (λ t h uses. h ∙ typed_own (source_in c.args.syntax.now uses) senses c.args.leaf (sym (c.requires.internal u uses) ∙ e)) c.own_type.ensures.made

pub returns-clause-made : goal.returns-clause-made
returns-clause-made c =
    let u = c.args.unit.now in
    let senses = senses_made u c.args.results.now in
    let e : c.args.internal ≡ true = cc in
    IfOk-weaker c.internal_type.result _ _
    (λ t h uses.
    let s = source_in c.args.syntax.now uses in
    let internal = sym (c.requires.internal u uses) ∙ e in
    let those = c.in_ok-list.ensures.leaves u uses in
    let place = c.chosen-at.ensures.chosen u uses ∙ (ap (choice.chosen s (sense_in senses) c.args.leaf) (c.as_slice.ensures.value ∙ those) ∙ place_internal s senses c.args.leaf internal) in
    h ∙ typed_internal s senses c.args.leaf c.chosen-at.result c.as_slice-2.result.now internal place (c.as_slice-2.ensures.value ∙ those))
    c.internal_type.ensures.made
