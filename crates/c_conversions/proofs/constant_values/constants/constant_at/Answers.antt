use Rattle.std.proofs.Common.{refl, sym, ◌∙◌, ap}
use Rattle.std.proofs.lemmas.Bool.{false≢true}
use Rattle.pta_base.specs.declared.kind.Kind.TheVariants.{Constant}
use Rattle.pta_base.specs.declared.place.Place.{Place}
use Rattle.core_nodes.specs.passed.c_senses.Given.{Refuses}
use Rattle.core_nodes.specs.passed.c_senses.Constants.{leaf_of_place}
use Rattle.core_nodes.specs.Standing.{core_at}
use Rattle.tree_reads.specs.Sources.{source_read}
use Rattle.c_conversions.proofs.constant_values.Valuing.{of_place, of_no_value, of_other}
use Rattle.c_conversions.proofs.constant_values.constants.constant_at.Goals as goal
use Rattle.c_conversions.proofs.constant_values.constants.constant_at.Goals.{else-is_place-via-then-is_place+else-has_value, else-is_place-via-else-is_place}

pub returns-then-has_value-clause-value : goal.returns-then-has_value-clause-value
returns-then-has_value-clause-value c = λ w k.
    let s = source_read c.args.syntax.now in
    let core = core_at c.args.unit.now c.args.node in
    of_place w s c.args.at core (c.if-is_place.ensures.0 refl) (sym (c.if-has_value.ensures w k))
    ∙ sym (ap (Refuses Constant) (c.leaf_of_place-leaf.ensures ∙ ap (λ (p : Place). leaf_of_place s c.args.at p) c.place_of_node.ensures))

pub returns-clause-value : goal.returns-clause-value
returns-clause-value c = λ w k.
    let s = source_read c.args.syntax.now in
    let core = core_at c.args.unit.now c.args.node in
    elim c.else-is_place.branch [
      | else-is_place-via-then-is_place+else-has_value b ↦ of_no_value w s c.args.at core (b.if-is_place.ensures.0 refl) (sym (b.if-has_value.ensures w k))
      | else-is_place-via-else-is_place b ↦ of_other w s c.args.at core (λ e. false≢true (c.if-is_value.ensures.1 e)) (λ e. false≢true (b.if-is_place.ensures.1 e))
    ]
