use Rattle.std.proofs.Common.{sym, ap, subst, ◌∙◌}
use Rattle.c_types.specs.Trees.{Ctype}
use Rattle.c_types.specs.Table.{type_of}
use Rattle.c_grammar.specs.Productions.{p_conditional}
use Rattle.c_senses.specs.Tree.{child_of}
use Rattle.c_senses.specs.Given.{Given}
use Rattle.c_senses.specs.Sense.{Sense, sense_in}
use Rattle.c_senses.specs.Tags.{field_typed}
use Rattle.core_nodes.proofs.Growing.{knows_on}
use Rattle.c_results.specs.Standing.{senses_made, derivations_seen, Rowed}
use Rattle.tree_reads.specs.Sources.{source_in}
use Rattle.c_structures.proofs.Fielding.{no_type, no_declarator, by_declarator}
use Rattle.c_structures.proofs.rows.field_row.Goals as goal

pub returns-in_default-specified_child-clause-row : goal.returns-in_default-specified_child-clause-row
returns-in_default-specified_child-clause-row c = λ w uses k f says.
    no_type w (source_in c.args.syntax.now uses) (sense_in (senses_made c.args.unit.now c.args.results.now)) c.args.at c.in-Some.member (sym c.in-Some.ensures.parent) (c.in_default-specified_child.ensures.seen c.args.unit.now w)

pub returns-in_default-declarator_child-clause-row : goal.returns-in_default-declarator_child-clause-row
returns-in_default-declarator_child-clause-row c = λ w uses k f says.
    let u = c.args.unit.now in
    let s = source_in c.args.syntax.now uses in
    let sense = sense_in (senses_made u c.args.results.now) in
    subst (λ (g : Given Sense). Rowed u c.typed_field.result g)
    (sym (no_declarator w s sense c.args.at c.in-Some.member (type_of u.types c.in-Some-specified_child.base.0) (sym c.in-Some.ensures.parent) (c.in-Some-specified_child.ensures.seen u w) (c.in_default-declarator_child.ensures.seen u w)))
    (c.typed_field.ensures.row w uses sense k f says (c.width_of-width.ensures w uses k))

pub derived-requires-clause-derivations : goal.derived-requires-clause-derivations
derived-requires-clause-derivations c = c.in-Some-declarator_child.ensures.within c.args.unit.now c.requires.results

pub returns-clause-row : goal.returns-clause-row
returns-clause-row c = λ w uses k f says.
    let u = c.args.unit.now in
    let s = source_in c.args.syntax.now uses in
    let sense = sense_in (senses_made u c.args.results.now) in
    let base = type_of u.types c.in-Some-specified_child.base.0 in
    let ds = derivations_seen u.types c.in-Some-declarator_child.steps.now in
    subst (λ (g : Given Sense). Rowed c.derived.new.unit c.typed_field-2.result g)
    (ap (λ (t : Ctype). field_typed w s sense c.args.at c.in-Some-declarator_child.leaf t (child_of s p_conditional c.args.at)) c.in-Ok.ensures.made
    ∙ sym (by_declarator w s sense c.args.at c.in-Some.member base (sym c.in-Some.ensures.parent) (c.in-Some-specified_child.ensures.seen u w) c.in-Some-declarator_child.leaf ds (c.in-Some-declarator_child.ensures.seen u w)))
    (c.typed_field-2.ensures.row w uses sense (knows_on w u c.derived.new.unit c.in-Ok.ensures.builds k) f says (c.width_of-width.ensures w uses k))
