use Rattle.std.proofs.Common.{Some, length, sym, ap, ◌∙◌}
use Rattle.c_senses.specs.Sense.{sense_in}
use Rattle.c_results.specs.Standing.{senses_made}
use Rattle.c_entities.specs.Types.{type_in}
use Rattle.tree_reads.specs.Sources.{source_in}
use Rattle.name_places.proofs.Standing.{returned_some, returned_none, returned_outside}
use Rattle.name_places.proofs.around.returned_type.Goals as goal

pub returns-in_default-clause-made : goal.returns-in_default-clause-made
returns-in_default-clause-made c = λ w uses.
    let u = c.args.unit.now in
    let sense = sense_in (senses_made u c.args.results.now) in
    returned_outside w (source_in c.args.syntax.now uses) sense c.args.node (c.in_default.ensures.name u)

pub own_type-requires-clause-leaf : goal.own_type-requires-clause-leaf
own_type-requires-clause-leaf c = c.in-Some.ensures.within (length c.args.syntax.now.tree.now.nodes.items) c.requires.names

pub returns-in-Ok-Some-clause-made : goal.returns-in-Ok-Some-clause-made
returns-in-Ok-Some-clause-made c = λ w uses.
    let u = c.args.unit.now in
    let s = source_in c.args.syntax.now uses in
    let sense = sense_in (senses_made u c.args.results.now) in
    let own = sym (ap (type_in c.own_type.new.unit.types) c.in-Ok-Some.field-0-is) ∙ c.in-Ok-Some.ensures.made in
    returned_some w s sense c.args.node c.in-Some.leaf _ (c.in-Some.ensures.name u) own ∙ ap Some (sym (c.result_of.ensures.result w s sense))

pub returns-in-Ok-None-clause-made : goal.returns-in-Ok-None-clause-made
returns-in-Ok-None-clause-made c = λ w uses.
    let u = c.args.unit.now in
    let sense = sense_in (senses_made u c.args.results.now) in
    let own = sym (ap (type_in c.own_type.new.unit.types) c.in-Ok-None.field-0-is) ∙ c.in-Ok-None.ensures.made in
    returned_none w (source_in c.args.syntax.now uses) sense c.args.node c.in-Some.leaf (c.in-Some.ensures.name u) own
