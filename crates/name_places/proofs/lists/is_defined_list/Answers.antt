use Rattle.std.proofs.Common.{refl}
use Rattle.c_senses.specs.Sense.{sense_in}
use Rattle.c_results.specs.Standing.{senses_made}
use Rattle.tree_reads.specs.Sources.{source_read}
use Rattle.c_entities.proofs.PassedOn.{and_then, and_else, defined_is}
use Rattle.name_places.proofs.lists.is_defined_list.Goals as goal

pub returns-then-stands_in_definition : goal.returns-then-stands_in_definition
returns-then-stands_in_definition c = λ u w.
    let sense = sense_in (senses_made u c.args.results.now) in
    and_then _ _ _ c.if-stands_in_definition.true (defined_is w (source_read c.args.syntax.now) sense c.args.node _ _ (c.stands_in_definition.ensures w sense) (c.is_next_to_name.ensures u w))

pub returns-else-stands_in_definition : goal.returns-else-stands_in_definition
returns-else-stands_in_definition c = λ u w.
    let sense = sense_in (senses_made u c.args.results.now) in
    and_else _ _ _ c.if-stands_in_definition.false (defined_is w (source_read c.args.syntax.now) sense c.args.node _ _ (c.stands_in_definition.ensures w sense) refl)
