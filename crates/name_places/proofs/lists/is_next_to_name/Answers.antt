use Rattle.std.proofs.Common.{refl}
use Rattle.c_senses.specs.Sense.{sense_in}
use Rattle.c_results.specs.Standing.{senses_made}
use Rattle.tree_reads.specs.Sources.{source_read}
use Rattle.c_entities.proofs.PassedOn.{and_then, and_else, next_is}
use Rattle.c_senses.specs.Tree.{children_at}
use Rattle.name_places.proofs.lists.is_next_to_name.Goals as goal

pub returns-then-is_first_suffix : goal.returns-then-is_first_suffix
returns-then-is_first_suffix c = λ u w.
    let s = source_read c.args.syntax.now in
    let sense = sense_in (senses_made u c.args.results.now) in
    and_then _ _ _ c.if-is_first_suffix.true (next_is w s sense c.args.node c.in-Some.declarator c.children_of.result.now _ _ c.in-Some.ensures.parent c.children_of.ensures (c.is_first_suffix.ensures w sense) (c.derives_nothing.ensures u w s))

pub returns-else-is_first_suffix : goal.returns-else-is_first_suffix
returns-else-is_first_suffix c = λ u w.
    let s = source_read c.args.syntax.now in
    let sense = sense_in (senses_made u c.args.results.now) in
    and_else _ _ _ c.if-is_first_suffix.false (next_is w s sense c.args.node c.in-Some.declarator (children_at s c.in-Some.declarator) _ _ c.in-Some.ensures.parent refl (c.is_first_suffix.ensures w sense) refl)
