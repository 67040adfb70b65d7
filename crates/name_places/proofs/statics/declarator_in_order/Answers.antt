use Rattle.std.proofs.Common.{◌∙◌}
use Rattle.c_grammar.specs.Productions.{p_declarator}
use Rattle.c_senses.specs.Tree.{is_a}
use Rattle.tree_reads.specs.Sources.{source_read}
use Rattle.name_places.proofs.Ordered.{last_below}
use Rattle.name_places.proofs.statics.declarator_in_order.Goals as goal

pub returns : goal.returns
returns c =
    c.declarator_before.ensures
    ∙ last_below (is_a (source_read c.args.syntax.now) p_declarator) c.args.initialiser c.args.list.now c.first_from.result c.requires (c.first_from.ensures.above c.requires)
