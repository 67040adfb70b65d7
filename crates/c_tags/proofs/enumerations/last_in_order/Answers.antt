use Rattle.std.proofs.Common.{◌∙◌}
use Rattle.c_grammar.specs.Productions.{p_enumerator}
use Rattle.c_senses.specs.Tree.{is_a}
use Rattle.tree_reads.specs.Sources.{source_read}
use Rattle.c_tags.proofs.Ordered.{last_below}
use Rattle.c_tags.proofs.enumerations.last_in_order.Goals as goal

pub returns : goal.returns
returns c =
    c.last_before.ensures
    ∙ last_below (is_a (source_read c.args.syntax.now) p_enumerator) c.args.at c.args.list.now c.first_from.result c.requires (c.first_from.ensures.above c.requires)
