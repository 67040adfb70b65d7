use Rattle.std.proofs.Common.{None, sym, ap, ◌∙◌}
use Rattle.c_grammar.specs.Productions.{p_rest}
use Rattle.core_nodes.specs.passed.c_senses.Tree.{is_a}
use Rattle.core_nodes.specs.passed.c_senses.Entities.{initialiser_in}
use Rattle.tree_reads.specs.Sources.{source_read}
use Rattle.c_entities.proofs.Reading.{chosen}
use Rattle.c_entities.proofs.initialisers.rest_initialiser.Goals as goal

pub returns-then-is_a : goal.returns-then-is_a
returns-then-is_a c = λ sense.
    let s = source_read c.args.syntax.now in
    c.initialiser_in.ensures sense ∙ (ap (initialiser_in s sense) c.children_of.ensures ∙ chosen (is_a s p_rest c.args.node) _ None (sym c.is_a.ensures ∙ c.if-is_a.true))
