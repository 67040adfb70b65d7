use Rattle.std.proofs.Common.{sym, ap, ◌∙◌}
use Rattle.c_grammar.specs.Productions.{p_rest}
use Rattle.core_nodes.specs.passed.c_senses.Tree.{is_a}
use Rattle.core_nodes.specs.passed.c_senses.Entities.{initialiser_in, in_rest, without_asm}
use Rattle.tree_reads.specs.Sources.{source_read}
use Rattle.c_entities.proofs.Reading.{chosen, other}
use Rattle.c_entities.proofs.initialisers.initialiser_within.Goals as goal

pub returns-then-is_a : goal.returns-then-is_a
returns-then-is_a c = λ sense.
    let s = source_read c.args.syntax.now in
    let e = c.without_asm-list.ensures sense ∙ ap (without_asm s sense) c.behind_among.ensures in
    c.initialiser_in.ensures sense ∙ (ap (initialiser_in s sense) e ∙ chosen (is_a s p_rest c.args.parent) _ _ (sym c.is_a.ensures ∙ c.if-is_a.true))

pub returns-else-is_a : goal.returns-else-is_a
returns-else-is_a c = λ sense.
    let s = source_read c.args.syntax.now in
    let e = c.without_asm-list.ensures sense ∙ ap (without_asm s sense) c.behind_among.ensures in
    c.in_rest.ensures sense ∙ (ap (in_rest s sense) e ∙ other (is_a s p_rest c.args.parent) _ _ (sym c.is_a.ensures ∙ c.if-is_a.false))
