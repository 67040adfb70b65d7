use Rattle.std.proofs.Common.{ap, ◌∙◌}
use Rattle.tree_reads.specs.Sources.{source_read}
use Rattle.c_senses.specs.Tree.{first_where, is_name}
use Rattle.c_senses.specs.Places.{is_declarator_part}
use Rattle.c_statements.proofs.Own.{name_part}
use Rattle.c_statements.proofs.places.name_within.Goals as goal

pub loop-depth-preserved : goal.loop-depth-preserved
loop-depth-preserved c =
    let s = source_read c.args.syntax.now in
    let no_leaf = c.in_default.ensures ∙ ap (first_where (is_name s)) c.children_of-children.ensures in
    let here = c.in-Some-first_declarator.ensures ∙ ap (first_where (is_declarator_part s)) c.children_of-children.ensures in
    name_part s c.args.node c.loop-depth._depth c.loop-depth.here c.in-Some-first_declarator.part c.args.node c.loop-depth-test.true no_leaf here c.loop-depth.invariant
