use Rattle.std.proofs.Common.{ap, ◌∙◌}
use Rattle.tree_reads.specs.Sources.{source_read}
use Rattle.c_senses.specs.Places.{is_operators, own_of_operators}
use Rattle.c_statements.proofs.Own.{taken}
use Rattle.c_statements.proofs.places.of_others.Goals as goal

pub returns-then-is_operators : goal.returns-then-is_operators
returns-then-is_operators c = taken (is_operators (source_read c.args.syntax.now) c.args.node) _ _ _ c.if-is_operators.ensures (c.of_operators.ensures (source_read c.args.syntax.now) ∙ ap (own_of_operators (source_read c.args.syntax.now)) c.children_of-children.ensures)
