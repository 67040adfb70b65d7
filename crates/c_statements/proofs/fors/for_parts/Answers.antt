use Rattle.std.proofs.Common.{ap, sym, ◌∙◌}
use Rattle.c_senses.specs.Statements.{expression_before}
use Rattle.tree_reads.specs.Sources.{source_read}
use Rattle.c_statements.proofs.Turns.{begins_declared, begins_otherwise}
use Rattle.c_statements.proofs.fors.for_parts.Goals as goal

pub returns-then-is_a : goal.returns-then-is_a
returns-then-is_a c = λ w sense.
    let s = source_read c.args.syntax.now in
    begins_declared w s sense c.args.list.now c.expression_before.result c.expression_before-then-is_a.result (sym c.if-is_empty.ensures) c.if-is_a.ensures (c.expression_before.ensures w sense)
    (c.expression_before-then-is_a.ensures w sense ∙ ap (expression_before w s sense) (c.behind_semicolon.ensures w sense))

pub returns : goal.returns
returns c = λ w sense.
    let s = source_read c.args.syntax.now in
    begins_otherwise w s sense c.args.list.now c.behind_semicolon-rest.result.now c.expression_before-2.result c.expression_before-3.result c.expression_before-4.result (sym c.if-is_empty.ensures) c.if-is_a.ensures
    (c.behind_semicolon-rest.ensures w sense) (c.expression_before-2.ensures w sense) (c.expression_before-3.ensures w sense) (c.expression_before-4.ensures w sense ∙ ap (expression_before w s sense) (c.behind_semicolon-2.ensures w sense))
