use Rattle.std.proofs.Common.{arith, ◌<◌, length, get_or, sym, subst}
use Rattle.c_lexer.specs.declared.TokenKind.TheVariants.{Identifier}
use Rattle.c_senses.specs.Given.{Given}
use Rattle.c_senses.specs.Sense.{Sense, sense_in}
use Rattle.c_results.specs.Standing.{senses_made, Rowed}
use Rattle.tree_reads.specs.Sources.{source_read}
use Rattle.expression_rows.proofs.c_rows.Steps.{not_zero, primary_is}
use Rattle.expression_rows.proofs.c_rows.primaries.primary_row.Goals as goal

pub returns-in-Identifier-clause-row : goal.returns-in-Identifier-clause-row
returns-in-Identifier-clause-row c w k h =
    let u1 = c.named.new.unit in
    let s = source_read c.args.syntax.now in
    let sense = sense_in (senses_made c.args.unit.now c.args.results.now) in
    let xs = c.args.children.now in
    let some : 0 < length xs = omega (arith, not_zero (length xs) c.if-is_empty.ensures) in
    subst (λ (g : Given Sense). Rowed u1 c.named.result g) (primary_is w s sense c.args.at xs Identifier some c.in-Identifier.ensures)
    (c.named.ensures.row w k (h some (sym c.in-Identifier.ensures)))
