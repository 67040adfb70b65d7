use Rattle.std.proofs.Common.{ℕ, sym, subst}
use Rattle.c_senses.specs.Sense.{sense_in}
use Rattle.core_nodes.specs.Standing.{Made}
use Rattle.c_results.specs.Standing.{senses_made}
use Rattle.tree_reads.specs.Sources.{source_in}
use Rattle.statement_rows.specs.Words as words
use Rattle.statement_rows.proofs.statements.of_jump.Goals as goal

pub returns-then-word-eq-WORD_GOTO-clause-made : goal.returns-then-word-eq-WORD_GOTO-clause-made
returns-then-word-eq-WORD_GOTO-clause-made c = λ w uses knows spelled.
    let s = source_in c.args.syntax.now uses in
    let sense = sense_in (senses_made c.args.unit.now c.args.results.now) in
    subst (λ (k : ℕ). Made c.goto_row.new.unit c.goto_row.result (words.of_jump w s sense c.args.at c.args.children.now k)) (sym c.if-word-eq-WORD_GOTO.true) (c.goto_row.ensures.made w uses sense spelled)

pub returns-then-word-eq-WORD_RETURN-clause-made : goal.returns-then-word-eq-WORD_RETURN-clause-made
returns-then-word-eq-WORD_RETURN-clause-made c = λ w uses knows spelled.
    let s = source_in c.args.syntax.now uses in
    let sense = sense_in (senses_made c.args.unit.now c.args.results.now) in
    subst (λ (k : ℕ). Made c.return_statement.new.unit c.return_statement.result (words.of_jump w s sense c.args.at c.args.children.now k)) (sym c.if-word-eq-WORD_RETURN.true) (c.return_statement.ensures.made w uses knows)
