use Rattle.std.proofs.Common.{ℕ, cond, eqb, Some, sym, subst}
use Rattle.c_consts.specs.Core.{Core}
use Rattle.c_senses.specs.Given.{Given}
use Rattle.c_senses.specs.Sense.{sense_in}
use Rattle.c_senses.specs.Statements as spec
use Rattle.core_nodes.specs.Standing.{Made}
use Rattle.c_results.specs.Standing.{senses_made}
use Rattle.tree_reads.specs.Sources.{source_in}
use Rattle.statement_rows.specs.Words as words
use Rattle.statement_rows.proofs.Running.{differs, not_this}
use Rattle.statement_rows.proofs.statements.of_word.Goals as goal

pub returns-then-word-eq-WORD_CASE-clause-made : goal.returns-then-word-eq-WORD_CASE-clause-made
returns-then-word-eq-WORD_CASE-clause-made c = λ w uses knows told.
    let s = source_in c.args.syntax.now uses in
    let sense = sense_in (senses_made c.args.unit.now c.args.results.now) in
    subst (λ (k : ℕ). Made c.case_row.new.unit c.case_row.result (spec.of_word w s sense c.args.at c.args.children.now (Some k))) (sym c.if-word-eq-WORD_CASE.true) (c.case_row.ensures.made w uses knows told.cases)

pub returns-then-word-eq-WORD_DEFAULT-clause-made : goal.returns-then-word-eq-WORD_DEFAULT-clause-made
returns-then-word-eq-WORD_DEFAULT-clause-made c = λ w uses knows told.
    let s = source_in c.args.syntax.now uses in
    let sense = sense_in (senses_made c.args.unit.now c.args.results.now) in
    subst (λ (k : ℕ). Made c.default_row.new.unit c.default_row.result (spec.of_word w s sense c.args.at c.args.children.now (Some k))) (sym c.if-word-eq-WORD_DEFAULT.true) (c.default_row.ensures.made w uses told.defaults)

pub returns-clause-made : goal.returns-clause-made
returns-clause-made c = λ w uses knows told.
    let s = source_in c.args.syntax.now uses in
    let sense = sense_in (senses_made c.args.unit.now c.args.results.now) in
    let at = c.args.at in
    let children = c.args.children.now in
    let word = c.args.word in
    let P : Given Core → Type 0 = λ g. Made c.of_condition.new.unit c.of_condition.result g in
    let later = words.of_condition w s sense at children word in
    let two = cond (eqb word 6) (spec.default_row w s sense at children) later in
    not_this P (eqb word 2) (spec.case_row w s sense at children) two (differs word 2 c.if-word-eq-WORD_CASE.false)
    (not_this P (eqb word 6) (spec.default_row w s sense at children) later (differs word 6 c.if-word-eq-WORD_DEFAULT.false) (c.of_condition.ensures.made w uses knows told.spelled))
