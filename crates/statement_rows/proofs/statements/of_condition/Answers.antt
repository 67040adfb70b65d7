use Rattle.std.proofs.Common.{ℕ, cond, eqb, sym, subst}
use Rattle.c_consts.specs.Core.{Core}
use Rattle.c_senses.specs.Given.{Given}
use Rattle.c_senses.specs.Sense.{sense_in}
use Rattle.c_senses.specs.Statements as spec
use Rattle.core_nodes.specs.Standing.{Made}
use Rattle.c_results.specs.Standing.{senses_made}
use Rattle.tree_reads.specs.Sources.{source_in}
use Rattle.statement_rows.specs.Words as words
use Rattle.statement_rows.proofs.Running.{differs, not_this}
use Rattle.statement_rows.proofs.statements.of_condition.Goals as goal

pub returns-then-word-eq-WORD_IF-clause-made : goal.returns-then-word-eq-WORD_IF-clause-made
returns-then-word-eq-WORD_IF-clause-made c = λ w uses knows spelled.
    let s = source_in c.args.syntax.now uses in
    let sense = sense_in (senses_made c.args.unit.now c.args.results.now) in
    subst (λ (k : ℕ). Made c.if_row.new.unit c.if_row.result (words.of_condition w s sense c.args.at c.args.children.now k)) (sym c.if-word-eq-WORD_IF.true) (c.if_row.ensures.made w uses knows)

pub returns-then-word-eq-WORD_SWITCH-clause-made : goal.returns-then-word-eq-WORD_SWITCH-clause-made
returns-then-word-eq-WORD_SWITCH-clause-made c = λ w uses knows spelled.
    let s = source_in c.args.syntax.now uses in
    let sense = sense_in (senses_made c.args.unit.now c.args.results.now) in
    subst (λ (k : ℕ). Made c.switch_row.new.unit c.switch_row.result (words.of_condition w s sense c.args.at c.args.children.now k)) (sym c.if-word-eq-WORD_SWITCH.true) (c.switch_row.ensures.made w uses knows)

pub returns-then-word-eq-WORD_WHILE-clause-made : goal.returns-then-word-eq-WORD_WHILE-clause-made
returns-then-word-eq-WORD_WHILE-clause-made c = λ w uses knows spelled.
    let s = source_in c.args.syntax.now uses in
    let sense = sense_in (senses_made c.args.unit.now c.args.results.now) in
    subst (λ (k : ℕ). Made c.while_row.new.unit c.while_row.result (words.of_condition w s sense c.args.at c.args.children.now k)) (sym c.if-word-eq-WORD_WHILE.true) (c.while_row.ensures.made w uses knows)

pub returns-then-word-eq-WORD_DO-clause-made : goal.returns-then-word-eq-WORD_DO-clause-made
returns-then-word-eq-WORD_DO-clause-made c = λ w uses knows spelled.
    let s = source_in c.args.syntax.now uses in
    let sense = sense_in (senses_made c.args.unit.now c.args.results.now) in
    subst (λ (k : ℕ). Made c.do_row.new.unit c.do_row.result (words.of_condition w s sense c.args.at c.args.children.now k)) (sym c.if-word-eq-WORD_DO.true) (c.do_row.ensures.made w uses knows)

pub returns-then-word-eq-WORD_FOR-clause-made : goal.returns-then-word-eq-WORD_FOR-clause-made
returns-then-word-eq-WORD_FOR-clause-made c = λ w uses knows spelled.
    let s = source_in c.args.syntax.now uses in
    let sense = sense_in (senses_made c.args.unit.now c.args.results.now) in
    subst (λ (k : ℕ). Made c.for_statement.new.unit c.for_statement.result (words.of_condition w s sense c.args.at c.args.children.now k)) (sym c.if-word-eq-WORD_FOR.true) (c.for_statement.ensures.made w uses knows)

pub returns-clause-made : goal.returns-clause-made
returns-clause-made c = λ w uses knows spelled.
    let s = source_in c.args.syntax.now uses in
    let sense = sense_in (senses_made c.args.unit.now c.args.results.now) in
    let at = c.args.at in
    let children = c.args.children.now in
    let word = c.args.word in
    let P : Given Core → Type 0 = λ g. Made c.of_jump.new.unit c.of_jump.result g in
    let jump = words.of_jump w s sense at children word in
    let five = cond (eqb word 13) (spec.for_row w s sense at children) jump in
    let four = cond (eqb word 7) (spec.do_row w s sense at children) five in
    let three = cond (eqb word 33) (spec.while_row w s sense at children) four in
    let two = cond (eqb word 27) (spec.switch_row w s sense at children) three in
    not_this P (eqb word 15) (spec.if_row w s sense at children) two (differs word 15 c.if-word-eq-WORD_IF.false)
    (not_this P (eqb word 27) (spec.switch_row w s sense at children) three (differs word 27 c.if-word-eq-WORD_SWITCH.false)
    (not_this P (eqb word 33) (spec.while_row w s sense at children) four (differs word 33 c.if-word-eq-WORD_WHILE.false)
    (not_this P (eqb word 7) (spec.do_row w s sense at children) five (differs word 7 c.if-word-eq-WORD_DO.false)
    (not_this P (eqb word 13) (spec.for_row w s sense at children) jump (differs word 13 c.if-word-eq-WORD_FOR.false) (c.of_jump.ensures.made w uses knows spelled)))))
