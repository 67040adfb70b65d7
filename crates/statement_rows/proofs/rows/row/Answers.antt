use Rattle.std.proofs.Common.{ℕ, List, sym, ◌∙◌, subst}
use Rattle.c_senses.specs.Sense.{sense_in}
use Rattle.c_senses.specs.Statements as spec
use Rattle.c_results.specs.Standing.{senses_made, Rowed}
use Rattle.tree_reads.specs.Sources.{source_in}
use Rattle.c_senses.specs.Tree.{children_at}
use Rattle.c_senses.specs.Rows.{declaring_row}
use Rattle.statement_rows.specs.Told.{IsStatementPart}
use Rattle.statement_rows.proofs.Running.{is_statement}
use Rattle.statement_rows.proofs.rows.row.Goals as goal

pub returns-then-production-eq-REST-clause-within : goal.returns-then-production-eq-REST-clause-within
returns-then-production-eq-REST-clause-within c = c.rest_row.ensures.within c.args.unit.now c.requires.results

pub returns-then-production-eq-REST-clause-row : goal.returns-then-production-eq-REST-clause-row
returns-then-production-eq-REST-clause-row c = λ w uses knows told.
    let s = source_in c.args.syntax.now uses in
    let sense = sense_in (senses_made c.args.unit.now c.args.results.now) in
    let is = sym c.production_of-production.ensures ∙ c.if-production-eq-REST.true in
    subst (λ (p : ℕ). Rowed c.args.unit.now c.rest_row.result (declaring_row w s sense p c.args.at (children_at s c.args.at))) (sym is) (c.rest_row.ensures.row c.args.unit.now w uses)

pub returns-then-production-eq-DECLARATION-clause-within : goal.returns-then-production-eq-DECLARATION-clause-within
returns-then-production-eq-DECLARATION-clause-within c = c.declaration_row.ensures.within c.args.unit.now c.requires.results

pub returns-then-production-eq-DECLARATION-clause-row : goal.returns-then-production-eq-DECLARATION-clause-row
returns-then-production-eq-DECLARATION-clause-row c = λ w uses knows told.
    let s = source_in c.args.syntax.now uses in
    let sense = sense_in (senses_made c.args.unit.now c.args.results.now) in
    let is = sym c.production_of-production.ensures ∙ c.if-production-eq-DECLARATION.true in
    subst (λ (p : ℕ). Rowed c.args.unit.now c.declaration_row.result (declaring_row w s sense p c.args.at (children_at s c.args.at))) (sym is) (subst (λ (l : List ℕ). Rowed c.args.unit.now c.declaration_row.result (spec.declaration_row w s sense l)) c.children_of-children.ensures (c.declaration_row.ensures.row c.args.unit.now w s))

pub returns-then-production-eq-BLOCK-clause-row : goal.returns-then-production-eq-BLOCK-clause-row
returns-then-production-eq-BLOCK-clause-row c = λ w uses knows told.
    let s = source_in c.args.syntax.now uses in
    let sense = sense_in (senses_made c.args.unit.now c.args.results.now) in
    let is = sym c.production_of-production.ensures ∙ c.if-production-eq-BLOCK.true in
    subst (λ (p : ℕ). Rowed c.block_row.new.unit c.block_row.result (declaring_row w s sense p c.args.at (children_at s c.args.at))) (sym is) (subst (λ (l : List ℕ). Rowed c.block_row.new.unit c.block_row.result (spec.block_row w s sense c.args.at l)) c.children_of-children.ensures (c.block_row.ensures.row w uses))

pub returns-clause-row : goal.returns-clause-row
returns-clause-row c = λ w uses knows told.
    let s = source_in c.args.syntax.now uses in
    let sense = sense_in (senses_made c.args.unit.now c.args.results.now) in
    let u = c.statement_row.new.unit in
    let part = subst IsStatementPart (sym c.production_of-production.ensures) c.requires.part in
    let is = sym c.production_of-production.ensures ∙ is_statement c.production_of-production.result part c.if-production-eq-REST.false c.if-production-eq-DECLARATION.false c.if-production-eq-BLOCK.false in
    subst (λ (p : ℕ). Rowed u c.statement_row.result (declaring_row w s sense p c.args.at (children_at s c.args.at))) (sym is)
    (subst (λ (l : List ℕ). Rowed u c.statement_row.result (spec.statement_row w s sense c.args.at l)) c.children_of-children.ensures (c.statement_row.ensures.row w uses knows told))
