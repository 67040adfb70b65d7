use Rattle.std.proofs.Common.{ℕ, sym, subst}
use Rattle.c_senses.specs.Sense.{sense_in}
use Rattle.c_senses.specs.Rows.{declaring_row}
use Rattle.c_results.specs.Standing.{senses_made, Rowed}
use Rattle.tree_reads.specs.Sources.{source_in}
use Rattle.unit_walk.proofs.unit_rows.Answers.{last_derivation}
use Rattle.unit_walk.proofs.unit_rows.parts.derivation.Goals as goal

pub returns-then-production-eq-SUFFIX-clause-row : goal.returns-then-production-eq-SUFFIX-clause-row
returns-then-production-eq-SUFFIX-clause-row c w uses =
    let S = sense_in (senses_made c.args.unit.now c.args.results.now) in
    subst (λ (p : ℕ). Rowed c.args.unit.now c.suffix_row.result (declaring_row w (source_in c.args.syntax.now uses) S p c.args.at c.args.children.now)) (sym c.if-production-eq-SUFFIX.true) (c.suffix_row.ensures.row w uses)

pub returns-then-production-eq-PARAMETER-clause-row : goal.returns-then-production-eq-PARAMETER-clause-row
returns-then-production-eq-PARAMETER-clause-row c w uses =
    let S = sense_in (senses_made c.args.unit.now c.args.results.now) in
    subst (λ (p : ℕ). Rowed c.parameter_row.new.unit c.parameter_row.result (declaring_row w (source_in c.args.syntax.now uses) S p c.args.at c.args.children.now)) (sym c.if-production-eq-PARAMETER.true) (c.parameter_row.ensures.row w uses)

pub returns-clause-row : goal.returns-clause-row
returns-clause-row c w uses =
    let S = sense_in (senses_made c.args.unit.now c.args.results.now) in
    subst (λ (p : ℕ). Rowed c.type_name_row.new.unit c.type_name_row.result (declaring_row w (source_in c.args.syntax.now uses) S p c.args.at c.args.children.now))
    (sym (last_derivation c.args.production c.requires.part c.if-production-eq-SUFFIX.false c.if-production-eq-PARAMETER.false)) (c.type_name_row.ensures.row w uses)
