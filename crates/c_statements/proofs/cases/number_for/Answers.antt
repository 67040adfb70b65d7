use Rattle.std.proofs.Common.{ℕ, Some, List, rules, to_z-of_z, FitsSigned, sym, ap, ◌∙◌}
use Rattle.std.specs.Int.{w128}
use Rattle.c_types.specs.Trees.{Ctype}
use Rattle.c_consts.specs.Core.{Core}
use Rattle.c_consts.specs.Wrapped.{converted}
use Rattle.c_senses.specs.Given.{Given}
use Rattle.c_senses.specs.Sense.{sense_in}
use Rattle.c_senses.specs.Statements as spec
use Rattle.c_results.specs.Standing.{senses_made}
use Rattle.tree_reads.specs.Sources.{source_in}
use Rattle.c_statements.specs.Labels.{number_for}
use Rattle.c_statements.proofs.Numbering.{bad_number, unsupported_number}
use Rattle.c_statements.proofs.cases.number_for.Goals as goal

pub returns-in-Ok-clause-number : goal.returns-in-Ok-clause-number
returns-in-Ok-clause-number c = λ w uses knows.
    let s = source_in c.args.syntax.now uses in
    let sense = sense_in (senses_made c.args.unit.now c.args.results.now) in
    let same = ap (λ (l : List ℕ). spec.switched w s sense c.args.switch (spec.expression_in w s sense l)) c.children_of-children.ensures in
    let fits : FitsSigned w128 c.number_as.result = search rules in
    let number = simp (to_z-of_z c.ranges.number) at c.number_as.ensures in
    ap Some (to_z-of_z fits ∙ (number ∙ ap (λ (t : Ctype). converted t c.args.number) c.type_of_node-ty.ensures.tree))
    ∙ ap (λ (g : Given Core). number_for g c.args.number) (sym (c.in-Ok.ensures.made w knows) ∙ same)

pub returns-in-Err-BadOperand-clause-number : goal.returns-in-Err-BadOperand-clause-number
returns-in-Err-BadOperand-clause-number c = λ w uses knows.
    let s = source_in c.args.syntax.now uses in
    let sense = sense_in (senses_made c.args.unit.now c.args.results.now) in
    let same = ap (λ (l : List ℕ). spec.switched w s sense c.args.switch (spec.expression_in w s sense l)) c.children_of-children.ensures in
    bad_number c.switched.new.unit c.in-Err-BadOperand.field-0 c.in-Err-BadOperand.field-0-0 _ c.args.number c.in-Err-BadOperand.field-0-is (c.in-Err-BadOperand.ensures.made w knows)
    ∙ ap (λ (g : Given Core). number_for g c.args.number) same

pub returns-in-Err-Unsupported-clause-number : goal.returns-in-Err-Unsupported-clause-number
returns-in-Err-Unsupported-clause-number c = λ w uses knows.
    let s = source_in c.args.syntax.now uses in
    let sense = sense_in (senses_made c.args.unit.now c.args.results.now) in
    let same = ap (λ (l : List ℕ). spec.switched w s sense c.args.switch (spec.expression_in w s sense l)) c.children_of-children.ensures in
    unsupported_number c.switched.new.unit c.in-Err-Unsupported.field-0 c.in-Err-Unsupported.field-0-0 c.in-Err-Unsupported.field-0-1 _ c.args.number c.in-Err-Unsupported.field-0-is (c.in-Err-Unsupported.ensures.made w knows)
    ∙ ap (λ (g : Given Core). number_for g c.args.number) same
