use Rattle.std.proofs.Common.{rules, to_z-of_z, FitsSigned, ap, ◌∙◌}
use Rattle.std.proofs.Common.{is_some, ◌==◌, ◌&&◌}
use Rattle.std.specs.Ordering.{int_eq}
use Rattle.std.specs.Int.{w128}
use Rattle.c_senses.specs.Sense.{sense_in}
use Rattle.c_results.specs.Standing.{senses_made}
use Rattle.tree_reads.specs.Sources.{source_in}
use Rattle.c_senses.specs.Statements.{is_case_again}
use Rattle.c_statements.specs.Labels.{case_at}
use Rattle.c_statements.proofs.Choosing.{some_put, none_put}
use Rattle.c_statements.proofs.choices.Choices.note_case.Goals as goal

pub returns-in_ok-put-clause-noted : goal.returns-in_ok-put-clause-noted
returns-in_ok-put-clause-noted c = λ w uses switch number.
    let s = source_in c.args.syntax.now uses in
    let sense = sense_in (senses_made c.args.unit.now c.args.results.now) in
    let fits : FitsSigned w128 c.in-Some.number = search rules in
    let put = simp (to_z-of_z fits) at (c.in_ok-put.ensures switch number) in
    ap is_some put ∙ some_put ((c.in-Some.switch == switch) && int_eq c.in-Some.number number) (is_case_again w s sense switch number c.args.at) c.args.at (case_at c.args.self.now.cases switch number) (c.in-Some.ensures w uses switch number)

pub returns-in_default-clause-noted : goal.returns-in_default-clause-noted
returns-in_default-clause-noted c = λ w uses switch number.
    let s = source_in c.args.syntax.now uses in
    let sense = sense_in (senses_made c.args.unit.now c.args.results.now) in
    none_put (is_some (case_at c.args.self.now.cases switch number)) (is_case_again w s sense switch number c.args.at) (c.in_default.ensures w uses switch number)
