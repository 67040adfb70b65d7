use Rattle.std.proofs.Common.{rules, to_z-of_z, FitsSigned, ap, ◌∙◌}
use Rattle.std.specs.Int.{w128}
use Rattle.c_senses.specs.Sense.{sense_in}
use Rattle.c_results.specs.Standing.{senses_made}
use Rattle.tree_reads.specs.Sources.{source_in}
use Rattle.c_statements.specs.Labels.{is_choice}
use Rattle.c_statements.proofs.Choosing.{case_here, no_case, other_case}
use Rattle.c_statements.proofs.choices.case_of.Goals as goal

pub returns-then-not-is_statement_of : goal.returns-then-not-is_statement_of
returns-then-not-is_statement_of c = λ w uses switch number.
    let s = source_in c.args.syntax.now uses in
    let sense = sense_in (senses_made c.args.unit.now c.args.results.now) in
    other_case w s sense c.args.at switch number (c.if-not-is_statement_of.ensures w uses sense)

pub returns-in_err-number : goal.returns-in_err-number
returns-in_err-number c = λ w uses switch number.
    let s = source_in c.args.syntax.now uses in
    let sense = sense_in (senses_made c.args.unit.now c.args.results.now) in
    let none = no_case w s sense c.args.at switch number (c.if-not-is_statement_of.ensures w uses sense) (c.in_err-number.ensures w s) in
    ap (λ o. is_choice o switch number) c.from_residual-in_err-number.ensures ∙ none

pub returns : goal.returns
returns c = λ w uses switch number.
    let s = source_in c.args.syntax.now uses in
    let sense = sense_in (senses_made c.args.unit.now c.args.results.now) in
    let fits : FitsSigned w128 c.in_ok-number.number = search rules in
    simp (to_z-of_z fits) (case_here w s sense c.args.at c.in_ok-switch.switch c.in_ok-number.number switch number (c.if-not-is_statement_of.ensures w uses sense) c.in_ok-switch.ensures.nearest (c.in_ok-number.ensures w s))
