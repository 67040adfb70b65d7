use Rattle.std.proofs.Common.{ℕ, Option, Err, sym, subst}
use Rattle.c_senses.specs.Sense.{sense_in}
use Rattle.c_senses.specs.Statements as spec
use Rattle.c_results.specs.Standing.{senses_made}
use Rattle.tree_reads.specs.Sources.{source_read}
use Rattle.c_statements.specs.Fors.{RunMade}
use Rattle.c_statements.proofs.Turns.{runs_first, lone_first, runs_lone, lone_fails}
use Rattle.c_statements.proofs.fors.for_first.Goals as goal

pub returns-then-is_a-clause-made : goal.returns-then-is_a-clause-made
returns-then-is_a-clause-made c = λ w knows.
    let s = source_read c.args.syntax.now in
    let u = c.args.unit.now in
    let sense = sense_in (senses_made u c.args.results.now) in
    subst (λ (o : Option ℕ). RunMade u c.run_of.result (spec.for_first w s sense c.args.at o)) (sym c.in-Some.is)
    (runs_first u w s c.args.results.now c.args.at c.in-Some.part c.run_of.result c.if-is_a.ensures c.run_of.ensures.run c.run_of.ensures.memory)

pub returns-in-Ok-clause-made : goal.returns-in-Ok-clause-made
returns-in-Ok-clause-made c = λ w knows.
    let s = source_read c.args.syntax.now in
    let u = c.expression_row.new.unit in
    let sense = sense_in (senses_made c.args.unit.now c.args.results.now) in
    let lone = runs_lone u c.in-Ok.node c.alone.result (spec.expression_statement w s sense c.args.at c.in-Some.part) (c.in-Ok.ensures.made w s knows c.own_place-place.ensures) c.alone.ensures.one c.alone.ensures.memory in
    subst (λ (o : Option ℕ). RunMade u c.alone.result (spec.for_first w s sense c.args.at o)) (sym c.in-Some.is)
    (subst (λ g. RunMade u c.alone.result g) (lone_first w s sense c.args.at c.in-Some.part c.if-is_a.ensures) lone)

pub returns-in-Err-clause-made : goal.returns-in-Err-clause-made
returns-in-Err-clause-made c = λ w knows.
    let s = source_read c.args.syntax.now in
    let u = c.expression_row.new.unit in
    let sense = sense_in (senses_made c.args.unit.now c.args.results.now) in
    let lone = lone_fails u u c.in-Err.fault (spec.expression_statement w s sense c.args.at c.in-Some.part) (c.in-Err.ensures.made w s knows c.own_place-place.ensures) in
    subst (λ (o : Option ℕ). RunMade u (Err c.in-Err.fault) (spec.for_first w s sense c.args.at o)) (sym c.in-Some.is)
    (subst (λ g. RunMade u (Err c.in-Err.fault) g) (lone_first w s sense c.args.at c.in-Some.part c.if-is_a.ensures) lone)
