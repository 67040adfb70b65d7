use Rattle.std.proofs.Common.{ℕ, Option, Some, Ok, Err, sym, subst}
use Rattle.c_senses.specs.Sense.{sense_in, value_in}
use Rattle.c_senses.specs.Statements as spec
use Rattle.c_results.specs.Standing.{senses_made}
use Rattle.c_statements.specs.Others.{OtherMade}
use Rattle.c_statements.proofs.Turns.{some_made, some_fails}
use Rattle.c_statements.proofs.fors.for_after.Goals as goal

pub returns-in-Ok-clause-made : goal.returns-in-Ok-clause-made
returns-in-Ok-clause-made c = λ w s knows.
    let sense = sense_in (senses_made c.args.unit.now c.args.results.now) in
    let u = c.value_of.new.unit in
    subst (λ (o : Option ℕ). OtherMade u (Ok (Some c.in-Ok.node)) (spec.for_after w s sense c.args.at o)) (sym c.in-Some.is) (some_made u c.in-Ok.node (value_in w c.args.at (sense c.in-Some.part)) (c.in-Ok.ensures.made w knows))

pub returns-in-Err-clause-made : goal.returns-in-Err-clause-made
returns-in-Err-clause-made c = λ w s knows.
    let sense = sense_in (senses_made c.args.unit.now c.args.results.now) in
    let u = c.value_of.new.unit in
    subst (λ (o : Option ℕ). OtherMade u (Err c.in-Err.fault) (spec.for_after w s sense c.args.at o)) (sym c.in-Some.is) (some_fails u u c.in-Err.fault (value_in w c.args.at (sense c.in-Some.part)) (c.in-Err.ensures.made w knows))
