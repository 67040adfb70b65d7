use Rattle.std.proofs.Common.{rules, ℤ, to_z-of_z, FitsSigned}
use Rattle.std.specs.Int.{w128}
use Rattle.c_senses.specs.World.{Value}
use Rattle.c_meanings.proofs.Values.{value_seen, no_value}
use Rattle.std.proofs.Common.{Some, ap, sym, ◌∙◌}
use Rattle.c_senses.specs.Sense.{sense_in}
use Rattle.c_results.specs.Standing.{senses_made}
use Rattle.c_meanings.proofs.meanings.enumerated.Goals as goal

pub returns-in-Some-clause-gives : goal.returns-in-Some-clause-gives
returns-in-Some-clause-gives c = λ u s.
    let fits : FitsSigned w128 c.in-Some.value = search rules in
    ap (λ (n : ℤ). Some (Value n)) (to_z-of_z fits) ∙ value_seen (sense_in (senses_made u c.args.results.now) c.args.node) c.in-Some.value (sym (c.in-Some.ensures u))

pub returns-in-None-clause-gives : goal.returns-in-None-clause-gives
returns-in-None-clause-gives c = λ u s. no_value (sense_in (senses_made u c.args.results.now) c.args.node) (sym (c.in-None.ensures u))
