use Rattle.std.proofs.Common.{ℕ, Option, option_and_then, ap, ◌∙◌}
use Rattle.c_senses.specs.Sense.{sense_in}
use Rattle.c_results.specs.Standing.{senses_made}
use Rattle.name_places.specs.Named.{name_within}
use Rattle.name_places.proofs.around.defined_name.Goals as goal

pub returns-in-Some-clause-name : goal.returns-in-Some-clause-name
returns-in-Some-clause-name c = λ u.
    let sense = sense_in (senses_made u c.args.results.now) in
    c.declared_name.ensures.name u ∙ ap (λ (o : Option ℕ). option_and_then (λ d. name_within (sense d)) o) c.in-Some.ensures
