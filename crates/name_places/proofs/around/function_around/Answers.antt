use Rattle.std.proofs.Common.{ℕ, Option, option_and_then, ap, ◌∙◌}
use Rattle.c_senses.specs.Sense.{sense_in}
use Rattle.c_results.specs.Standing.{senses_made}
use Rattle.tree_reads.specs.Sources.{source_read}
use Rattle.c_senses.specs.Entities.{defined_name}
use Rattle.name_places.proofs.around.function_around.Goals as goal

pub returns-in-Some-clause-name : goal.returns-in-Some-clause-name
returns-in-Some-clause-name c = λ u.
    let s = source_read c.args.syntax.now in
    let sense = sense_in (senses_made u c.args.results.now) in
    c.defined_name.ensures.name u ∙ ap (λ (o : Option ℕ). option_and_then (defined_name s sense) o) c.in-Some.ensures.nearest

pub returns-in-None-clause-name : goal.returns-in-None-clause-name
returns-in-None-clause-name c = λ u.
    let s = source_read c.args.syntax.now in
    let sense = sense_in (senses_made u c.args.results.now) in
    ap (λ (o : Option ℕ). option_and_then (defined_name s sense) o) c.in-None.ensures.nearest
