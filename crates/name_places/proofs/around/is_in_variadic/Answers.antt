use Rattle.std.proofs.Common.{ℕ, Bool, false, Option, Some, None, ap, ◌∙◌}
use Rattle.c_senses.specs.Entities.{is_variadic_definition}
use Rattle.c_senses.specs.Sense.{sense_in}
use Rattle.c_results.specs.Standing.{senses_made}
use Rattle.tree_reads.specs.Sources.{source_read}
use Rattle.name_places.proofs.around.is_in_variadic.Goals as goal

pub returns-in-Some : goal.returns-in-Some
returns-in-Some c = λ u.
    let s = source_read c.args.syntax.now in
    let sense = sense_in (senses_made u c.args.results.now) in
    c.is_variadic_definition.ensures u
    ∙ ap (λ (o : Option ℕ). elim o as (λ q. Bool) [ None ↦ false | Some p ↦ is_variadic_definition s sense p ]) c.in-Some.ensures.nearest
