use Rattle.std.proofs.Common.{ℕ, Option, option_and_then, ap, ◌∙◌}
use Rattle.c_senses.specs.Sense.{sense_in}
use Rattle.c_results.specs.Standing.{senses_made}
use Rattle.tree_reads.specs.Sources.{source_read}
use Rattle.c_senses.specs.Entities.{defined_name}
use Rattle.statement_rows.specs.Parts.{name_in}
use Rattle.statement_rows.proofs.returned.function_around.Goals as goal

pub returns : goal.returns
returns c = λ u.
    let s = source_read c.args.syntax.now in
    let sense = sense_in (senses_made u c.args.results.now) in
    c.name_at.ensures u
    ∙ (ap (λ (o : Option ℕ). option_and_then (λ d. name_in (sense d)) o) c.in_ok-declarator.ensures ∙ ap (λ (o : Option ℕ). option_and_then (defined_name s sense) o) c.in_ok-definition.ensures.nearest)
