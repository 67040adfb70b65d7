use Rattle.std.proofs.Common.{ℕ, ap, ◌∙◌}
use Rattle.c_senses.specs.Sense.{sense_in}
use Rattle.c_results.specs.Standing.{senses_made}
use Rattle.tree_reads.specs.Sources.{source_in}
use Rattle.unit_names.specs.Choosing.{first_such, is_definition}
use Rattle.unit_names.proofs.choosing.chosen.Goals as goal

pub returns-clause-chosen : goal.returns-clause-chosen
returns-clause-chosen c = λ u uses.
    let sense = sense_in (senses_made u c.args.results.now) in
    c.first_definition.ensures.first uses sense
    ∙ ap (λ (n : ℕ). first_such (is_definition (source_in c.args.syntax.now uses) sense) n c.args.list.now) (c.first_tentative-tentative.ensures.first u uses)
