use Rattle.std.proofs.Common.{ℕ, List, ◌++◌, sym, ap, ◌∙◌}
use Rattle.c_senses.specs.Sense.{sense_in}
use Rattle.c_senses.specs.Statements as spec
use Rattle.c_results.specs.Standing.{senses_made}
use Rattle.tree_reads.specs.Sources.{source_in}
use Rattle.statement_rows.specs.Parts.{objects_at}
use Rattle.statement_rows.proofs.objects.for_objects.Goals as goal

pub returns-in-None-clause-objects : goal.returns-in-None-clause-objects
returns-in-None-clause-objects c = λ u w uses.
    let s = source_in c.args.syntax.now uses in
    let sense = sense_in (senses_made u c.args.results.now) in
    c.new-list.ensures.items ∙ ap (spec.for_objects w s sense) (sym c.in-None.is)

pub returns-in_ok-add_part-in-Some-clause-objects : goal.returns-in_ok-add_part-in-Some-clause-objects
returns-in_ok-add_part-in-Some-clause-objects c = λ u w uses.
    let s = source_in c.args.syntax.now uses in
    let sense = sense_in (senses_made u c.args.results.now) in
    c.in_ok-add_part-in-Some.ensures.added u w uses
    ∙ (ap (λ (l : List ℕ). l ++ objects_at w s sense c.in-Some.part) c.new-list.ensures.items ∙ ap (spec.for_objects w s sense) (sym c.in-Some.is))
