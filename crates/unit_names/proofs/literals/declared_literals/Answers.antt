use Rattle.std.proofs.Common.{List, map, ap, ◌∙◌}
use Rattle.c_results.specs.Standing.{senses_made}
use Rattle.tree_reads.specs.Sources.{source_in}
use Rattle.std.proofs.lemmas.Result.{IfOk-weaker}
use Rattle.unit_finish.specs.declared.unit_parts.literals.LiteralAt.{LiteralAt}
use Rattle.unit_finish.specs.Walked.{literal_entry}
use Rattle.unit_names.proofs.literals.declared_literals.Goals as goal

pub returns-clause-entries : goal.returns-clause-entries
returns-clause-entries c = λ u uses.
    let f = literal_entry (source_in c.args.syntax.now uses) (senses_made u c.args.results.now) in
    IfOk-weaker c.literal_entries.result _ _ (λ list h. h ∙ ap (λ (l : List LiteralAt). map f l) (c.as_slice.ensures.value ∙ c.in_ok-literals.ensures)) (c.literal_entries.ensures.entries u uses)
