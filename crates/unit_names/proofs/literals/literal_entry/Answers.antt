use Rattle.c_results.specs.Standing.{senses_made}
use Rattle.tree_reads.specs.Sources.{source_in}
use Rattle.unit_names.proofs.Parts.{same_entry}
use Rattle.unit_names.proofs.literals.literal_entry.Goals as goal

pub returns-clause-entry : goal.returns-clause-entry
returns-clause-entry c = λ u uses.
    same_entry (source_in c.args.syntax.now uses) (senses_made u c.args.results.now) c.args.literal _ _ _ _ c.in_ok-name.ensures c.place_of.ensures (c.literal_storage.ensures u uses) (c.literal_owner.ensures u uses)
