use Rattle.std.proofs.Common.{ap, ◌∙◌}
use Rattle.c_results.specs.Standing.{senses_made}
use Rattle.tree_reads.specs.Sources.{source_in}
use Rattle.c_senses.specs.Tree.{place_at}
use Rattle.c_senses.specs.Right as right
use Rattle.unit_names.proofs.Parts.{same_parts}
use Rattle.unit_names.proofs.declared.declared_as.Goals as goal

pub returns-clause-seen : goal.returns-clause-seen
returns-clause-seen c = λ u uses.
    let s = source_in c.args.syntax.now uses in
    let senses = senses_made u c.args.results.now in
    let place = c.in_ok-at.ensures.representative u uses in
    same_parts _ _ _ _ _ _ _ _ _ _ _ _ _ c.in_ok-name.ensures.name (c.place_of.ensures ∙ ap (place_at s) place) (c.linkage_by-linkage.ensures u uses) (c.storage_at.ensures u uses place) (c.owner_at.ensures u uses)
    (c.body_at.ensures.seen u uses ∙ ap (right.body_at s senses) place)
