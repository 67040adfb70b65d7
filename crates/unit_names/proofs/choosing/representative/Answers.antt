use Rattle.std.proofs.Common.{◌≡◌, true, false, ap, sym, ◌∙◌}
use Rattle.c_senses.specs.Sense.{sense_in}
use Rattle.c_results.specs.Standing.{senses_made}
use Rattle.tree_reads.specs.Sources.{source_in}
use Rattle.unit_names.specs.Choosing as choice
use Rattle.unit_names.proofs.Places.{place_internal, place_own}
use Rattle.unit_names.proofs.choosing.representative.Goals as goal

pub returns-then-not-internal-clause-representative : goal.returns-then-not-internal-clause-representative
returns-then-not-internal-clause-representative c = λ u uses.
    let e : c.args.internal ≡ false = cc in
    place_own (source_in c.args.syntax.now uses) (senses_made u c.args.results.now) c.args.leaf (sym (c.requires.internal u uses) ∙ e)

pub returns-clause-representative : goal.returns-clause-representative
returns-clause-representative c = λ u uses.
    let s = source_in c.args.syntax.now uses in
    let senses = senses_made u c.args.results.now in
    let e : c.args.internal ≡ true = cc in
    c.chosen.ensures.chosen u uses
    ∙ (ap (choice.chosen s (sense_in senses) c.args.leaf) (c.as_slice.ensures.value ∙ c.in_ok-list.ensures.leaves u uses)
    ∙ place_internal s senses c.args.leaf (sym (c.requires.internal u uses) ∙ e))
