use Rattle.std.proofs.Common.{◌≡◌, true, false, sym, ◌∙◌}
use Rattle.c_senses.specs.Sense.{sense_in}
use Rattle.c_results.specs.Standing.{senses_made}
use Rattle.tree_reads.specs.Sources.{source_in}
use Rattle.unit_names.proofs.Typed.{stored_internal, stored_own}
use Rattle.unit_names.proofs.storages.storage_at.Goals as goal

pub returns-then-not-internal : goal.returns-then-not-internal
returns-then-not-internal c = λ u uses place.
    let e : c.args.internal ≡ false = cc in
    c.storage_of.ensures u uses ∙ stored_own (source_in c.args.syntax.now uses) (senses_made u c.args.results.now) c.args.leaf (sym (c.requires.internal u uses) ∙ e)

pub returns : goal.returns
returns c = λ u uses place.
    let e : c.args.internal ≡ true = cc in
    let senses = senses_made u c.args.results.now in
    c.internal_storage.ensures
    ∙ stored_internal (source_in c.args.syntax.now uses) senses c.args.leaf c.args.at _ _ (sym (c.requires.internal u uses) ∙ e) place (c.storage_of-storage.ensures u uses) (c.declares_function.ensures uses (sense_in senses))
