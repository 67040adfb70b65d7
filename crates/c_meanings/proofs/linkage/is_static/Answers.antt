use Rattle.std.proofs.Common.{◌≡◌, sym, ◌∙◌}
use Rattle.c_senses.specs.Sense.{sense_in}
use Rattle.c_senses.specs.Entities as spec
use Rattle.c_results.specs.Standing.{senses_made}
use Rattle.tree_reads.specs.Sources.{source_in}
use Rattle.c_meanings.proofs.Tests.{and_then, or_then}
use Rattle.c_meanings.proofs.linkage.is_static.Goals as goal

pub returns-then-is_linked : goal.returns-then-is_linked
returns-then-is_linked c = λ u uses e.
    let s = source_in c.args.syntax.now uses in
    let sense = sense_in (senses_made u c.args.results.now) in
    let it : c.is_static_at_file.result ≡ spec.is_internal s sense c.args.leaf =
    and_then _ _ _ _ (c.is_linked.ensures uses sense) c.if-is_linked.true (or_then _ _ _ (c.is_static_at_file.ensures u uses) e) in
    sym it ∙ e
