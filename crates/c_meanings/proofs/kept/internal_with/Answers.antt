use Rattle.std.proofs.Common.{refl, sym, ◌∙◌}
use Rattle.c_senses.specs.Sense.{sense_in}
use Rattle.c_results.specs.Standing.{senses_made}
use Rattle.c_senses.specs.Entities.{takes_over}
use Rattle.tree_reads.specs.Sources.{source_in}
use Rattle.c_meanings.proofs.Tests.{and_then, and_else, or_then, or_else, and_turned}
use Rattle.c_meanings.proofs.kept.internal_with.Goals as goal

pub returns-then-is_static_at_file : goal.returns-then-is_static_at_file
returns-then-is_static_at_file c = λ u uses.
    let sense = sense_in (senses_made u c.args.results.now) in
    and_then _ _ _ _ (sym (c.requires.linked uses sense)) refl (or_then _ _ _ (c.is_static_at_file.ensures u uses) c.if-is_static_at_file.true)

pub returns-then-seen : goal.returns-then-seen
returns-then-seen c = λ u uses.
    let sense = sense_in (senses_made u c.args.results.now) in
    and_then _ _ _ _ (sym (c.requires.linked uses sense)) refl
    (or_else _ _ _ _ (c.is_static_at_file.ensures u uses) c.if-is_static_at_file.false (and_then _ _ _ _ refl c.if-seen.true (c.takes_over.ensures u uses) ∙ and_turned c.args.seen (takes_over (source_in c.args.syntax.now uses) sense c.args.leaf)))

pub returns-else-seen : goal.returns-else-seen
returns-else-seen c = λ u uses.
    let sense = sense_in (senses_made u c.args.results.now) in
    and_then _ _ _ _ (sym (c.requires.linked uses sense)) refl
    (or_else _ _ _ _ (c.is_static_at_file.ensures u uses) c.if-is_static_at_file.false (and_else c.args.seen (takes_over (source_in c.args.syntax.now uses) sense c.args.leaf) c.args.seen refl c.if-seen.false ∙ and_turned c.args.seen (takes_over (source_in c.args.syntax.now uses) sense c.args.leaf)))
