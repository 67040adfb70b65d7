use Rattle.std.proofs.Common.{◌∙◌}
use Rattle.c_senses.specs.Sense.{sense_in}
use Rattle.c_results.specs.Standing.{senses_made}
use Rattle.tree_reads.specs.Sources.{source_in}
use Rattle.c_senses.specs.Entities.{is_at_file, has_storage}
use Rattle.c_grammar.specs.Words.{word_static}
use Rattle.c_meanings.proofs.Tests.{and_then, and_else, and_turned}
use Rattle.c_meanings.proofs.statics.is_static_at_file.Goals as goal

pub returns-then-has_storage : goal.returns-then-has_storage
returns-then-has_storage c = λ u uses.
    let s = source_in c.args.syntax.now uses in
    let sense = sense_in (senses_made u c.args.results.now) in
    and_then _ _ _ _ (c.has_storage.ensures u) c.if-has_storage.true (c.is_at_file.ensures sense) ∙ and_turned (has_storage s sense word_static c.args.leaf) (is_at_file s sense c.args.leaf)

pub returns-else-has_storage : goal.returns-else-has_storage
returns-else-has_storage c = λ u uses.
    let s = source_in c.args.syntax.now uses in
    let sense = sense_in (senses_made u c.args.results.now) in
    and_else (has_storage s sense word_static c.args.leaf) (is_at_file s sense c.args.leaf) _ (c.has_storage.ensures u) c.if-has_storage.false ∙ and_turned (has_storage s sense word_static c.args.leaf) (is_at_file s sense c.args.leaf)
