use Rattle.std.proofs.Common.{sym, ◌∙◌}
use Rattle.std.specs.Prelude.{◌||◌}
use Rattle.c_grammar.specs.Words.{word_extern, word_static}
use Rattle.c_senses.specs.Entities.{is_at_file, has_storage}
use Rattle.c_senses.specs.Sense.{sense_in}
use Rattle.c_results.specs.Standing.{senses_made}
use Rattle.tree_reads.specs.Sources.{source_read}
use Rattle.c_initials.proofs.StorageLaws.{or_first, or_second}
use Rattle.c_initials.proofs.storage.is_static_object.Goals as goal

pub returns-then-is_at_file : goal.returns-then-is_at_file
returns-then-is_at_file c = λ u.
    let s = source_read c.args.syntax.now in
    let sense = sense_in (senses_made u c.args.results.now) in
    c.if-is_at_file.true ∙ or_first (is_at_file s sense c.args.leaf) (has_storage s sense word_static c.args.leaf || has_storage s sense word_extern c.args.leaf) (c.if-is_at_file.ensures sense)

pub returns-then-has_storage : goal.returns-then-has_storage
returns-then-has_storage c = λ u.
    let s = source_read c.args.syntax.now in
    let sense = sense_in (senses_made u c.args.results.now) in
    c.if-has_storage.true ∙ or_first (has_storage s sense word_static c.args.leaf) (has_storage s sense word_extern c.args.leaf) (c.if-has_storage.ensures u)
    ∙ sym (or_second (is_at_file s sense c.args.leaf) (has_storage s sense word_static c.args.leaf || has_storage s sense word_extern c.args.leaf) (c.if-is_at_file.ensures sense))

pub returns-else-has_storage : goal.returns-else-has_storage
returns-else-has_storage c = λ u.
    let s = source_read c.args.syntax.now in
    let sense = sense_in (senses_made u c.args.results.now) in
    c.has_storage-else-has_storage.ensures u
    ∙ sym (or_second (has_storage s sense word_static c.args.leaf) (has_storage s sense word_extern c.args.leaf) (c.if-has_storage.ensures u))
    ∙ sym (or_second (is_at_file s sense c.args.leaf) (has_storage s sense word_static c.args.leaf || has_storage s sense word_extern c.args.leaf) (c.if-is_at_file.ensures sense))
