use Rattle.c_senses.specs.Sense.{sense_in}
use Rattle.c_results.specs.Standing.{senses_made}
use Rattle.tree_reads.specs.Sources.{source_in}
use Rattle.c_senses.specs.Entities.{is_parameter, is_at_file, has_storage}
use Rattle.c_grammar.specs.Words.{word_extern, word_static}
use Rattle.statement_rows.proofs.Placing.{first_holds, second_holds, third_holds, last_answers}
use Rattle.statement_rows.proofs.objects.is_placed.Goals as goal

pub returns-then-is_parameter : goal.returns-then-is_parameter
returns-then-is_parameter c = λ u uses.
    let s = source_in c.args.syntax.now uses in
    let sense = sense_in (senses_made u c.args.results.now) in
    let leaf = c.args.leaf in
    first_holds (is_parameter s sense leaf) (is_at_file s sense leaf) (has_storage s sense word_static leaf) (has_storage s sense word_extern leaf) (c.if-is_parameter.ensures sense)

pub returns-then-is_at_file : goal.returns-then-is_at_file
returns-then-is_at_file c = λ u uses.
    let s = source_in c.args.syntax.now uses in
    let sense = sense_in (senses_made u c.args.results.now) in
    let leaf = c.args.leaf in
    second_holds (is_parameter s sense leaf) (is_at_file s sense leaf) (has_storage s sense word_static leaf) (has_storage s sense word_extern leaf) (c.if-is_at_file.ensures sense)

pub returns-then-has_storage : goal.returns-then-has_storage
returns-then-has_storage c = λ u uses.
    let s = source_in c.args.syntax.now uses in
    let sense = sense_in (senses_made u c.args.results.now) in
    let leaf = c.args.leaf in
    third_holds (is_parameter s sense leaf) (is_at_file s sense leaf) (has_storage s sense word_static leaf) (has_storage s sense word_extern leaf) (c.if-has_storage.ensures u)

pub returns : goal.returns
returns c = λ u uses.
    let s = source_in c.args.syntax.now uses in
    let sense = sense_in (senses_made u c.args.results.now) in
    let leaf = c.args.leaf in
    last_answers (is_parameter s sense leaf) (is_at_file s sense leaf) (has_storage s sense word_static leaf) (has_storage s sense word_extern leaf) c.has_storage-2.result (c.if-is_parameter.ensures sense) (c.if-is_at_file.ensures sense) (c.if-has_storage.ensures u) (c.has_storage-2.ensures u)
