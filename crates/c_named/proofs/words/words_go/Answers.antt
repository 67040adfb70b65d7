use Rattle.std.proofs.Common.{refl, ◌∙◌}
use Rattle.c_senses.specs.Sense.{sense_in}
use Rattle.c_results.specs.Standing.{senses_made}
use Rattle.tree_reads.specs.Sources.{source_in}
use Rattle.c_named.specs.declared.words.Wording.{Wording}
use Rattle.c_named.proofs.Judging.{words_are}
use Rattle.c_named.proofs.words.words_go.Goals as goal

pub returns : goal.returns
returns c = λ u w uses said.
    let s = source_in c.args.syntax.now uses in
    let sense = sense_in (senses_made u c.args.results.now) in
    let asked : Wording = record {
      initialised = c.args.initialised;
      is_typedef = c.args.said.now.is_typedef;
      is_function = c.args.said.now.is_function;
      at_file = c.is_at_file.result;
      in_for = c.is_in_for.result;
      defined = c.is_defined.result;
      for_function = c.has_function_words.result;
      is_static = c.has_storage-is_static.result;
      is_extern = c.has_storage-is_extern.result;
      without = c.is_without_storage.result;
    } in
    c.go_well.ensures
    ∙ words_are w s sense c.args.initialised c.args.leaf asked refl said.typedefs said.function (c.is_at_file.ensures sense) (c.is_in_for.ensures w sense) (c.is_defined.ensures sense) (c.has_function_words.ensures u w) (c.has_storage-is_static.ensures u) (c.has_storage-is_extern.ensures u) (c.is_without_storage.ensures u)
