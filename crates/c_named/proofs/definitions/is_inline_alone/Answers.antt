use Rattle.std.proofs.Common.{Bool, ◌&&◌, not, ap, ◌∙◌}
use Rattle.c_grammar.specs.Words.{word_inline}
use Rattle.c_senses.specs.Sense.{sense_in}
use Rattle.c_results.specs.Standing.{senses_made}
use Rattle.c_senses.specs.Entities as spec
use Rattle.tree_reads.specs.Sources.{source_read}
use Rattle.c_named.proofs.definitions.is_inline_alone.Goals as goal

pub returns : goal.returns
returns c = λ u.
    let s = source_read c.args.syntax.now in
    let sense = sense_in (senses_made u c.args.results.now) in
    c.without.ensures
    ∙ (ap (λ (b : Bool). b && not c.has_storage-is_static.result) (c.has_function_word-inline.ensures u)
    ∙ ap (λ (b : Bool). spec.has_function_word s sense word_inline c.args.leaf && not b) (c.has_storage-is_static.ensures u))
