use Rattle.std.proofs.Common.{Bool, ◌||◌, ap, ◌∙◌}
use Rattle.c_grammar.specs.Words.{word_static}
use Rattle.c_senses.specs.Sense.{sense_in}
use Rattle.c_results.specs.Standing.{senses_made}
use Rattle.tree_reads.specs.Sources.{source_read}
use Rattle.c_senses.specs.Entities as spec
use Rattle.name_places.proofs.statics.is_static_object.Goals as goal

pub returns : goal.returns
returns c = λ u.
    let s = source_read c.args.syntax.now in
    let sense = sense_in (senses_made u c.args.results.now) in
    let leaf = c.args.leaf in
    c.any_of.ensures
    ∙ (ap (λ (b : Bool). b || (c.has_storage-is_static.result || c.has_storage-is_extern.result)) (c.is_at_file-at_file.ensures sense)
    ∙ (ap (λ (b : Bool). spec.is_at_file s sense leaf || (b || c.has_storage-is_extern.result)) (c.has_storage-is_static.ensures u)
    ∙ ap (λ (b : Bool). spec.is_at_file s sense leaf || (spec.has_storage s sense word_static leaf || b)) (c.has_storage-is_extern.ensures u)))
