use Rattle.std.proofs.Common.{ap, ◌∙◌, Bool, if◌then◌else◌}
use Rattle.c_senses.specs.Sense.{sense_in}
use Rattle.c_senses.specs.Entities.{storage_of, is_automatic_storage}
use Rattle.c_senses.specs.Initialised.{is_in_body}
use Rattle.c_results.specs.Standing.{senses_made}
use Rattle.tree_reads.specs.Sources.{source_read}
use Rattle.c_initials.proofs.storage.is_automatic.Goals as goal

pub returns-then-is_name : goal.returns-then-is_name
returns-then-is_name c = λ u w functions.
    let s = source_read c.args.scope.now.syntax.now in
    let sense = sense_in (senses_made u c.args.scope.now.results.now) in
    c.is_automatic_name.ensures u functions
    ∙ ap (λ (b : Bool). if b then is_automatic_storage s sense (storage_of s sense c.args.entity) else is_in_body w s sense c.args.entity) c.if-is_name.ensures

pub returns-else-is_name : goal.returns-else-is_name
returns-else-is_name c = λ u w functions.
    let s = source_read c.args.scope.now.syntax.now in
    let sense = sense_in (senses_made u c.args.scope.now.results.now) in
    c.is_in_body.ensures w sense
    ∙ ap (λ (b : Bool). if b then is_automatic_storage s sense (storage_of s sense c.args.entity) else is_in_body w s sense c.args.entity) c.if-is_name.ensures
