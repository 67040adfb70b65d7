use Rattle.std.proofs.Common.{◌≡◌, Bool, not, ◌&&◌, ap, ◌∙◌}
use Rattle.c_senses.specs.Sense.{sense_in}
use Rattle.c_senses.specs.Entities.{storage_of, is_automatic_storage}
use Rattle.c_results.specs.Standing.{senses_made}
use Rattle.tree_reads.specs.Sources.{source_in}
use Rattle.name_uses.proofs.uses.may_name.Goals as goal

pub returns-then-not-is_in_static : goal.returns-then-not-is_in_static
returns-then-not-is_in_static c = λ u uses.
    let s = source_in c.args.syntax.now uses in
    let sense = sense_in (senses_made u c.args.results.now) in
    ap (λ (b : Bool). not (b && is_automatic_storage s sense (storage_of s sense c.args.entity))) (c.if-not-is_in_static.ensures u)

pub returns : goal.returns
returns c = λ u uses.
    let s = source_in c.args.syntax.now uses in
    let sense = sense_in (senses_made u c.args.results.now) in
    let automatic : c.is_automatic.result ≡ is_automatic_storage s sense (storage_of s sense c.args.entity) =
    c.is_automatic.ensures s sense ∙ ap (is_automatic_storage s sense) (c.storage_of.ensures u uses) in
    ap not automatic ∙ ap (λ (b : Bool). not (b && is_automatic_storage s sense (storage_of s sense c.args.entity))) (c.if-not-is_in_static.ensures u)
