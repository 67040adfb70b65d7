use Rattle.std.proofs.Common.{Bool, ◌&&◌, ap, ◌∙◌}
use Rattle.c_senses.specs.Entities.{is_in_variadic}
use Rattle.c_senses.specs.Sense.{sense_in}
use Rattle.c_results.specs.Standing.{senses_made}
use Rattle.tree_reads.specs.Sources.{source_in}
use Rattle.name_uses.proofs.uses.is_further.Goals as goal

pub returns-then-is_last_of : goal.returns-then-is_last_of
returns-then-is_last_of c = λ u w uses.
    let s = source_in c.args.syntax.now uses in
    let sense = sense_in (senses_made u c.args.results.now) in
    c.is_in_variadic.ensures u ∙ ap (λ (b : Bool). b && is_in_variadic s sense c.args.leaf) (c.if-is_last_of.ensures u w uses)

pub returns-else-is_last_of : goal.returns-else-is_last_of
returns-else-is_last_of c = λ u w uses.
    let s = source_in c.args.syntax.now uses in
    let sense = sense_in (senses_made u c.args.results.now) in
    c.if-is_last_of.false ∙ ap (λ (b : Bool). b && is_in_variadic s sense c.args.leaf) (c.if-is_last_of.ensures u w uses)
