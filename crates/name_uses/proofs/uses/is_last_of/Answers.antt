use Rattle.std.proofs.Common.{Bool, ◌&&◌, ap, ◌∙◌}
use Rattle.c_senses.specs.Entities.{closes_list}
use Rattle.c_senses.specs.Sense.{sense_in}
use Rattle.c_results.specs.Standing.{senses_made}
use Rattle.tree_reads.specs.Sources.{source_in}
use Rattle.name_uses.proofs.uses.is_last_of.Goals as goal

pub returns-then-is_a : goal.returns-then-is_a
returns-then-is_a c = λ u w uses.
    let s = source_in c.args.syntax.now uses in
    let sense = sense_in (senses_made u c.args.results.now) in
    c.closes_list.ensures u w ∙ ap (λ (b : Bool). b && closes_list w s sense c.args.parameter) c.if-is_a.ensures

pub returns-else-is_a : goal.returns-else-is_a
returns-else-is_a c = λ u w uses.
    let s = source_in c.args.syntax.now uses in
    let sense = sense_in (senses_made u c.args.results.now) in
    c.if-is_a.false ∙ ap (λ (b : Bool). b && closes_list w s sense c.args.parameter) c.if-is_a.ensures
