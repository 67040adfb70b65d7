use Rattle.std.proofs.Common.{ℕ, Bool, false, ◌&&◌, Option, Some, None, sym, ap, ◌∙◌}
use Rattle.c_senses.specs.Declarators.{is_defined_list}
use Rattle.c_senses.specs.Entities.{is_last_parameter}
use Rattle.c_senses.specs.Sense.{sense_in}
use Rattle.c_results.specs.Standing.{senses_made}
use Rattle.tree_reads.specs.Sources.{source_read}
use Rattle.name_places.proofs.lists.closes_list.Goals as goal

pub returns-then-is_defined_list : goal.returns-then-is_defined_list
returns-then-is_defined_list c = λ u w.
    let s = source_read c.args.syntax.now in
    let sense = sense_in (senses_made u c.args.results.now) in
    c.is_last_parameter.ensures w sense
    ∙ (ap (λ (b : Bool). b && is_last_parameter w s sense c.in-Some.list c.args.parameter) (sym c.if-is_defined_list.true ∙ c.is_defined_list.ensures u w)
    ∙ ap (λ (o : Option ℕ). elim o as (λ q. Bool) [ None ↦ false | Some list ↦ is_defined_list w s sense list && is_last_parameter w s sense list c.args.parameter ]) c.in-Some.ensures.parent)

pub returns-else-is_defined_list : goal.returns-else-is_defined_list
returns-else-is_defined_list c = λ u w.
    let s = source_read c.args.syntax.now in
    let sense = sense_in (senses_made u c.args.results.now) in
    c.if-is_defined_list.false
    ∙ (ap (λ (b : Bool). b && is_last_parameter w s sense c.in-Some.list c.args.parameter) (sym c.if-is_defined_list.false ∙ c.is_defined_list.ensures u w)
    ∙ ap (λ (o : Option ℕ). elim o as (λ q. Bool) [ None ↦ false | Some list ↦ is_defined_list w s sense list && is_last_parameter w s sense list c.args.parameter ]) c.in-Some.ensures.parent)
