use Rattle.std.proofs.Common.{ℕ, Bool, false, Option, Some, None, option_and_then, ap, ◌∙◌}
use Rattle.c_senses.specs.Tree.{parent_of}
use Rattle.c_senses.specs.Declarators.{is_defined_list}
use Rattle.c_senses.specs.Sense.{sense_in}
use Rattle.c_results.specs.Standing.{senses_made}
use Rattle.tree_reads.specs.Sources.{source_read}
use Rattle.name_places.proofs.lists.is_listed_parameter.Goals as goal

pub returns-in-Some-parent_of : goal.returns-in-Some-parent_of
returns-in-Some-parent_of c = λ u w.
    let s = source_read c.args.syntax.now in
    let sense = sense_in (senses_made u c.args.results.now) in
    c.is_defined_list.ensures u w
    ∙ ap (λ (o : Option ℕ). elim o as (λ q. Bool) [ None ↦ false | Some suffix ↦ is_defined_list w s sense suffix ]) (c.in-Some-parent_of.ensures.parent ∙ ap (λ (o : Option ℕ). option_and_then (parent_of s) o) c.in-Some.ensures.parent)
