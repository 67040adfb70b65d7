use Rattle.std.proofs.Common.{ℕ, Bool, false, Option, Some, None, option_and_then, ap, ◌∙◌}
use Rattle.c_senses.specs.Tree.{parent_of}
use Rattle.c_senses.specs.Sense.{sense_in}
use Rattle.c_senses.specs.Declarators.{is_defined_list}
use Rattle.c_senses.specs.Rows.{world_at}
use Rattle.c_results.specs.Standing.{senses_made}
use Rattle.tree_reads.specs.Sources.{source_in}
use Rattle.name_places.proofs.declaring.is_defined_parameter.Goals as goal

pub returns-in_default : goal.returns-in_default
returns-in_default c = λ u uses.
    let s = source_in c.args.syntax.now uses in
    let senses = senses_made u c.args.results.now in
    ap (λ (o : Option ℕ). elim (option_and_then (parent_of s) o) as (λ q. Bool) [ None ↦ false | Some suffix ↦ is_defined_list (world_at s senses suffix) s (sense_in senses) suffix ]) (c.in_default.ensures.declaration (sense_in senses))

pub returns-in-Some-parent_of : goal.returns-in-Some-parent_of
returns-in-Some-parent_of c = λ u uses.
    let s = source_in c.args.syntax.now uses in
    let senses = senses_made u c.args.results.now in
    c.is_defined_list.ensures u (world_at s senses c.in-Some-parent_of.suffix)
    ∙ ap (λ (o : Option ℕ). elim o as (λ q. Bool) [ None ↦ false | Some suffix ↦ is_defined_list (world_at s senses suffix) s (sense_in senses) suffix ]) (c.in-Some-parent_of.ensures.parent ∙ ap (λ (o : Option ℕ). option_and_then (parent_of s) o) (c.in-Some.ensures.declaration (sense_in senses)))

pub returns-in-None : goal.returns-in-None
returns-in-None c = λ u uses.
    let s = source_in c.args.syntax.now uses in
    let senses = senses_made u c.args.results.now in
    ap (λ (o : Option ℕ). elim o as (λ q. Bool) [ None ↦ false | Some suffix ↦ is_defined_list (world_at s senses suffix) s (sense_in senses) suffix ]) (c.in-None.ensures.parent ∙ ap (λ (o : Option ℕ). option_and_then (parent_of s) o) (c.in-Some.ensures.declaration (sense_in senses)))
