use Rattle.std.proofs.Common.{ℕ, Bool, false, ◌&&◌, ◌||◌, Option, Some, None, ap, ◌∙◌}
use Rattle.c_grammar.specs.Productions.{p_external, p_declaration, p_parameter}
use Rattle.c_senses.specs.Tree.{is_a}
use Rattle.c_senses.specs.Sense.{sense_in}
use Rattle.c_senses.specs.Right.{is_defined_parameter}
use Rattle.c_results.specs.Standing.{senses_made}
use Rattle.tree_reads.specs.Sources.{source_in}
use Rattle.name_places.proofs.declaring.stands_in_declaration.Goals as goal

pub returns-in_default : goal.returns-in_default
returns-in_default c = λ u uses.
    let s = source_in c.args.syntax.now uses in
    let senses = senses_made u c.args.results.now in
    ap (λ (o : Option ℕ). elim o as (λ q. Bool) [ None ↦ false | Some p ↦ is_a s p_external p || (is_a s p_declaration p || (is_a s p_parameter p && is_defined_parameter s senses c.args.leaf)) ]) (c.in_default.ensures.declaration (sense_in senses))

pub returns : goal.returns
returns c = λ u uses.
    let s = source_in c.args.syntax.now uses in
    let senses = senses_made u c.args.results.now in
    let p = c.in-Some.declaration in
    c.is_kept.ensures
    ∙ (ap (λ (b : Bool). b || (c.is_a-plain.result || (c.is_a-parameter.result && c.is_defined_parameter-defined.result))) c.is_a-external.ensures
    ∙ (ap (λ (b : Bool). is_a s p_external p || (b || (c.is_a-parameter.result && c.is_defined_parameter-defined.result))) c.is_a-plain.ensures
    ∙ (ap (λ (b : Bool). is_a s p_external p || (is_a s p_declaration p || (b && c.is_defined_parameter-defined.result))) c.is_a-parameter.ensures
    ∙ (ap (λ (b : Bool). is_a s p_external p || (is_a s p_declaration p || (is_a s p_parameter p && b))) (c.is_defined_parameter-defined.ensures u uses)
    ∙ ap (λ (o : Option ℕ). elim o as (λ q. Bool) [ None ↦ false | Some d ↦ is_a s p_external d || (is_a s p_declaration d || (is_a s p_parameter d && is_defined_parameter s senses c.args.leaf)) ]) (c.in-Some.ensures.declaration (sense_in senses))))))
