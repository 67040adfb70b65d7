use Rattle.std.proofs.Common.{ℕ, Bool, false, ◌&&◌, Option, Some, None, is_some, ap, ◌∙◌}
use Rattle.c_grammar.specs.Productions.{p_external, p_block}
use Rattle.core_nodes.specs.passed.c_senses.Tree.{is_a, child_of}
use Rattle.tree_reads.specs.Sources.{source_read}
use Rattle.c_entities.proofs.declaring.is_defined.Goals as goal

pub returns-in-Some : goal.returns-in-Some
returns-in-Some c = λ sense.
    let s = source_read c.args.syntax.now in
    c.is_definition.ensures ∙ ap (λ (o : Option ℕ). elim o as (λ x. Bool) [ None ↦ false | Some p ↦ is_a s p_external p && is_some (child_of s p_block p) ]) (c.in-Some.ensures.declaration sense)

pub returns-in-None : goal.returns-in-None
returns-in-None c = λ sense.
    let s = source_read c.args.syntax.now in
    ap (λ (o : Option ℕ). elim o as (λ x. Bool) [ None ↦ false | Some p ↦ is_a s p_external p && is_some (child_of s p_block p) ]) (c.in-None.ensures.declaration sense)
