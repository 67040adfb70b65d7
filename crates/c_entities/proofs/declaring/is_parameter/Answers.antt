use Rattle.std.proofs.Common.{ℕ, Bool, false, Option, Some, None, ap, ◌∙◌}
use Rattle.c_grammar.specs.Productions.{p_parameter}
use Rattle.core_nodes.specs.passed.c_senses.Tree.{is_a}
use Rattle.tree_reads.specs.Sources.{source_read}
use Rattle.c_entities.proofs.declaring.is_parameter.Goals as goal

pub returns-in-Some : goal.returns-in-Some
returns-in-Some c = λ sense. c.is_a.ensures ∙ ap (λ (o : Option ℕ). elim o as (λ x. Bool) [ None ↦ false | Some p ↦ is_a (source_read c.args.syntax.now) p_parameter p ]) (c.in-Some.ensures.declaration sense)

pub returns-in-None : goal.returns-in-None
returns-in-None c = λ sense. ap (λ (o : Option ℕ). elim o as (λ x. Bool) [ None ↦ false | Some p ↦ is_a (source_read c.args.syntax.now) p_parameter p ]) (c.in-None.ensures.declaration sense)
