use Rattle.std.proofs.Common.{ℕ, Bool, false, Option, Some, None, option_and_then, ap, ◌∙◌}
use Rattle.c_grammar.specs.Productions.{p_statement}
use Rattle.c_senses.specs.Tree.{is_a, parent_of}
use Rattle.tree_reads.specs.Sources.{source_read}
use Rattle.name_places.proofs.declaring.is_in_for.Goals as goal

pub returns-in_default : goal.returns-in_default
returns-in_default c = λ w sense.
    let s = source_read c.args.syntax.now in
    ap (λ (o : Option ℕ). elim (option_and_then (parent_of s) o) as (λ q. Bool) [ None ↦ false | Some p ↦ is_a s p_statement p ]) (c.in_default.ensures.declaration sense)

pub returns-in-Some-parent_of : goal.returns-in-Some-parent_of
returns-in-Some-parent_of c = λ w sense.
    let s = source_read c.args.syntax.now in
    c.is_a.ensures
    ∙ ap (λ (o : Option ℕ). elim o as (λ q. Bool) [ None ↦ false | Some p ↦ is_a s p_statement p ]) (c.in-Some-parent_of.ensures.parent ∙ ap (λ (o : Option ℕ). option_and_then (parent_of s) o) (c.in-Some.ensures.declaration sense))

pub returns-in-None : goal.returns-in-None
returns-in-None c = λ w sense.
    let s = source_read c.args.syntax.now in
    ap (λ (o : Option ℕ). elim o as (λ q. Bool) [ None ↦ false | Some p ↦ is_a s p_statement p ]) (c.in-None.ensures.parent ∙ ap (λ (o : Option ℕ). option_and_then (parent_of s) o) (c.in-Some.ensures.declaration sense))
