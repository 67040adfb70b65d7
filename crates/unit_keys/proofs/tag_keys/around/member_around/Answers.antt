use Rattle.std.proofs.Common.{◌∙◌, ℕ, Bool, Option, Some, None, cond, sym, ap}
use Rattle.std.specs.Prelude.{option_and_then}
use Rattle.c_grammar.specs.Productions.{p_member}
use Rattle.c_senses.specs.Tree.{Source, is_a}
use Rattle.tree_reads.specs.Sources.{source_in}
use Rattle.unit_keys.proofs.tag_keys.around.member_around.Goals as goal

if_member : Source → ℕ → Option ℕ
if_member s p = cond (is_a s p_member p) (Some p) None

pub returns-then-is_a-clause-around : goal.returns-then-is_a-clause-around
unfolding if_member
returns-then-is_a-clause-around c = λ uses sense.
    let s : Source = source_in c.args.syntax.now uses in
    let d = c.in-Some.declaration in
    ap (λ (b : Bool). cond b (Some d) None) c.if-is_a.ensures ∙ ap (option_and_then (if_member s)) (sym c.in-Some.is ∙ c.declaration_with.ensures.with uses sense)

pub returns-else-is_a-clause-around : goal.returns-else-is_a-clause-around
unfolding if_member
returns-else-is_a-clause-around c = λ uses sense.
    let s : Source = source_in c.args.syntax.now uses in
    let d = c.in-Some.declaration in
    ap (λ (b : Bool). cond b (Some d) None) c.if-is_a.ensures ∙ ap (option_and_then (if_member s)) (sym c.in-Some.is ∙ c.declaration_with.ensures.with uses sense)

pub returns-in-None-clause-around : goal.returns-in-None-clause-around
unfolding if_member
returns-in-None-clause-around c = λ uses sense.
    let s : Source = source_in c.args.syntax.now uses in
    ap (option_and_then (if_member s)) (sym c.in-None.is ∙ c.declaration_with.ensures.with uses sense)
