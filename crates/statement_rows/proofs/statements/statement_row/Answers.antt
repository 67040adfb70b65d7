use Rattle.std.proofs.Common.{Bool, cond, get_or, sym, ap, ◌∙◌, subst}
use Rattle.c_grammar.specs.Productions.{p_expression}
use Rattle.c_senses.specs.Given.{Given, Fits}
use Rattle.c_senses.specs.Tree.{is_a}
use Rattle.c_senses.specs.Sense.{Sense, sense_in}
use Rattle.c_senses.specs.Statements as spec
use Rattle.c_results.specs.Standing.{senses_made, Rowed}
use Rattle.tree_reads.specs.Sources.{source_in}
use Rattle.statement_rows.specs.Words.{sensed}
use Rattle.statement_rows.proofs.Running.{begins}
use Rattle.statement_rows.proofs.statements.statement_row.Goals as goal

pub returns-then-is_leaf-clause-row : goal.returns-then-is_leaf-clause-row
returns-then-is_leaf-clause-row c = λ w uses knows told.
    let s = source_in c.args.syntax.now uses in
    let sense = sense_in (senses_made c.args.unit.now c.args.results.now) in
    let at = c.args.at in
    let children = c.args.children.now in
    let first = get_or children 0 0 in
    let leaf = sensed (spec.leaf_statement w s sense at first children) in
    let expression = sensed (spec.expression_statement w s sense at first) in
    let other : Given Sense = Fits (sense first) in
    let u = c.leaf_statement.new.unit in
    let made = c.made_of.ensures.row u (spec.leaf_statement w s sense at first children) (c.leaf_statement.ensures.made w uses knows told) in
    subst (λ (g : Given Sense). Rowed u c.made_of.result g) (begins w s sense at children (sym c.if-is_empty.ensures))
    (subst (λ (b : Bool). Rowed u c.made_of.result (cond b leaf (cond (is_a s p_expression first) expression other))) c.if-is_leaf.ensures made)

pub returns-then-is_a-clause-row : goal.returns-then-is_a-clause-row
returns-then-is_a-clause-row c = λ w uses knows told.
    let s = source_in c.args.syntax.now uses in
    let sense = sense_in (senses_made c.args.unit.now c.args.results.now) in
    let at = c.args.at in
    let children = c.args.children.now in
    let first = get_or children 0 0 in
    let leaf = sensed (spec.leaf_statement w s sense at first children) in
    let expression = sensed (spec.expression_statement w s sense at first) in
    let other : Given Sense = Fits (sense first) in
    let u = c.expression_row.new.unit in
    let made = c.made_of-then-is_a.ensures.row u (spec.expression_statement w s sense at first) (c.expression_row.ensures.made w s knows c.own_place-place.ensures) in
    subst (λ (g : Given Sense). Rowed u c.made_of-then-is_a.result g) (begins w s sense at children (sym c.if-is_empty.ensures))
    (subst (λ (b : Bool). Rowed u c.made_of-then-is_a.result (cond b leaf (cond (is_a s p_expression first) expression other))) c.if-is_leaf.ensures
    (subst (λ (b : Bool). Rowed u c.made_of-then-is_a.result (cond b expression other)) c.if-is_a.ensures made))

pub returns-in-Ok-clause-within : goal.returns-in-Ok-clause-within
returns-in-Ok-clause-within c = c.in-Ok.ensures.within c.args.unit.now c.requires.results

pub returns-in-Ok-clause-row : goal.returns-in-Ok-clause-row
returns-in-Ok-clause-row c = λ w uses knows told.
    let s = source_in c.args.syntax.now uses in
    let sense = sense_in (senses_made c.args.unit.now c.args.results.now) in
    let at = c.args.at in
    let children = c.args.children.now in
    let first = get_or children 0 0 in
    let leaf = sensed (spec.leaf_statement w s sense at first children) in
    let expression = sensed (spec.expression_statement w s sense at first) in
    let other : Given Sense = Fits (sense first) in
    sym (begins w s sense at children (sym c.if-is_empty.ensures))
    ∙ (sym (ap (λ (b : Bool). cond b leaf (cond (is_a s p_expression first) expression other)) c.if-is_leaf.ensures)
    ∙ (sym (ap (λ (b : Bool). cond b expression other) c.if-is_a.ensures) ∙ ap (λ (x : Sense). Fits x) (sym (c.in-Ok.ensures.sense c.args.unit.now))))
