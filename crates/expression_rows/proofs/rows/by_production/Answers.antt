use Rattle.std.proofs.Common.{◌≡◌, ◌≢◌, ◌∙◌, ◌<◌, ℕ, false, true, List, length, get_or, drop, sym, subst, refl}
use Rattle.std.specs.Option.{option_copied}
use Rattle.c_lexer.specs.declared.TokenKind.TheVariants.{Identifier}
use Rattle.c_senses.specs.Given.{Given}
use Rattle.c_senses.specs.Tree.{kind_at}
use Rattle.c_senses.specs.World.{World}
use Rattle.c_senses.specs.Sense.{Sense, sense_in}
use Rattle.c_results.specs.Standing.{senses_made, Rowed}
use Rattle.tree_reads.specs.Sources.{source_read}
use Rattle.parsed_tree_laws.proofs.sense_laws.row_trees.Expressions.{post_rows, cast_row_rows, conditional_rows, assignment_rows, binary_rows}
use Rattle.expression_rows.proofs.whole_rows.Keeping.{sense_rows}
use Rattle.expression_rows.proofs.whole_rows.Prefixes.{made_rows}
use Rattle.expression_rows.specs.Built.{built_row}
use Rattle.expression_rows.proofs.Productions.{chain_row, other_row, first_fits}
use Rattle.expression_rows.proofs.Keeping.{named_world, named_knows, named_calls, named_values, identifier_fits, primary_kept}
use Rattle.expression_rows.proofs.rows.by_production.Goals as goal

pub returns-then-production-eq-PRIMARY-clause-built : goal.returns-then-production-eq-PRIMARY-clause-built
returns-then-production-eq-PRIMARY-clause-built c w k fit =
    let u = c.args.unit.now in
    let u1 = c.primary_row.new.unit in
    let s = source_read c.args.syntax.now in
    let S = sense_in (senses_made u c.args.results.now) in
    let at = c.args.at in
    let xs = c.args.children.now in
    subst (λ (p : ℕ). Rowed u1 c.primary_row.result (built_row w s S p at xs)) (sym c.if-production-eq-PRIMARY.true) (c.primary_row.ensures.row w k (first_fits w u s S c.args.around.now xs (fit.primary c.if-production-eq-PRIMARY.true)))

pub returns-then-production-eq-POST-clause-built : goal.returns-then-production-eq-POST-clause-built
returns-then-production-eq-POST-clause-built c w k fit =
    let u = c.args.unit.now in
    let u1 = c.post_row.new.unit in
    let s = source_read c.args.syntax.now in
    let S = sense_in (senses_made u c.args.results.now) in
    let at = c.args.at in
    let xs = c.args.children.now in
    subst (λ (p : ℕ). Rowed u1 c.post_row.result (built_row w s S p at xs)) (sym c.if-production-eq-POST.true) (c.post_row.ensures.row w k (fit.post c.if-production-eq-POST.true))

pub returns-then-production-eq-UNARY-clause-built : goal.returns-then-production-eq-UNARY-clause-built
returns-then-production-eq-UNARY-clause-built c w k fit =
    let u = c.args.unit.now in
    let u1 = c.unary_row.new.unit in
    let s = source_read c.args.syntax.now in
    let S = sense_in (senses_made u c.args.results.now) in
    let at = c.args.at in
    let xs = c.args.children.now in
    subst (λ (p : ℕ). Rowed u1 c.unary_row.result (built_row w s S p at xs)) (sym c.if-production-eq-UNARY.true) (c.unary_row.ensures.row w k)

pub returns-then-production-eq-CAST-clause-built : goal.returns-then-production-eq-CAST-clause-built
returns-then-production-eq-CAST-clause-built c w k fit =
    let u = c.args.unit.now in
    let u1 = c.cast_row.new.unit in
    let s = source_read c.args.syntax.now in
    let S = sense_in (senses_made u c.args.results.now) in
    let at = c.args.at in
    let xs = c.args.children.now in
    subst (λ (p : ℕ). Rowed u1 c.cast_row.result (built_row w s S p at xs)) (sym c.if-production-eq-CAST.true) (c.cast_row.ensures.row w k)

pub returns-then-production-eq-CONDITIONAL-clause-built : goal.returns-then-production-eq-CONDITIONAL-clause-built
returns-then-production-eq-CONDITIONAL-clause-built c w k fit =
    let u = c.args.unit.now in
    let u1 = c.conditional_row.new.unit in
    let s = source_read c.args.syntax.now in
    let S = sense_in (senses_made u c.args.results.now) in
    let at = c.args.at in
    let xs = c.args.children.now in
    subst (λ (p : ℕ). Rowed u1 c.conditional_row.result (built_row w s S p at xs)) (sym c.if-production-eq-CONDITIONAL.true) (c.conditional_row.ensures.row w k)

pub returns-then-production-eq-ASSIGNMENT-clause-built : goal.returns-then-production-eq-ASSIGNMENT-clause-built
returns-then-production-eq-ASSIGNMENT-clause-built c w k fit =
    let u = c.args.unit.now in
    let u1 = c.assignment_row.new.unit in
    let s = source_read c.args.syntax.now in
    let S = sense_in (senses_made u c.args.results.now) in
    let at = c.args.at in
    let xs = c.args.children.now in
    subst (λ (p : ℕ). Rowed u1 c.assignment_row.result (built_row w s S p at xs)) (sym c.if-production-eq-ASSIGNMENT.true) (c.assignment_row.ensures.row w k)

pub returns-then-production-eq-PRIMARY-clause-rows : goal.returns-then-production-eq-PRIMARY-clause-rows
returns-then-production-eq-PRIMARY-clause-rows c =
    let u = c.args.unit.now in
    let u1 = c.primary_row.new.unit in
    let s = source_read c.args.syntax.now in
    let S = sense_in (senses_made u c.args.results.now) in
    let at = c.args.at in
    let xs = c.args.children.now in
    let w = named_world u c.args.around.now.first c.args.around.now.may_call (option_copied c.args.around.now.own_name) c.args.around.now.further in
    let knows = named_knows u c.args.around.now.may_call (option_copied c.args.around.now.own_name) c.args.around.now.further c.args.around.now.first in
    let sound = sense_rows u c.args.results.now c.requires.rows in
    made_rows u1 c.primary_row.result _ (c.primary_row.ensures.row w knows (λ some kind. identifier_fits u s S (get_or xs 0 0) (drop 1 xs) c.args.around.now)) (primary_kept w s S sound (named_values u c.args.around.now.may_call (option_copied c.args.around.now.own_name) c.args.around.now.further c.args.around.now.first c.requires.around) at xs)

pub returns-then-production-eq-POST-clause-rows : goal.returns-then-production-eq-POST-clause-rows
returns-then-production-eq-POST-clause-rows c =
    let u = c.args.unit.now in
    let u1 = c.post_row.new.unit in
    let s = source_read c.args.syntax.now in
    let S = sense_in (senses_made u c.args.results.now) in
    let at = c.args.at in
    let xs = c.args.children.now in
    let w = named_world u c.args.around.now.first c.args.around.now.may_call (option_copied c.args.around.now.own_name) c.args.around.now.further in
    let knows = named_knows u c.args.around.now.may_call (option_copied c.args.around.now.own_name) c.args.around.now.further c.args.around.now.first in
    let sound = sense_rows u c.args.results.now c.requires.rows in
    made_rows u1 c.post_row.result _ (c.post_row.ensures.row w knows (named_calls u c.args.around.now.may_call (option_copied c.args.around.now.own_name) c.args.around.now.further c.args.around.now.first)) (post_rows w s S sound at xs)

pub returns-then-production-eq-CAST-clause-rows : goal.returns-then-production-eq-CAST-clause-rows
returns-then-production-eq-CAST-clause-rows c =
    let u = c.args.unit.now in
    let u1 = c.cast_row.new.unit in
    let s = source_read c.args.syntax.now in
    let S = sense_in (senses_made u c.args.results.now) in
    let at = c.args.at in
    let xs = c.args.children.now in
    let w = named_world u c.args.around.now.first c.args.around.now.may_call (option_copied c.args.around.now.own_name) c.args.around.now.further in
    let knows = named_knows u c.args.around.now.may_call (option_copied c.args.around.now.own_name) c.args.around.now.further c.args.around.now.first in
    let sound = sense_rows u c.args.results.now c.requires.rows in
    made_rows u1 c.cast_row.result _ (c.cast_row.ensures.row w knows) (cast_row_rows w s S sound at xs)

pub returns-then-production-eq-CONDITIONAL-clause-rows : goal.returns-then-production-eq-CONDITIONAL-clause-rows
returns-then-production-eq-CONDITIONAL-clause-rows c =
    let u = c.args.unit.now in
    let u1 = c.conditional_row.new.unit in
    let s = source_read c.args.syntax.now in
    let S = sense_in (senses_made u c.args.results.now) in
    let at = c.args.at in
    let xs = c.args.children.now in
    let w = named_world u c.args.around.now.first c.args.around.now.may_call (option_copied c.args.around.now.own_name) c.args.around.now.further in
    let knows = named_knows u c.args.around.now.may_call (option_copied c.args.around.now.own_name) c.args.around.now.further c.args.around.now.first in
    let sound = sense_rows u c.args.results.now c.requires.rows in
    made_rows u1 c.conditional_row.result _ (c.conditional_row.ensures.row w knows) (conditional_rows w s S sound at xs)

pub returns-then-production-eq-ASSIGNMENT-clause-rows : goal.returns-then-production-eq-ASSIGNMENT-clause-rows
returns-then-production-eq-ASSIGNMENT-clause-rows c =
    let u = c.args.unit.now in
    let u1 = c.assignment_row.new.unit in
    let s = source_read c.args.syntax.now in
    let S = sense_in (senses_made u c.args.results.now) in
    let at = c.args.at in
    let xs = c.args.children.now in
    let w = named_world u c.args.around.now.first c.args.around.now.may_call (option_copied c.args.around.now.own_name) c.args.around.now.further in
    let knows = named_knows u c.args.around.now.may_call (option_copied c.args.around.now.own_name) c.args.around.now.further c.args.around.now.first in
    let sound = sense_rows u c.args.results.now c.requires.rows in
    made_rows u1 c.assignment_row.result _ (c.assignment_row.ensures.row w knows) (assignment_rows w s S sound at xs)

pub returns-then-is_binary-clause-built : goal.returns-then-is_binary-clause-built
returns-then-is_binary-clause-built c w k fit =
    let u = c.args.unit.now in
    let u1 = c.binary_row.new.unit in
    let s = source_read c.args.syntax.now in
    let S = sense_in (senses_made u c.args.results.now) in
    let at = c.args.at in
    let xs = c.args.children.now in
    subst (λ (g : Given Sense). Rowed u1 c.binary_row.result g)
    (sym (chain_row w s S c.args.production at xs c.if-production-eq-PRIMARY.false c.if-production-eq-POST.false c.if-production-eq-UNARY.false c.if-production-eq-CAST.false c.if-production-eq-CONDITIONAL.false c.if-production-eq-ASSIGNMENT.false (sym (c.is_binary.ensures w s S) ∙ c.if-is_binary.true)))
    (c.binary_row.ensures.row w k)

pub returns-then-is_binary-clause-rows : goal.returns-then-is_binary-clause-rows
returns-then-is_binary-clause-rows c =
    let u = c.args.unit.now in
    let u1 = c.binary_row.new.unit in
    let s = source_read c.args.syntax.now in
    let S = sense_in (senses_made u c.args.results.now) in
    let at = c.args.at in
    let xs = c.args.children.now in
    let w = named_world u c.args.around.now.first c.args.around.now.may_call (option_copied c.args.around.now.own_name) c.args.around.now.further in
    let knows = named_knows u c.args.around.now.may_call (option_copied c.args.around.now.own_name) c.args.around.now.further c.args.around.now.first in
    let sound = sense_rows u c.args.results.now c.requires.rows in
    made_rows u1 c.binary_row.result _ (c.binary_row.ensures.row w knows) (binary_rows w s S sound at xs)

pub returns-clause-built : goal.returns-clause-built
returns-clause-built c w k fit =
    let u = c.args.unit.now in
    let s = source_read c.args.syntax.now in
    let S = sense_in (senses_made u c.args.results.now) in
    other_row w s S c.args.production c.args.at c.args.children.now c.if-production-eq-PRIMARY.false c.if-production-eq-POST.false c.if-production-eq-UNARY.false c.if-production-eq-CAST.false c.if-production-eq-CONDITIONAL.false c.if-production-eq-ASSIGNMENT.false (sym (c.is_binary.ensures w s S) ∙ c.if-is_binary.false)
