use Rattle.std.proofs.Common.{arith, ◌≡◌, ◌-◌, true, false, length, sym, subst, get_or}
use Rattle.c_senses.specs.Given.{Given}
use Rattle.c_senses.specs.Sense.{Sense, sense_in}
use Rattle.c_senses.specs.Tree.{is_leaf}
use Rattle.c_results.specs.Standing.{senses_made, Rowed}
use Rattle.tree_reads.specs.Sources.{source_read}
use Rattle.expression_rows.proofs.c_rows.Steps.{not_zero}
use Rattle.expression_rows.proofs.whole_rows.Keeping.{sense_rows}
use Rattle.expression_rows.proofs.whole_rows.Prefixes.{unary_begun, unary_last, made_rows}
use Rattle.expression_rows.proofs.whole_rows.prefix.unary_row.Goals as goal

pub returns-then-is_leaf-clause-row : goal.returns-then-is_leaf-clause-row
returns-then-is_leaf-clause-row c w k =
    let s = source_read c.args.syntax.now in
    let S = sense_in (senses_made c.args.unit.now c.args.results.now) in
    let xs = c.args.children.now in
    let some = not_zero (length xs) c.if-is_empty.ensures in
    let leafy : is_leaf s (get_or xs 0 0) ≡ true = sym c.if-is_leaf.ensures in
    subst (λ (g : Given Sense). Rowed c.begun.new.unit c.begun.result g) (unary_begun w s S c.args.at xs (omega (arith, some)) leafy) (c.begun.ensures.row w k)

pub returns-clause-within : goal.returns-clause-within
returns-clause-within c = c.passed_on.ensures.within c.args.unit.now c.requires.within

pub returns-clause-row : goal.returns-clause-row
returns-clause-row c w k =
    let u = c.args.unit.now in
    let s = source_read c.args.syntax.now in
    let S = sense_in (senses_made u c.args.results.now) in
    let xs = c.args.children.now in
    let some = not_zero (length xs) c.if-is_empty.ensures in
    let leafy : is_leaf s (get_or xs 0 0) ≡ false = sym c.if-is_leaf.ensures in
    subst (λ (g : Given Sense). Rowed u c.passed_on.result g) (sym (unary_last w s S c.args.at xs (length xs - 1) (omega (arith, some)) leafy)) (c.passed_on.ensures.row u)

pub returns-clause-rows : goal.returns-clause-rows
returns-clause-rows c =
    let u = c.args.unit.now in
    let rs = c.args.results.now in
    let xs = c.args.children.now in
    made_rows u c.passed_on.result _ (c.passed_on.ensures.row u) (sense_rows u rs c.requires.rows (get_or xs (length xs - 1) 0))
