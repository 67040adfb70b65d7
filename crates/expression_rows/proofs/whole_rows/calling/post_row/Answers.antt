use Rattle.std.proofs.Common.{arith, ◌≡◌, Some, length, get_or, subst}
use Rattle.c_senses.specs.Given.{Given}
use Rattle.c_senses.specs.Tree.{sign_at}
use Rattle.c_senses.specs.Sense.{Sense, sense_in}
use Rattle.c_results.specs.Standing.{senses_made, Rowed}
use Rattle.tree_reads.specs.Sources.{source_read}
use Rattle.expression_rows.proofs.c_rows.Steps.{not_zero}
use Rattle.expression_rows.proofs.whole_rows.Arguments.{call_is, other_is}
use Rattle.expression_rows.proofs.whole_rows.calling.post_row.Goals as goal

pub returns-then-sign-eq-SIGN_LEFT_PARENTHESIS-clause-row : goal.returns-then-sign-eq-SIGN_LEFT_PARENTHESIS-clause-row
returns-then-sign-eq-SIGN_LEFT_PARENTHESIS-clause-row c w k may =
    let u1 = c.call_parts.new.unit in
    let s = source_read c.args.syntax.now in
    let S = sense_in (senses_made c.args.unit.now c.args.results.now) in
    let xs = c.args.children.now in
    let some = not_zero (length xs) c.if-is_empty.ensures in
    let sign : Some c.in-Some.sign ≡ sign_at s (get_or xs 0 0) = c.in-Some.ensures in
    subst (λ (g : Given Sense). Rowed u1 c.sensed.result g)
    (call_is w s S c.args.at xs c.behind_first-parts.result.now c.in-Some.sign (omega (arith, some)) c.behind_first-parts.ensures c.if-sign-eq-SIGN_LEFT_PARENTHESIS.true sign)
    (c.sensed.ensures.row u1 _ (c.call_parts.ensures.made w k may))

pub returns-clause-row : goal.returns-clause-row
returns-clause-row c w k may =
    let s = source_read c.args.syntax.now in
    let S = sense_in (senses_made c.args.unit.now c.args.results.now) in
    let xs = c.args.children.now in
    let some = not_zero (length xs) c.if-is_empty.ensures in
    let sign : Some c.in-Some.sign ≡ sign_at s (get_or xs 0 0) = c.in-Some.ensures in
    subst (λ (g : Given Sense). Rowed c.other_post.new.unit c.other_post.result g)
    (other_is w s S c.args.at xs c.in-Some.sign c.left_of-left.result (omega (arith, some)) sign c.left_of-left.ensures) (c.other_post.ensures.row w k)
