use Rattle.std.proofs.Common.{arith, ℕ, List, sym, subst}
use Rattle.c_senses.specs.Sense.{sense_in}
use Rattle.c_senses.specs.Expressions as expressions
use Rattle.c_results.specs.Standing.{senses_made, Rowed}
use Rattle.tree_reads.specs.Sources.{source_read}
use Rattle.expression_rows.specs.c_rows.Postfix.{dotted_core}
use Rattle.expression_rows.proofs.c_rows.Steps.{two_of}
use Rattle.expression_rows.proofs.c_rows.postfix.with_dot.Goals as goal

pub returns-clause-row : goal.returns-clause-row
returns-clause-row c w k =
    let u1 = c.member_of_left.new.unit in
    let s = source_read c.args.syntax.now in
    let S = sense_in (senses_made c.args.unit.now c.args.results.now) in
    let xs = c.args.children.now in
    let named = subst (λ (n : List ℕ). Rowed u1 c.sensed.result (expressions.as_sense (dotted_core w c.args.place c.args.at n (S c.args.left)))) c.spelling_of-name.ensures
    (c.sensed.ensures.row u1 _ (c.member_of_left.ensures.made w k)) in
    subst (λ (l : List ℕ). Rowed u1 c.sensed.result (expressions.dotted w s S c.args.place c.args.at (S c.args.left) l)) (sym (two_of xs (omega (arith, c.if-children-lt2.false)))) named
