use Rattle.std.proofs.Common.{arith, refl, length, subst, get_or}
use Rattle.c_senses.specs.Given.{Given}
use Rattle.c_senses.specs.Sense.{Sense, sense_in, core_of}
use Rattle.c_senses.specs.Expressions.{chained}
use Rattle.core_nodes.proofs.Failing.{follows}
use Rattle.c_senses.specs.Operators.{between}
use Rattle.c_results.specs.Standing.{senses_made, Rowed}
use Rattle.tree_reads.specs.Sources.{source_read}
use Rattle.expression_rows.proofs.c_rows.Steps.{not_zero}
use Rattle.expression_rows.proofs.whole_rows.Linking.{binary_chain}
use Rattle.expression_rows.proofs.whole_rows.chains.binary_row.Goals as goal

pub returns-then-is_empty-2-clause-within : goal.returns-then-is_empty-2-clause-within
returns-then-is_empty-2-clause-within c = c.passed_on.ensures.within c.args.unit.now c.requires.within

pub returns-in-Ok-clause-row : goal.returns-in-Ok-clause-row
returns-in-Ok-clause-row c w k =
    let u = c.args.unit.now in
    let u1 = c.chained.new.unit in
    let s = source_read c.args.syntax.now in
    let S = sense_in (senses_made u c.args.results.now) in
    let xs = c.args.children.now in
    let some = not_zero (length xs) c.if-is_empty.ensures in
    let rest = c.behind_first-rest.result.now in
    let more = not_zero (length rest) c.if-is_empty-2.ensures in
    let node = follows u u1 c.in-Ok.first c.chained.result (core_of c.args.at (S (get_or xs 0 0))) (λ a. chained w s S (between w) c.args.at _ a rest) c.in-Ok.ensures.made (c.chained.ensures.made w k) in
    subst (λ (g : Given Sense). Rowed u1 c.sensed.result g) (binary_chain w s S c.args.at xs rest _ (omega (arith, some)) c.behind_first-rest.ensures more refl)
    (c.sensed.ensures.row u1 _ node)
