use Rattle.std.proofs.Common.{arith, ◌≡◌, ◌∙◌, true, length, sym, subst, get_or}
use Rattle.c_senses.specs.Given.{Given}
use Rattle.c_senses.specs.Sense.{Sense, sense_in}
use Rattle.c_results.specs.Standing.{senses_made, Rowed}
use Rattle.tree_reads.specs.Sources.{source_read}
use Rattle.c_grammar.specs.Productions.{p_cast}
use Rattle.c_senses.specs.Tree.{is_a, is_leaf}
use Rattle.expression_rows.proofs.c_rows.Steps.{not_zero}
use Rattle.expression_rows.proofs.whole_rows.Parts.{cast_of}
use Rattle.expression_rows.proofs.whole_rows.casting.cast_row.Goals as goal

pub returns-then-not-is_leaf-clause-within : goal.returns-then-not-is_leaf-clause-within
returns-then-not-is_leaf-clause-within c = c.passed_on.ensures.within c.args.unit.now c.requires.within

pub returns-then-not-is_a-clause-within : goal.returns-then-not-is_a-clause-within
returns-then-not-is_a-clause-within c = c.passed_on-then-not-is_a.ensures.within c.args.unit.now c.requires.within

pub returns-else-is_empty-2-clause-row : goal.returns-else-is_empty-2-clause-row
returns-else-is_empty-2-clause-row c w k =
    let u1 = c.cast_parts.new.unit in
    let s = source_read c.args.syntax.now in
    let S = sense_in (senses_made c.args.unit.now c.args.results.now) in
    let xs = c.args.children.now in
    let rest = c.behind_first-rest.result.now in
    let some = not_zero (length xs) c.if-is_empty.ensures in
    let more = not_zero (length rest) c.if-is_empty-2.ensures in
    let leafy : is_leaf s (get_or xs 0 0) ≡ true = sym c.is_leaf.ensures ∙ c.if-not-is_leaf.false in
    let cast : is_a s p_cast c.in-Some.part ≡ true = sym c.is_a.ensures ∙ c.if-not-is_a.false in
    subst (λ (g : Given Sense). Rowed u1 c.sensed.result g) (cast_of w s S c.args.at xs rest c.in-Some.part (omega (arith, some)) c.behind_first-rest.ensures leafy c.in-Some.ensures cast more)
    (c.sensed.ensures.row u1 _ (c.cast_parts.ensures.made w s k))
