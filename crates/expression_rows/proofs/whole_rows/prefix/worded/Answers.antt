use Rattle.std.proofs.Common.{◌∙◌, ℕ, Option, sym, ap, subst}
use Rattle.c_senses.specs.Given.{Given}
use Rattle.c_senses.specs.Sense.{Sense, sense_in}
use Rattle.c_senses.specs.Expressions.{sized, aligned, worded}
use Rattle.c_results.specs.Standing.{senses_made, Rowed}
use Rattle.tree_reads.specs.Sources.{source_read}
use Rattle.expression_rows.proofs.whole_rows.Prefixes.{sized_same, sensed_rows}
use Rattle.expression_rows.proofs.whole_rows.prefix.worded.Goals as goal

pub returns-in-Some-clause-row : goal.returns-in-Some-clause-row
returns-in-Some-clause-row c w k =
    let u1 = c.sized_part.new.unit in
    let s = source_read c.args.syntax.now in
    let S = sense_in (senses_made c.args.unit.now c.args.results.now) in
    let place = c.args.place in
    let at = c.args.at in
    let same = sized_same w s S place at c.in-Some.part ∙ ap (sized w s S place at) c.in-Some.ensures in
    let part = subst (λ (g : Given Sense). Rowed u1 c.sensed.result g) same (c.sensed.ensures.row u1 _ (c.sized_part.ensures.made w k)) in
    subst (λ (word : ℕ). Rowed u1 c.sensed.result (worded w s S place at c.args.rest.now word)) (sym c.if-word-eq-WORD_SIZEOF.true) part

pub returns-in-Some-last_where-clause-row : goal.returns-in-Some-last_where-clause-row
returns-in-Some-last_where-clause-row c w k =
    let u1 = c.aligned_part.new.unit in
    let s = source_read c.args.syntax.now in
    let S = sense_in (senses_made c.args.unit.now c.args.results.now) in
    let place = c.args.place in
    let at = c.args.at in
    let part = subst (λ (o : Option ℕ). Rowed u1 c.sensed-in-Some-last_where.result (aligned w s S place at o)) c.in-Some-last_where.ensures (c.sensed-in-Some-last_where.ensures.row u1 _ (c.aligned_part.ensures.made w s k)) in
    subst (λ (word : ℕ). Rowed u1 c.sensed-in-Some-last_where.result (worded w s S place at c.args.rest.now word)) (sym c.if-word-eq-WORD_ALIGNOF.true) part

pub returns-in-Some-clause-rows : goal.returns-in-Some-clause-rows
returns-in-Some-clause-rows c = sensed_rows c.sized_part.new.unit c.sized_part.result c.sensed.result c.sensed.ensures.row c.sized_part.ensures.rows

pub returns-in-Some-last_where-clause-rows : goal.returns-in-Some-last_where-clause-rows
returns-in-Some-last_where-clause-rows c =
    sensed_rows c.aligned_part.new.unit c.aligned_part.result c.sensed-in-Some-last_where.result c.sensed-in-Some-last_where.ensures.row c.aligned_part.ensures.rows
