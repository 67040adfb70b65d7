use Rattle.std.proofs.Common.{get_or, subst}
use Rattle.pta_base.specs.declared.place.Place.{Place}
use Rattle.c_senses.specs.Given.{Given}
use Rattle.c_senses.specs.Sense.{Sense, sense_in}
use Rattle.c_results.specs.Standing.{senses_made, Rowed}
use Rattle.tree_reads.specs.Sources.{source_read}
use Rattle.c_senses.specs.Expressions.{as_sense}
use Rattle.expression_rows.specs.whole_rows.Whole.{chosen_parts}
use Rattle.expression_rows.proofs.whole_rows.Parts.{five_of}
use Rattle.expression_rows.proofs.whole_rows.choosing.conditional_row.Goals as goal

pub returns-in-len1-clause-within : goal.returns-in-len1-clause-within
returns-in-len1-clause-within c = c.passed_on.ensures.within c.args.unit.now c.requires.within

pub returns-in-len5-clause-row : goal.returns-in-len5-clause-row
returns-in-len5-clause-row c w k =
    let u1 = c.chosen_parts.new.unit in
    let s = source_read c.args.syntax.now in
    let S = sense_in (senses_made c.args.unit.now c.args.results.now) in
    let xs = c.args.children.now in
    let placed = subst (λ (p : Place). Rowed u1 c.sensed.result (as_sense (chosen_parts w s S p c.args.at (get_or xs 0 0) (get_or xs 2 0) (get_or xs 4 0)))) c.place_of-place.ensures
    (c.sensed.ensures.row u1 _ (c.chosen_parts.ensures.made w s k)) in
    subst (λ (g : Given Sense). Rowed u1 c.sensed.result g) (five_of w s S c.args.at xs c.in-len5.len_at_least c.in-len5.len_below) placed
