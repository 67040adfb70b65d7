use Rattle.std.proofs.Common.{subst}
use Rattle.c_senses.specs.Given.{Given}
use Rattle.c_senses.specs.Sense.{Sense, sense_in}
use Rattle.c_results.specs.Standing.{senses_made, Rowed}
use Rattle.tree_reads.specs.Sources.{source_read}
use Rattle.expression_rows.proofs.whole_rows.Parts.{three_of}
use Rattle.expression_rows.proofs.whole_rows.assigning.assignment_row.Goals as goal

pub returns-in-len1-clause-within : goal.returns-in-len1-clause-within
returns-in-len1-clause-within c = c.passed_on.ensures.within c.args.unit.now c.requires.within

pub returns-in-len3-clause-row : goal.returns-in-len3-clause-row
returns-in-len3-clause-row c w k =
    let u1 = c.assigned_parts.new.unit in
    let s = source_read c.args.syntax.now in
    let S = sense_in (senses_made c.args.unit.now c.args.results.now) in
    subst (λ (g : Given Sense). Rowed u1 c.sensed.result g) (three_of w s S c.args.at c.args.children.now c.in-len3.len_at_least c.in-len3.len_below)
    (c.sensed.ensures.row u1 _ (c.assigned_parts.ensures.made w k))
