use Rattle.std.proofs.Common.{subst}
use Rattle.c_senses.specs.Given.{Given}
use Rattle.c_senses.specs.Sense.{Sense, sense_in}
use Rattle.c_results.specs.Standing.{senses_made, Rowed}
use Rattle.tree_reads.specs.Sources.{source_in}
use Rattle.c_structures.proofs.Gathering.{declared_fields, declared_alone}
use Rattle.c_structures.proofs.members.member_declaration.Goals as goal

pub returns-then-any_where-clause-within : goal.returns-then-any_where-clause-within
returns-then-any_where-clause-within c = c.members_row.ensures.within c.args.unit.now c.requires.results

pub returns-then-any_where-clause-row : goal.returns-then-any_where-clause-row
returns-then-any_where-clause-row c = λ w uses k f.
    let u = c.args.unit.now in
    let s = source_in c.args.syntax.now uses in
    let sense = sense_in (senses_made u c.args.results.now) in
    subst (λ (g : Given Sense). Rowed u c.members_row.result g) (declared_fields w s sense c.args.at c.in-Some.specs c.args.children.now c.in-Some.ensures c.if-any_where.ensures) (c.members_row.ensures.row u w s)

pub returns-clause-row : goal.returns-clause-row
returns-clause-row c = λ w uses k f.
    let u = c.args.unit.now in
    let s = source_in c.args.syntax.now uses in
    let sense = sense_in (senses_made u c.args.results.now) in
    subst (λ (g : Given Sense). Rowed u c.unnamed_member.result g) (declared_alone w s sense c.args.at c.in-Some.specs c.args.children.now c.in-Some.ensures c.if-any_where.ensures) (c.unnamed_member.ensures.row w sense _ k f (c.untagged_type-untagged.ensures.seen u w))
