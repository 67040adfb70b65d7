use Rattle.c_types.specs.Table.{type_of}
use Rattle.c_senses.specs.Sense.{sense_in}
use Rattle.c_results.specs.Standing.{senses_made}
use Rattle.tree_reads.specs.Sources.{source_in}
use Rattle.c_declarators.proofs.Declaring.{limited_at}
use Rattle.init_rows.proofs.TypeLaws.{type_limited}
use Rattle.init_rows.proofs.RowLaws.{rowed_same}
use Rattle.init_rows.proofs.LiteralLaws.{of_type, no_type}
use Rattle.init_rows.proofs.literals.items_row.Goals as goal

pub returns-in-Some-type_at-clause-row : goal.returns-in-Some-type_at-clause-row
returns-in-Some-type_at-clause-row c = λ w uses told.
    let s = source_in c.args.scope.now.syntax.now uses in
    let old = c.args.unit.now in
    let senses = senses_made old c.args.scope.now.results.now in
    let sense = sense_in senses in
    let t = type_of old.types c.in-Some-type_at.ty.0 in
    let seen = c.in-Some-type_at.ensures.seen old in
    rowed_same c.literal_row.new.unit c.literal_row.result _ _
    (of_type w s sense c.args.at c.in-Some.parent c.in-Some.ensures.parent c.if-not-takes_literals.ensures c.in-Some-child_of.named c.in-Some-child_of.ensures t seen)
    (c.literal_row.ensures.row w uses told (type_limited w (sense c.in-Some-child_of.named) t (limited_at w senses c.in-Some-child_of.named told.limited) seen))

pub returns-in-None-clause-row : goal.returns-in-None-clause-row
returns-in-None-clause-row c = λ w uses told.
    let s = source_in c.args.scope.now.syntax.now uses in
    let old = c.args.unit.now in
    let sense = sense_in (senses_made old c.args.scope.now.results.now) in
    no_type w s sense c.args.at c.in-Some.parent c.in-Some.ensures.parent c.if-not-takes_literals.ensures c.in-Some-child_of.named c.in-Some-child_of.ensures (c.in-None.ensures.seen old)
