use Rattle.std.proofs.Common.{ℕ, sym, ap, subst}
use Rattle.c_types.specs.Table.{type_of}
use Rattle.c_senses.specs.Sense.{Sense, sense_in}
use Rattle.core_nodes.proofs.Growing.{builds_on}
use Rattle.c_results.specs.Standing.{senses_made}
use Rattle.c_results.proofs.Keeping.{mades_kept}
use Rattle.tree_reads.specs.Sources.{source_in}
use Rattle.c_named.specs.Said.{IsSaid}
use Rattle.c_initials.proofs.PlacedLaws.{told_on}
use Rattle.c_initials.proofs.FillingLaws.{fills_on}
use Rattle.init_rows.proofs.RowLaws.{seen_row, seen_fault}
use Rattle.init_rows.proofs.rows.object_as.Goals as goal

pub returns-in-Ok-object_row-clause-builds : goal.returns-in-Ok-object_row-clause-builds
returns-in-Ok-object_row-clause-builds c = builds_on c.args.unit.now c.seen_type.new.unit c.object_row.new.unit c.in-Ok.ensures.builds c.object_row.ensures.builds

pub returns-in-Err-clause-builds : goal.returns-in-Err-clause-builds
returns-in-Err-clause-builds c = builds_on c.args.unit.now c.seen_type.new.unit c.object_row.new.unit c.in-Ok.ensures.builds c.object_row.ensures.builds

pub returns-in-Ok-object_row-clause-within : goal.returns-in-Ok-object_row-clause-within
returns-in-Ok-object_row-clause-within c = c.with_seen.ensures.within c.object_row.new.unit c.in-Ok-object_row.ensures.within

pub returns-in-Ok-object_row-clause-named : goal.returns-in-Ok-object_row-clause-named
returns-in-Ok-object_row-clause-named c = λ count. c.with_seen.ensures.named count (c.in-Ok-object_row.ensures.named count)

pub returns-in-Ok-object_row-clause-row : goal.returns-in-Ok-object_row-clause-row
returns-in-Ok-object_row-clause-row c = λ w uses declarator told fills said limited.
    let s = source_in c.args.scope.now.syntax.now uses in
    let old = c.args.unit.now in
    let mid = c.seen_type.new.unit in
    let builds = c.in-Ok.ensures.builds in
    let results = c.args.scope.now.results.now in
    let sense = sense_in (senses_made old results) in
    let now = sense_in (senses_made mid results) in
    let leaf = c.args.leaf in
    let whole = type_of mid.types c.in-Ok.lengthened.declared.ty.0 in
    let same = ap sense_in (mades_kept old mid builds results c.requires.results) in
    seen_row w s now sense c.args.at declarator leaf (type_of old.types c.args.declared.ty.0) whole c.in-Ok.lengthened.seen same (c.in-Ok.ensures.seen w uses leaf said) c.in-Ok.ensures.made
    c.object_row.new.unit c.in-Ok-object_row.made _ (c.with_seen.ensures.sense c.object_row.new.unit)
    (c.in-Ok-object_row.ensures.row w uses declarator (told_on w old mid c.args.scope.now builds told) (fills_on w old mid builds c.type_count-count.ensures.made c.type_count-more.ensures.made fills)
    (subst (λ (f : ℕ → Sense). IsSaid w s f leaf c.args.said.now) (sym same) said) (c.in-Ok.ensures.limited w told.knows limited))

pub returns-in-Err-clause-row : goal.returns-in-Err-clause-row
returns-in-Err-clause-row c = λ w uses declarator told fills said limited.
    let s = source_in c.args.scope.now.syntax.now uses in
    let old = c.args.unit.now in
    let mid = c.seen_type.new.unit in
    let builds = c.in-Ok.ensures.builds in
    let results = c.args.scope.now.results.now in
    let sense = sense_in (senses_made old results) in
    let now = sense_in (senses_made mid results) in
    let leaf = c.args.leaf in
    let whole = type_of mid.types c.in-Ok.lengthened.declared.ty.0 in
    let same = ap sense_in (mades_kept old mid builds results c.requires.results) in
    seen_fault w s now sense c.args.at declarator leaf (type_of old.types c.args.declared.ty.0) whole c.in-Ok.lengthened.seen same (c.in-Ok.ensures.seen w uses leaf said) c.in-Ok.ensures.made
    c.object_row.new.unit c.in-Err.fault
    (c.in-Err.ensures.row w uses declarator (told_on w old mid c.args.scope.now builds told) (fills_on w old mid builds c.type_count-count.ensures.made c.type_count-more.ensures.made fills)
    (subst (λ (f : ℕ → Sense). IsSaid w s f leaf c.args.said.now) (sym same) said) (c.in-Ok.ensures.limited w told.knows limited))
