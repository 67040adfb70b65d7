use Rattle.std.proofs.Common.{ℕ, Some, sym, ap, subst}
use Rattle.c_types.specs.Table.{type_of}
use Rattle.c_senses.specs.Sense.{Sense, sense_in}
use Rattle.c_senses.specs.Entities.{derived_type, specified_of}
use Rattle.core_nodes.proofs.Growing.{builds_on}
use Rattle.c_results.specs.Standing.{senses_made}
use Rattle.c_results.proofs.Keeping.{mades_kept}
use Rattle.tree_reads.specs.Sources.{source_in}
use Rattle.c_named.specs.Said.{IsSaid}
use Rattle.c_initials.proofs.PlacedLaws.{told_on}
use Rattle.c_initials.proofs.FillingLaws.{fills_on}
use Rattle.init_rows.specs.Types.{IsDeclaredIn, IsJudged}
use Rattle.init_rows.proofs.RowLaws.{no_type, of_type, rowed_same, row_moved}
use Rattle.init_rows.proofs.rows.declared_row.Goals as goal

pub returns-in-Some-clause-builds : goal.returns-in-Some-clause-builds
returns-in-Some-clause-builds c = builds_on c.args.unit.now c.declared_type.new.unit c.object_as.new.unit c.in-Ok.ensures.builds c.object_as.ensures.builds

pub returns-in-Some-clause-row : goal.returns-in-Some-clause-row
returns-in-Some-clause-row c = λ w uses told said.
    let s = source_in c.args.scope.now.syntax.now uses in
    let old = c.args.unit.now in
    let mid = c.declared_type.new.unit in
    let builds = c.in-Ok.ensures.builds in
    let results = c.args.scope.now.results.now in
    let sense = sense_in (senses_made old results) in
    let now = sense_in (senses_made mid results) in
    let d = c.args.declarator in
    let leaf = c.args.leaf in
    let t = type_of mid.types c.in-Some.declared.ty.0 in
    let same = ap sense_in (mades_kept old mid builds results c.requires.results) in
    rowed_same c.object_as.new.unit c.object_as.result _ _
    (of_type w s sense c.args.at d leaf t (subst (λ o. IsDeclaredIn mid.types o (derived_type s sense (specified_of s sense leaf) (Some d))) c.in-Some.is c.in-Ok.ensures.made))
    (row_moved w s now sense t c.args.at d leaf c.object_as.new.unit c.object_as.result same
    (c.object_as.ensures.row w uses d (told_on w old mid c.args.scope.now builds told.told) (fills_on w old mid builds c.type_count-count.ensures.made c.type_count-more.ensures.made told.fills)
    (subst (λ (f : ℕ → Sense). IsSaid w s f leaf c.args.said.now) (sym same) said)
    (subst (IsJudged w mid.types) c.in-Some.is (c.in-Ok.ensures.limited w told.told.knows told.limited))))

pub returns-in-None-clause-row : goal.returns-in-None-clause-row
returns-in-None-clause-row c = λ w uses told said.
    let s = source_in c.args.scope.now.syntax.now uses in
    let sense = sense_in (senses_made c.args.unit.now c.args.scope.now.results.now) in
    no_type w s sense c.args.at c.args.declarator c.args.leaf (subst (λ o. IsDeclaredIn c.declared_type.new.unit.types o (derived_type s sense (specified_of s sense c.args.leaf) (Some c.args.declarator))) c.in-None.is c.in-Ok.ensures.made)
