use Rattle.std.proofs.Common.{ℕ, sym, ap, ◌∙◌, subst}
use Rattle.c_types.specs.declared.term.TypeId.{TypeId}
use Rattle.c_types.specs.Table.{type_of}
use Rattle.c_senses.specs.Limits.{within_limits}
use Rattle.c_senses.specs.Sense.{Sense, sense_in}
use Rattle.core_nodes.proofs.Growing.{builds_on, knows_on}
use Rattle.c_results.specs.Standing.{senses_made}
use Rattle.c_results.proofs.Keeping.{mades_kept}
use Rattle.tree_reads.specs.Sources.{source_in}
use Rattle.c_named.specs.Said.{IsSaid}
use Rattle.init_rows.specs.Objects.{object_given, ObjectGiven}
use Rattle.init_rows.proofs.RowLaws.{by_target, refused, judge, judged_row, fits_before}
use Rattle.init_rows.proofs.rows.object_row.Goals as goal

pub returns-in-Err-clause-row : goal.returns-in-Err-clause-row
returns-in-Err-clause-row c = λ w uses declarator told fills said limited.
    let s = source_in c.args.scope.now.syntax.now uses in
    let old = c.args.unit.now in
    let sense = sense_in (senses_made old c.args.scope.now.results.now) in
    let target = c.target_of-target.result in
    let t = type_of old.types c.args.declared.ty.0 in
    let new = c.object_initialised.new.unit in
    let made = subst (λ (id : TypeId). ObjectGiven w s sense new c.object_initialised.result (object_given w s sense target.is_static target.entity target.place (type_of old.types id.0) c.args.at)) c.target_of-target.ensures.ty (c.object_initialised.ensures.made w uses told fills) in
    refused w s sense new new c.in-Err.fault _ (judge w s sense c.args.leaf t) _ (by_target w s sense c.args.at declarator c.args.leaf t target (c.target_of-target.ensures.target old uses))
    (subst (λ r. ObjectGiven w s sense new r (object_given w s sense target.is_static target.entity target.place t c.args.at)) c.in-Err.is made)

pub returns-in-Ok-initialised_fits-clause-builds : goal.returns-in-Ok-initialised_fits-clause-builds
returns-in-Ok-initialised_fits-clause-builds c = builds_on c.args.unit.now c.object_initialised.new.unit c.initialised_fits.new.unit c.in-Ok.ensures.builds c.in-Ok-initialised_fits.ensures.builds

pub returns-in-Err-initialised_fits-clause-builds : goal.returns-in-Err-initialised_fits-clause-builds
returns-in-Err-initialised_fits-clause-builds c = builds_on c.args.unit.now c.object_initialised.new.unit c.initialised_fits.new.unit c.in-Ok.ensures.builds c.in-Err-initialised_fits.ensures.builds

pub returns-in-Ok-initialised_fits-clause-row : goal.returns-in-Ok-initialised_fits-clause-row
returns-in-Ok-initialised_fits-clause-row c = λ w uses declarator told fills said limited.
    let s = source_in c.args.scope.now.syntax.now uses in
    let old = c.args.unit.now in
    let mid = c.object_initialised.new.unit in
    let results = c.args.scope.now.results.now in
    let sense = sense_in (senses_made old results) in
    let now = sense_in (senses_made mid results) in
    let target = c.target_of-target.result in
    let id = c.args.declared.ty.0 in
    let t = type_of old.types id in
    let builds = c.in-Ok.ensures.builds in
    let same = ap sense_in (mades_kept old mid builds results c.requires.results) in
    let kept = builds.types id c.requires.ty in
    let made = subst (λ (ty : TypeId). ObjectGiven w s sense mid c.object_initialised.result (object_given w s sense target.is_static target.entity target.place (type_of old.types ty.0) c.args.at)) c.target_of-target.ensures.ty (c.object_initialised.ensures.made w uses told fills) in
    let fits = c.in-Ok-initialised_fits.ensures.fits w uses c.args.leaf (knows_on w old mid builds told.knows) (subst (λ (f : ℕ → Sense). IsSaid w s f c.args.leaf c.args.said.now) (sym same) said) (limited ∙ sym (ap (within_limits w) kept)) in
    judged_row w s sense mid c.initialised_fits.new.unit c.in-Ok.object c.args.leaf t c.in-Ok-initialised_fits.fits _ _ c.judged.result
    (by_target w s sense c.args.at declarator c.args.leaf t target (c.target_of-target.ensures.target old uses))
    (subst (λ r. ObjectGiven w s sense mid r (object_given w s sense target.is_static target.entity target.place t c.args.at)) c.in-Ok.is made)
    (c.in-Ok-initialised_fits.ensures.builds.cores c.in-Ok.object.node c.in-Ok.ensures.within)
    (fits_before w s now sense (type_of mid.types id) t c.in-Ok.object.length c.args.leaf c.in-Ok-initialised_fits.fits same kept fits)
    c.judged.ensures.judged
