use Rattle.std.proofs.Common.{subst}
use Rattle.c_types.specs.Table.{type_of}
use Rattle.c_senses.specs.Sense.{sense_in}
use Rattle.c_results.specs.Standing.{senses_made}
use Rattle.tree_reads.specs.Sources.{source_read}
use Rattle.init_rows.specs.Objects.{OutcomeIs}
use Rattle.init_rows.proofs.ObjectLaws.{fault_given}
use Rattle.init_rows.proofs.objects.made_with.Goals as goal

pub returns-in-Ok-object_made-clause-made : goal.returns-in-Ok-object_made-clause-made
returns-in-Ok-object_made-clause-made c = λ w o told is.
    let t = type_of c.args.unit.now.types c.args.target.ty.0 in
    c.in-Ok-object_made.ensures.made w o told (subst (OutcomeIs t o) c.in-Ok.is is)

pub returns-clause-made : goal.returns-clause-made
returns-clause-made c = λ w o told is.
    let t = type_of c.args.unit.now.types c.args.target.ty.0 in
    let s = source_read c.args.scope.now.syntax.now in
    let sense = sense_in (senses_made c.args.unit.now c.args.scope.now.results.now) in
    fault_given w s sense c.object_made.new.unit c.object_made.new.unit c.in-Err-object_made.fault c.in-Ok.given.length _ (c.in-Err-object_made.ensures.made w o told (subst (OutcomeIs t o) c.in-Ok.is is))
