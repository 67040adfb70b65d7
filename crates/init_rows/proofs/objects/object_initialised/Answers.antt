use Rattle.std.proofs.Common.{ap}
use Rattle.c_types.specs.Table.{type_of}
use Rattle.c_senses.specs.Sense.{sense_in}
use Rattle.core_nodes.proofs.Growing.{builds_on}
use Rattle.c_results.specs.Standing.{senses_made}
use Rattle.c_results.proofs.Keeping.{mades_kept}
use Rattle.tree_reads.specs.Sources.{source_read}
use Rattle.c_initials.proofs.FillingLaws.{fills_on}
use Rattle.c_initials.proofs.PlacedLaws.{told_on}
use Rattle.init_rows.proofs.ObjectLaws.{given_same, object_moved}
use Rattle.init_rows.proofs.Turned.{object_turned}
use Rattle.init_rows.proofs.objects.object_initialised.Goals as goal

pub returns-clause-builds : goal.returns-clause-builds
returns-clause-builds c = builds_on c.args.unit.now c.add_type.new.unit c.made_with.new.unit c.in-Ok.ensures.builds c.made_with.ensures.builds

pub returns-clause-made : goal.returns-clause-made
returns-clause-made c = λ w uses told fills.
    let old = c.args.unit.now in
    let mid = c.add_type.new.unit in
    let builds = c.in-Ok.ensures.builds in
    let s = source_read c.args.scope.now.syntax.now in
    let results = c.args.scope.now.results.now in
    let before = sense_in (senses_made old results) in
    let now = sense_in (senses_made mid results) in
    let target = c.args.target in
    let t = type_of mid.types target.ty.0 in
    let read = c.in-Ok-read_init.ensures w (fills_on w old mid builds c.type_count-count.ensures.made c.type_count-more.ensures.made fills) in
    object_turned w c.args.scope.now.syntax.now uses before target.is_static target.entity target.place (type_of old.types target.ty.0) c.made_with.new.unit c.made_with.result c.args.at
    (object_moved w s now before t (type_of old.types target.ty.0) (ap sense_in (mades_kept old mid builds results c.requires.results)) (builds.types target.ty.0 c.requires.ty) c.made_with.new.unit c.made_with.result target.is_static target.entity target.place c.args.at
    (given_same w s now c.made_with.new.unit c.made_with.result _ _ (read.1 target.is_static target.entity target.place) (c.made_with.ensures.made w read.0 (told_on w old mid c.args.scope.now builds told) read.2)))
