use Rattle.std.proofs.Common.{ap, List, map}
use Rattle.c_types.specs.Table.{type_of}
use Rattle.c_inits.specs.declared.items.InitItem.{InitItem}
use Rattle.c_inits.specs.Items.{placed_of}
use Rattle.c_senses.specs.Sense.{sense_in}
use Rattle.core_nodes.proofs.Growing.{builds_on}
use Rattle.core_nodes.proofs.Failing.{made_same}
use Rattle.c_results.specs.Standing.{senses_made}
use Rattle.c_results.proofs.Keeping.{mades_kept, withins_kept}
use Rattle.tree_reads.specs.Sources.{source_read}
use Rattle.c_initials.specs.Scope.{initialised}
use Rattle.c_initials.proofs.PlacedLaws.{told_on, constants_kept}
use Rattle.c_initials.proofs.ObjectLaws.{object_as}
use Rattle.c_initials.proofs.objects.object_made.Goals as goal

pub initialised-requires-clause-results : goal.initialised-requires-clause-results
initialised-requires-clause-results c = withins_kept c.args.unit.now c.with_length.new.unit c.with_length.ensures.builds c.args.scope.now.results.now c.requires.results

pub initialised-requires-clause-rows : goal.initialised-requires-clause-rows
initialised-requires-clause-rows c = constants_kept c.args.unit.now c.with_length.new.unit c.with_length.ensures.builds c.args.scope.now.results.now c.requires.results c.requires.rows

pub returns-clause-builds : goal.returns-clause-builds
returns-clause-builds c = builds_on c.args.unit.now c.with_length.new.unit c.initialised.new.unit c.with_length.ensures.builds c.initialised.ensures.builds

pub returns-clause-made : goal.returns-clause-made
returns-clause-made c = λ w outcome told given.
    let u = c.args.unit.now in
    let mid = c.with_length.new.unit in
    let s = source_read c.args.scope.now.syntax.now in
    let results = c.args.scope.now.results.now in
    let sense = sense_in (senses_made u results) in
    let t = type_of u.types c.args.ty.0 in
    let whole = type_of mid.types c.in-Ok.whole.0 in
    object_as w s sense c.args.is_static c.args.entity c.args.place t outcome c.args.given.now c.initialised.new.unit c.initialised.result whole (senses_made mid results) given
    c.in-Ok.ensures.made (ap sense_in (mades_kept u mid c.with_length.ensures.builds results c.requires.results))
    (made_same c.initialised.new.unit c.initialised.result _ _
    (ap (λ (items : List InitItem). initialised w s (sense_in (senses_made mid results)) c.args.is_static c.args.entity c.args.place whole (map placed_of items)) c.as_slice.ensures.value)
    (c.initialised.ensures.made w (told_on w u mid c.args.scope.now c.with_length.ensures.builds told)))
