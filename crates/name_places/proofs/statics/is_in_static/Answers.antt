use Rattle.std.proofs.Common.{refl}
use Rattle.c_senses.specs.Sense.{sense_in}
use Rattle.c_results.specs.Standing.{senses_made}
use Rattle.tree_reads.specs.Sources.{source_read}
use Rattle.c_entities.proofs.PassedOn.{and_then, and_else}
use Rattle.name_places.proofs.Standing.{in_static}
use Rattle.name_places.proofs.statics.is_in_static.Goals as goal

pub returns-then-is_object_initialiser : goal.returns-then-is_object_initialiser
returns-then-is_object_initialiser c = λ u.
    let s = source_read c.args.syntax.now in
    let sense = sense_in (senses_made u c.args.results.now) in
    and_then _ _ _ c.if-is_object_initialiser.true (in_static s sense c.args.node c.in-Some.boundary _ _ c.in-Some.ensures.nearest c.is_object_initialiser.ensures (c.initialises_static.ensures u))

pub returns-else-is_object_initialiser : goal.returns-else-is_object_initialiser
returns-else-is_object_initialiser c = λ u.
    let s = source_read c.args.syntax.now in
    let sense = sense_in (senses_made u c.args.results.now) in
    and_else _ _ _ c.if-is_object_initialiser.false (in_static s sense c.args.node c.in-Some.boundary _ _ c.in-Some.ensures.nearest c.is_object_initialiser.ensures refl)
