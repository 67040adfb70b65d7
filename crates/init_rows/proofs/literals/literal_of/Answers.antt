use Rattle.std.proofs.Common.{refl, ap, ◌∙◌, not, Bool, ◌&&◌}
use Rattle.c_types.specs.Table.{type_of}
use Rattle.c_senses.specs.Limits.{within_limits}
use Rattle.c_senses.specs.Entities.{is_in_static}
use Rattle.c_senses.specs.Initialised.{is_in_body}
use Rattle.c_senses.specs.Sense.{sense_in}
use Rattle.core_nodes.proofs.Growing.{builds_on, knows_on}
use Rattle.c_results.specs.Standing.{senses_made}
use Rattle.tree_reads.specs.Sources.{source_in}
use Rattle.init_rows.proofs.LiteralLaws.{literal_parts, literal_made, refused}
use Rattle.init_rows.proofs.literals.literal_of.Goals as goal

pub returns-in-Err-clause-made : goal.returns-in-Err-clause-made
returns-in-Err-clause-made c = λ w uses told limited.
    let s = source_in c.args.scope.now.syntax.now uses in
    let old = c.args.unit.now in
    let new = c.list_initialised.new.unit in
    let sense = sense_in (senses_made old c.args.scope.now.results.now) in
    let t = type_of old.types c.args.ty.0 in
    refused w s sense new new c.in-Err.fault _ _ _
    (literal_parts w s sense c.args.at c.args.parent t (not c.is_in_body-in_body.result) (is_in_body w s sense c.args.at && is_in_static s sense c.args.at) c.first_sign-opening.result c.first_sign-brace.result c.place_of.result _
    (ap not (c.is_in_body-in_body.ensures w sense)) c.first_sign-opening.ensures c.first_sign-brace.ensures c.place_of.ensures refl refl)
    (c.in-Err.ensures.made w uses told.told told.fills)

pub returns-clause-builds : goal.returns-clause-builds
returns-clause-builds c = builds_on c.args.unit.now c.list_initialised.new.unit c.literal_node.new.unit c.in-Ok.ensures.builds c.literal_node.ensures.builds

pub returns-clause-made : goal.returns-clause-made
returns-clause-made c = λ w uses told limited.
    let s = source_in c.args.scope.now.syntax.now uses in
    let old = c.args.unit.now in
    let mid = c.list_initialised.new.unit in
    let sense = sense_in (senses_made old c.args.scope.now.results.now) in
    let t = type_of old.types c.args.ty.0 in
    let kept = c.in-Ok.ensures.builds.types c.args.ty.0 c.requires.ty in
    let refusal = c.both-refused.ensures ∙ (ap (λ (b : Bool). b && c.is_in_static-in_static.result) (c.is_in_body-in_body.ensures w sense) ∙ ap (λ (b : Bool). is_in_body w s sense c.args.at && b) (c.is_in_static-in_static.ensures old)) in
    literal_made w s sense mid c.literal_node.new.unit c.in-Ok.object c.literal_node.result _ _ c.both-refused.result c.first_sign-opening.result c.place_of-place.result t (type_of mid.types c.args.ty.0)
    (literal_parts w s sense c.args.at c.args.parent t (not c.is_in_body-in_body.result) c.both-refused.result c.first_sign-opening.result c.first_sign-brace.result c.place_of.result c.place_of-place.result
    (ap not (c.is_in_body-in_body.ensures w sense)) c.first_sign-opening.ensures c.first_sign-brace.ensures c.place_of.ensures c.place_of-place.ensures refusal)
    (c.in-Ok.ensures.made w uses told.told told.fills) kept
    (c.literal_node.ensures.made w (knows_on w old mid c.in-Ok.ensures.builds told.told.knows) (ap (within_limits w) kept ∙ limited))
