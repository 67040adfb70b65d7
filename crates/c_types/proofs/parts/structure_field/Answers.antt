use Rattle.std.proofs.Common.{slice_index}
use Rattle.c_types.proofs.Places.{no_place}
use Rattle.c_types.proofs.parts.structure_field.Goals as goal

pub returns-else-has_node : goal.returns-else-has_node
returns-else-has_node c =
    let place = rw c.as_slice.ensures.value at (c.has_node.ensures.place (slice_index c.args.layout.now.positions.items c.args.member)) in
    no_place _ c.has_node.result (slice_index c.args.layout.now.positions.items c.args.member) place c.if-has_node.false
