use Rattle.c_types.proofs.Places.{some_place, no_place}
use Rattle.c_types.proofs.parts.union_field.Goals as goal

pub returns-then-has_node : goal.returns-then-has_node
returns-then-has_node c =
    let place = rw c.as_slice.ensures.value at (c.has_node.ensures.place 0) in
    some_place _ c.has_node.result 0 place c.if-has_node.true

pub returns-else-has_node : goal.returns-else-has_node
returns-else-has_node c =
    let place = rw c.as_slice.ensures.value at (c.has_node.ensures.place 0) in
    no_place _ c.has_node.result 0 place c.if-has_node.false
