use Rattle.carried_trees.proofs.carried_types.Widening.{wider_on, wider_tag, wider_term}
use Rattle.carried_trees.proofs.carried_types.opening.open_tag.Goals as goal

pub returns-in-Ok-add-clause-wider : goal.returns-in-Ok-add-clause-wider
returns-in-Ok-add-clause-wider c =
    let old = c.args.types.now in
    let mid = c.tag.new.self in
    let new = c.add.new.self in
    let b = c.in-Ok-add.ensures in
    wider_on old mid new (wider_tag old mid c.in-Ok.ensures.ok) (wider_term mid new c.if-is_union.term b.ok b.kept b.extents)
