use Rattle.std.proofs.Common.{◌≡◌, ◌+◌, ◌*◌}
use Rattle.c_inits.specs.Initial.{in_unnamed}
use Rattle.c_inits.specs.Tables.{type_shape, fields_from}
use Rattle.c_inits.proofs.Depth.{depth}
use Rattle.c_inits.proofs.designators.+names.Given as goal

-- no earlier member has it in it, and the place is what it was
abbrev pub invariant-find_in_unnamed-loop-k : goal.invariant-find_in_unnamed-loop-k
invariant-find_in_unnamed-loop-k l =
    (in_unnamed (fields_from l.types 0 l.members) l.name ≡ in_unnamed (fields_from l.types l.k l.members) l.name) × (l.frames.items ≡ l.initial.frames.items)

abbrev pub decreases-find_member : goal.decreases-find_member
decreases-find_member l = 3 * depth (type_shape l.types.now l.limit l.id.0) + 2

abbrev pub decreases-find_in_tag : goal.decreases-find_in_tag
decreases-find_in_tag l = 3 * depth (type_shape l.types.now l.limit l.id.0) + 1

abbrev pub decreases-find_in_unnamed : goal.decreases-find_in_unnamed
decreases-find_in_unnamed l = 3 * depth (type_shape l.types.now l.limit l.id.0)
