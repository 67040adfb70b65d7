use Rattle.std.proofs.Common.{◌≡◌, ◌+◌, ◌*◌, map, drop}
use Rattle.c_senses.specs.World.{World, in_unnamed, way_within}
use Rattle.c_operators.specs.c_members.Worlds.{IsWorldOf, part_of}
use Rattle.c_operators.proofs.c_members.ways.+ways.Given as goal

abbrev pub decreases-way_in_unnamed : goal.decreases-way_in_unnamed
decreases-way_in_unnamed l = 2 * l.depth + 1

abbrev pub decreases-way_within : goal.decreases-way_within
decreases-way_within l = 2 * l.depth

abbrev pub invariant-way_in_unnamed-loop-position : goal.invariant-way_in_unnamed-loop-position
invariant-way_in_unnamed-loop-position l =
    (w : World)
    → IsWorldOf w l.types
    → in_unnamed (way_within w l.depth l.name) l.position (map (part_of l.types) (drop l.position l.members))
    ≡ in_unnamed (way_within w l.depth l.name) 0 (map (part_of l.types) l.members)
