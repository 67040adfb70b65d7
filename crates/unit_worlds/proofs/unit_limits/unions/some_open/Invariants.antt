use Rattle.std.proofs.Common.{◌≡◌, drop, map}
use Rattle.c_inits.specs.Tables.{part_of}
use Rattle.c_senses.specs.Limits.{some_flexible}
use Rattle.unit_worlds.specs.unit_limits.Unions as spec
use Rattle.unit_worlds.specs.unit_limits.Unions.{members_at}
use Rattle.unit_worlds.proofs.unit_limits.unions.some_open.Given as goal

-- none so far is such
abbrev pub invariant-loop-member : goal.invariant-loop-member
invariant-loop-member l = some_flexible (spec.is_open (members_at l.types) l.unions) (map (part_of l.types) (drop l.member-index l.members)) ≡ some_flexible (spec.is_open (members_at l.types) l.unions) (map (part_of l.types) l.members)
