use Rattle.std.proofs.Common.{◌≡◌, drop, map, true, ◌==◌}
use Rattle.c_types.specs.Table.{extent_in}
use Rattle.c_inits.specs.Tables.{part_of}
use Rattle.struct_rows.specs.Taken as spec
use Rattle.struct_rows.proofs.taking.takes.Given as goal

-- what is left is taken where the whole is
abbrev pub invariant-loop-i : goal.invariant-loop-i
invariant-loop-i l = spec.takes (extent_in l.types) l.is_union (l.i == 0) (map (part_of l.types) (drop l.i l.members)) ≡ spec.takes (extent_in l.types) l.is_union true (map (part_of l.types) l.members)
