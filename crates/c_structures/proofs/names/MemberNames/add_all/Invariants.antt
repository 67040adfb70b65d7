use Rattle.std.proofs.Common.{◌++◌, List, map, take}
use Rattle.c_types.specs.Table.{Table}
use Rattle.c_inits.specs.Made.{Part}
use Rattle.c_inits.specs.Tables.{part_of}
use Rattle.c_structures.specs.Named.{SaysNames}
use Rattle.c_structures.proofs.names.MemberNames.add_all.Given as goal

abbrev pub invariant-loop-member : goal.invariant-loop-member
invariant-loop-member l = (table : Table) (parts : List Part) → SaysNames l.initial.self parts → SaysNames l.self (parts ++ map (part_of table) (take l.member-index l.members))
