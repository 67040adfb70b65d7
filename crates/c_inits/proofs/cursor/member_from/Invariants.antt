use Rattle.std.proofs.Common.{◌≡◌}
use Rattle.c_inits.specs.Parts.{first_field}
use Rattle.c_inits.specs.Tables.{fields_from}
use Rattle.c_inits.proofs.cursor.member_from.Given as goal

-- the first field of all is the first of those that are left
abbrev pub invariant-loop-k : goal.invariant-loop-k
invariant-loop-k l = first_field (fields_from l.types l.fn.from l.members) ≡ first_field (fields_from l.types l.k l.members)
