use Rattle.std.proofs.Common.{◌≡◌}
use Rattle.c_inits.specs.Initial.{own}
use Rattle.c_inits.specs.Tables.{fields_from}
use Rattle.c_inits.proofs.designators.own_member.Given as goal

-- no earlier member has the name
abbrev pub invariant-loop-k : goal.invariant-loop-k
invariant-loop-k l = own (fields_from l.types 0 l.members) l.name ≡ own (fields_from l.types l.k l.members) l.name
