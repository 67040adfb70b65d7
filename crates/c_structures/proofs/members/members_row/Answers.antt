use Rattle.std.proofs.Common.{ap, sym, List}
use Rattle.c_inits.specs.Made.{Part}
use Rattle.c_senses.specs.Given.{Fits}
use Rattle.c_senses.specs.Sense.{IsMembers}
use Rattle.c_structures.proofs.members.members_row.Goals as goal

pub returns-in-Ok-clause-row : goal.returns-in-Ok-clause-row
returns-in-Ok-clause-row c = λ u w s. ap (λ (ps : List Part). Fits (IsMembers ps)) (sym (c.in-Ok.ensures.seen u w s))
