use Rattle.std.proofs.Common.{◌∙◌}
use Rattle.c_declarators.proofs.Deriving.{last_lacks}
use Rattle.unit_worlds.proofs.unit_limits.unions.last_lacks_length.Goals as goal

pub returns-in-Some : goal.returns-in-Some
returns-in-Some c = c.lacks_length.ensures ∙ last_lacks c.args.types.now c.args.members.now c.in-Some.member.now c.in-Some.ensures.value
