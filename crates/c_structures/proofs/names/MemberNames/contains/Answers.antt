use Rattle.std.proofs.Common.{◌∙◌}
use Rattle.c_structures.proofs.Naming.{tested}
use Rattle.c_structures.proofs.names.MemberNames.contains.Goals as goal

pub returns : goal.returns
returns c = c.contains.ensures ∙ tested c.args.self.now.names c.args.name.now
