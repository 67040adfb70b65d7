use Rattle.linked_laws.proofs.link_laws.Wholeness.{defines_main}
use Rattle.linked_laws.proofs.link_laws.laws.linked_main.Goals as goal

pub returns : goal.returns
returns c = defines_main
