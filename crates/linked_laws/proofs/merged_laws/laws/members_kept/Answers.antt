use Rattle.linked_laws.proofs.merged_laws.Members.{member_moved}
use Rattle.linked_laws.proofs.merged_laws.laws.members_kept.Goals as goal

pub returns : goal.returns
returns c = member_moved
