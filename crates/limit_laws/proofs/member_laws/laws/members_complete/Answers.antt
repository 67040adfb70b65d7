use Rattle.limit_laws.proofs.member_laws.Members.{members_complete}
use Rattle.limit_laws.proofs.member_laws.laws.members_complete.Goals as goal

pub returns : goal.returns
returns c = members_complete
