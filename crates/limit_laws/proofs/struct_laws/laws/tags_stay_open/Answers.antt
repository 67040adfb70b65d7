use Rattle.limit_laws.proofs.struct_laws.Opening.{tags_open}
use Rattle.limit_laws.proofs.struct_laws.laws.tags_stay_open.Goals as goal

pub returns : goal.returns
returns c = tags_open
