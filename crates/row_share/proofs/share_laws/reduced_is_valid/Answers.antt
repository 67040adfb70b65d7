use Rattle.row_share.proofs.share_laws.Valid.{reduced_valid}
use Rattle.row_share.proofs.share_laws.reduced_is_valid.Goals as goal

pub returns : goal.returns
returns c S T of row valid classes reduced = reduced_valid S T of row valid classes reduced
