use Rattle.row_share.proofs.share_laws.Leasts.{agree_at}
use Rattle.row_share.proofs.share_laws.reduced_has_equal_sets.Goals as goal

pub returns : goal.returns
returns c S T of row valid classes reduced F G least least_T = agree_at S T of row valid classes reduced G least_T F least
