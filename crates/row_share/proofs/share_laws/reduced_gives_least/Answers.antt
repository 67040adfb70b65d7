use Rattle.row_share.proofs.share_laws.Leasts.{gives_least}
use Rattle.row_share.proofs.share_laws.reduced_gives_least.Goals as goal

pub returns : goal.returns
returns c S T of row G valid classes reduced least_T = gives_least S T of row valid classes reduced G least_T
