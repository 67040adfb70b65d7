use Rattle.row_share.proofs.share_laws.EqualSets.{together_same}
use Rattle.row_share.proofs.share_laws.classes_have_equal_sets.Goals as goal

pub returns : goal.returns
returns c = together_same
