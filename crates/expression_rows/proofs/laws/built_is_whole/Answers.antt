use Rattle.expression_rows.proofs.Readable.{built_whole}
use Rattle.expression_rows.proofs.laws.built_is_whole.Goals as goal

pub returns : goal.returns
returns c = built_whole
