use Rattle.ref_lib.proofs.text_laws.Texts.{text_read}
use Rattle.ref_lib.proofs.text_laws.laws.text_read.Goals as goal

pub returns : goal.returns
returns c = text_read
