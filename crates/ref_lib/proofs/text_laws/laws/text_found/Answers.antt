use Rattle.ref_lib.proofs.text_laws.Texts.{text_found}
use Rattle.ref_lib.proofs.text_laws.laws.text_found.Goals as goal

pub returns : goal.returns
returns c = text_found
