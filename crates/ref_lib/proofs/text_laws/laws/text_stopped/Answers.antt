use Rattle.ref_lib.proofs.text_laws.Texts.{text_stopped}
use Rattle.ref_lib.proofs.text_laws.laws.text_stopped.Goals as goal

pub returns : goal.returns
returns c = text_stopped
