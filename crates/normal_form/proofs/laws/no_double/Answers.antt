use Rattle.normal_form.proofs.Demanding.{no_double}
use Rattle.normal_form.proofs.laws.no_double.Goals as goal

pub returns : goal.returns
returns c = no_double
