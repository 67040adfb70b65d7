use Rattle.c_literals.proofs.Readings.{narrow_strings}
use Rattle.c_literals.proofs.laws.strings_are_narrow.Goals as goal

pub returns : goal.returns
returns c = narrow_strings
