use Rattle.std.proofs.Common.{sym}
use Rattle.c_structures.proofs.rows.width_of.Goals as goal

pub returns-in-Some : goal.returns-in-Some
returns-in-Some c = λ w uses k. (c.in-Some.width, sym c.in-Some.ensures, c.constant_in.ensures.value w uses k)
