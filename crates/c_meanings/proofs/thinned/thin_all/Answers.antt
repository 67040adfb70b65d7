use Rattle.std.proofs.Common.{false, refl}
use Rattle.c_meanings.proofs.thinned.thin_all.Goals as goal

pub returns-in_err-thin-clause-thinned : goal.returns-in_err-thin-clause-thinned
returns-in_err-thin-clause-thinned c = c.in_err-thin.ensures.thinned false (λ link at u uses more. refl) c.loop-i.invariant

pub loop-i-preserved : goal.loop-i-preserved
loop-i-preserved c = c.in_ok-thin.ensures.thinned false (λ link at u uses more. refl) c.loop-i.invariant
