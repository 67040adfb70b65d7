use Rattle.row_numbers.specs.Frame.{setting_in}
use Rattle.call_sites.specs.Calls.{AreCallsUpTo}
use Rattle.call_sites.proofs.sites.sites.Given as goal

abbrev pub invariant-loop-n : goal.invariant-loop-n
invariant-loop-n l = AreCallsUpTo (setting_in l.frame) l.n l.sites
