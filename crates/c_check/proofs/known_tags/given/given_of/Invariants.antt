use Rattle.std.proofs.Common.{take}
use Rattle.c_check.specs.known_tags.Given.{AreGiven}
use Rattle.c_check.proofs.known_tags.given.given_of.Given as goal

-- what is known of so many declarations
abbrev pub invariant-loop-entry : goal.invariant-loop-entry
invariant-loop-entry l = AreGiven l.given (take l.entry-index l.list)
