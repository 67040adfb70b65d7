use Rattle.std.proofs.Common.{◌≡◌, max, map, drop}
use Rattle.c_inits.specs.Initial.{length_given}
use Rattle.c_inits.specs.Items.{action_of}
use Rattle.c_initialise.proofs.c_braces.lengths.length_of.Given as goal

-- with what is left, the length so far gives the whole
abbrev pub invariant-loop-action : goal.invariant-loop-action
invariant-loop-action l = max l.length (length_given (map action_of (drop l.action-index l.actions))) ≡ length_given (map action_of l.actions)
