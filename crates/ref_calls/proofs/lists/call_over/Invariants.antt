use Rattle.std.proofs.Common.{◌≡◌, reverse, take}
use Rattle.ref_calls.specs.Lists.{call_over}
use Rattle.ref_calls.proofs.lists.call_over.Given as goal

abbrev pub invariant-loop-k : goal.invariant-loop-k
invariant-loop-k l = call_over l.i (reverse (take l.k l.frames)) ≡ call_over l.i (reverse l.frames)
