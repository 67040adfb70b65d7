use Rattle.std.proofs.Common.{length, ◌↔◌}
use Rattle.c_senses.specs.Literals.{bytes_of, bytes_of_string}
use Rattle.c_literals.specs.Laws.{AreBytes}
use Rattle.c_literals.proofs.strings.is_narrow.Given as goal

abbrev pub invariant-loop-element : goal.invariant-loop-element
invariant-loop-element l = AreBytes (bytes_of l.rest) ↔ AreBytes (bytes_of_string l.literal)

abbrev pub decreases-loop-element : goal.decreases-loop-element
decreases-loop-element l = length l.rest
