use Rattle.std.proofs.Common.{◌≡◌, ◌++◌, ◌≤◌, length, take}
use Rattle.c_senses.specs.Literals.{bytes_of}
use Rattle.c_literals.specs.Laws.{AreBytes}
use Rattle.c_literals.proofs.strings.push_inside.Given as goal

abbrev pub invariant-loop-element : goal.invariant-loop-element
invariant-loop-element l = record {
  whole : l.text.items ++ bytes_of l.rest ≡ l.initial.text.items ++ bytes_of l.inside;
  bytes : AreBytes (bytes_of l.rest);
  long : length l.initial.text.items ≤ length l.text.items;
  kept : take (length l.initial.text.items) l.text.items ≡ l.initial.text.items;
}

abbrev pub decreases-loop-element : goal.decreases-loop-element
decreases-loop-element l = length l.rest
