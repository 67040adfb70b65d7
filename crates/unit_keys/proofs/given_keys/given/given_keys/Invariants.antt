use Rattle.std.proofs.Common.{◌≡◌, ℕ, List, length}
use Rattle.c_senses.specs.Sense.{Sense}
use Rattle.tree_reads.specs.Sources.{source_in}
use Rattle.unit_keys.specs.given_keys.Flags.{AreFlags}
use Rattle.unit_keys.specs.given_keys.Kept.{AreKeys}
use Rattle.unit_keys.specs.given_keys.Given.{AreBelow, AreGiven}
use Rattle.unit_keys.proofs.given_keys.given.given_keys.Given as goal

-- the keys that are given so far
abbrev pub invariant-loop-node : goal.invariant-loop-node
invariant-loop-node l = record {
  long : length l.list.items ≡ l.count;
  given : (uses : List (ℕ × ℕ)) (sense : ℕ → Sense) →
      AreFlags (source_in l.syntax uses) l.flags → AreBelow (source_in l.syntax uses) l.count → AreKeys (source_in l.syntax uses) sense l.keys 0 →
      AreGiven (source_in l.syntax uses) sense l.list.items l.given l.node;
}
