use Rattle.std.proofs.Common.{◌≡◌, ℕ, List, length}
use Rattle.std.specs.Prelude.{slice_index}
use Rattle.tree_reads.specs.Sources.{source_in, source_read}
use Rattle.c_tags.specs.tag_numbers.Firsts.{Declares}
use Rattle.carried_trees.specs.carried_types.Told.{AreMarks}
use Rattle.c_check.specs.declared.known_tags.known.Meaning.{Meaning}
use Rattle.c_check.specs.known_tags.Given.{AreGiven}
use Rattle.c_check.specs.known_tags.Own.{AreUnder}
use Rattle.c_check.specs.known_tags.Told.{AreTold}
use Rattle.c_check.proofs.known_tags.told.told_tags.Given as goal

-- so many tags are told
abbrev pub invariant-loop-tag : goal.invariant-loop-tag
invariant-loop-tag l = record {
  marks : AreMarks l.marks.items;
  long : length l.marks.items ≡ l.tag;
  same : length l.incomplete.items ≡ l.tag;
  told : (uses : List (ℕ × ℕ)) (list : List (ℕ × Meaning)) (node : ℕ) → Declares (source_in l.numbered.syntax uses) l.declaring → AreGiven l.given list → AreUnder (source_read l.numbered.syntax) node l.flags
      → AreTold (source_in l.numbered.syntax uses) (slice_index l.numbered.tags.firsts.items) node list l.types l.known l.tag l.marks.items l.incomplete.items;
}
