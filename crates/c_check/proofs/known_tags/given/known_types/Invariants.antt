use Rattle.std.proofs.Common.{◌≡◌, ℕ, List, length}
use Rattle.tree_reads.specs.Sources.{source_in}
use Rattle.carried_trees.specs.carried_types.Terms.{AreTagIds}
use Rattle.c_check.specs.declared.known_tags.known.Meaning.{Meaning}
use Rattle.c_tags.specs.tag_numbers.Firsts.{Declares}
use Rattle.c_check.specs.known_tags.Given.{AreGiven, AreIdsOf}
use Rattle.c_check.proofs.known_tags.given.known_types.Given as goal

-- the types of so many tags
abbrev pub invariant-loop-tag : goal.invariant-loop-tag
invariant-loop-tag l = record {
  long : length l.ids.items ≡ l.tag;
  within : AreTagIds l.ids.items l.types;
  typed : (uses : List (ℕ × ℕ)) (list : List (ℕ × Meaning)) → Declares (source_in l.numbered.syntax uses) l.declaring → AreGiven l.given list
      → AreIdsOf (source_in l.numbered.syntax uses) list l.types l.numbered.tags.firsts.items l.tag l.ids.items;
}
