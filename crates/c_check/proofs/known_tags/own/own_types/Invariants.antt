use Rattle.std.proofs.Common.{◌≡◌, ◌+◌, ℕ, List, length}
use Rattle.std.specs.Prelude.{slice_index}
use Rattle.core_nodes.specs.Standing.{IsReady}
use Rattle.tree_reads.specs.Sources.{source_in, source_read}
use Rattle.c_tags.specs.tag_numbers.Firsts.{Declares}
use Rattle.carried_trees.specs.carried_types.Terms.{AreTagIds}
use Rattle.carried_trees.specs.Extends.{Extends, SameParts}
use Rattle.c_check.specs.declared.known_tags.known.Meaning.{Meaning}
use Rattle.c_check.specs.known_tags.Given.{AreGiven}
use Rattle.c_check.specs.known_tags.Own.{AreUnder, AreOpened}
use Rattle.c_check.proofs.known_tags.own.own_types.Given as goal

-- so many tags have their types
abbrev pub invariant-loop-tag : goal.invariant-loop-tag
invariant-loop-tag l = record {
  ready : IsReady l.unit;
  extends : Extends l.initial.unit l.unit;
  parts : SameParts l.initial.unit l.unit;
  nodes : l.unit.nodes.items ≡ l.initial.unit.nodes.items;
  long : length l.ids.items ≡ l.tag;
  within : AreTagIds l.ids.items l.unit.types;
  tags : l.unit.types.tags ≡ l.initial.unit.types.tags + length l.pairs.items;
  opened : (uses : List (ℕ × ℕ)) (list : List (ℕ × Meaning)) (node : ℕ) → Declares (source_in l.numbered.syntax uses) l.declaring → AreGiven l.given list → AreUnder (source_read l.numbered.syntax) node l.flags
      → AreOpened (source_in l.numbered.syntax uses) (slice_index l.numbered.tags.firsts.items) node list l.initial.unit.types.tags l.unit.types l.known l.tag l.ids.items l.pairs.items;
}
