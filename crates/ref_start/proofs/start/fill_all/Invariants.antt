use Rattle.std.proofs.Common.{◌≡◌, length, drop}
use Rattle.core_tree.specs.Seen.{core_of}
use Rattle.ref_cells.specs.Places.{AreKnown}
use Rattle.ref_start.specs.Start.{all_filled, filled_over}
use Rattle.ref_start.specs.Standing.{AreFirst}
use Rattle.ref_start.proofs.start.fill_all.Given as goal

abbrev pub invariant-loop-entity : goal.invariant-loop-entity
invariant-loop-entity l = record {
  known : AreKnown (length l.trees.types.now.terms) l.memory;
  first : AreFirst l.standing l.memory;
  same : all_filled (core_of l.trees) l.fn.memory (drop l.entity-index l.trees.entities.now) l.memory ≡ filled_over (core_of l.trees) l.fn.memory;
}
