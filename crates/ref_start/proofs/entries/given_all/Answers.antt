-- Nothing is given yet.
use Rattle.std.proofs.Common.{List, map, sym, subst, ap}
use Rattle.c_types.specs.declared.key.ObjectKey.TheVariants.{Entity}
use Rattle.c_types.specs.declared.term.TypeId.{TypeId}
use Rattle.core_tree.specs.Seen.{core_of}
use Rattle.ref_cells.specs.declared.cells.Cell.{Cell}
use Rattle.ref_start.specs.Entries.{Given, given_all}
use Rattle.ref_start.specs.Handed.{ArePlaces}
use Rattle.ref_start.proofs.HandedSteps.{nothing_given}
use Rattle.ref_start.proofs.entries.given_all.Goals as goal

pub loop-e-init : goal.loop-e-init
loop-e-init c = record {
  given =
      ap (λ (given : Given). given_all (core_of c.args.trees.now) c.args.offer.now.count c.args.offer.now.h given (map Entity c.args.parameters.now))
      (nothing_given c.args.offer.now.handed.now c.new.result c.new-2.result c.new-3.result c.new.ensures c.new-2.ensures c.new-3.ensures);
  own = subst (λ (list : List (TypeId × Cell)). ArePlaces c.args.trees.now.types.now list c.no_places.result) (sym c.new-2.ensures)
      (c.no_places.ensures.whole c.args.trees.now.types.now);
}
