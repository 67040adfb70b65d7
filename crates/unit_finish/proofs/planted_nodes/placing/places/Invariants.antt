use Rattle.unit_finish.specs.planted_nodes.Grown.{IsWhole}
use Rattle.unit_finish.specs.planted_nodes.Placed.{ArePlaced}
use Rattle.unit_finish.proofs.planted_nodes.placing.places.Given as goal

abbrev pub invariant-loop-item : goal.invariant-loop-item
invariant-loop-item l = record {
  whole : IsWhole l.nodes l.plan.origins.items l.plan.starts.items l.plan.met.items;
  placed : ArePlaced l.nodes l.list l.item-index l.bodies.items l.plan.origins.items l.plan.starts.items;
}
