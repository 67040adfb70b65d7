use Rattle.std.proofs.Common.{◌+◌, ℕ, List, sym, subst, ◌∙◌}
use Rattle.link_units.proofs.Adding.{next_of}
use Rattle.link_units.proofs.Noding.{AreUnitsSoFar, units_more, unit_nodes}
use Rattle.link_units.proofs.nodes.names_and_nodes.Goals as goal

pub add_unit-requires : goal.add_unit-requires
add_unit-requires c =
    let n = next_of c.args.units.items c.pop_front.new.self.items c.loop-unit.u c.in-Some.unit (sym c.in-Some.ensures.items ∙ c.loop-unit.invariant.left) in
    unit_nodes c.args.units.items c.args.type_starts.now c.args.node_starts.now c.args.numbers.now c.loop-unit.u c.in-Some.unit c.requires.starts c.requires.placeable n.there

pub loop-unit-preserved : goal.loop-unit-preserved
loop-unit-preserved c =
    let n = next_of c.args.units.items c.pop_front.new.self.items c.loop-unit.u c.in-Some.unit (sym c.in-Some.ensures.items ∙ c.loop-unit.invariant.left) in
    let next = units_more c.args.units.items c.loop-unit.rest.items c.pop_front.new.self.items c.loop-unit.names.items c.args.type_starts.now c.args.node_starts.now c.args.numbers.now c.loop-unit.u c.in-Some.unit c.loop-unit.list.items c.add_unit.new.list.items c.requires.starts c.loop-unit.invariant
    n.within n.there n.left c.in_ok-add_unit.ensures in
    subst (λ (l : List (List ℕ)). AreUnitsSoFar c.args.units.items c.pop_front.new.self.items l c.args.type_starts.now c.args.node_starts.now c.args.numbers.now (c.loop-unit.u + 1) c.add_unit.new.list.items) (sym c.in_ok-push.ensures.items) next
