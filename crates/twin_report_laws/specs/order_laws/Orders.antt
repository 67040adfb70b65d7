-- What stands in the order of places.
use Rattle.std.specs.Prelude.{◌≡◌, ◌↔◌, List, [], ◌++◌, Contains, flat_map}
use Rattle.core_tree.specs.declared.node.Node.{Node}
use Rattle.core_tree.specs.declared.node.Program.{Program}
use Rattle.sol_model.specs.declared.system.CallSite.{CallSite}
use Rattle.obj_made.specs.Made.{by_place, Made, entities_made, nodes_made, varargs_made, made_in_order}
use Rattle.unit_report.specs.report_text.Report.{by_place as call_order, Placed as PlacedCalls, all_placed, in_order}
use Rattle.stop_places.specs.declared.list.Stop.{Stop}
use Rattle.side_reports.specs.stop_report.Text.{Placed as PlacedStops, placed, lines_of}
use Rattle.twin_report_laws.specs.order_laws.walk_laws.Ordered.{IsOrdered}

-- what the entities of a program make, what its nodes do, and what its variadic functions are passed further
abbrev pub all_made : Program → Made
all_made p =
    entities_made p 0 p.entities.items ++ nodes_made p 0 p.nodes.items ++ varargs_made p 0 p.entities.items

abbrev pub MadeOrdered : Type 0
MadeOrdered =
    (p : Program) (list : Made) → (list ≡ made_in_order p) ↔ IsOrdered by_place (Contains (all_made p)) list

abbrev pub CallsOrdered : Type 0
CallsOrdered =
    (calls : List CallSite) (list : PlacedCalls)
    → (list ≡ in_order [] (all_placed 0 calls)) ↔ IsOrdered call_order (Contains (all_placed 0 calls)) list

abbrev pub StopsOrdered : Type 0
StopsOrdered =
    (nodes : List Node) (stops : List Stop) (list : PlacedStops)
    → (list ≡ lines_of nodes stops) ↔ IsOrdered call_order (Contains (flat_map (placed nodes) stops)) list
