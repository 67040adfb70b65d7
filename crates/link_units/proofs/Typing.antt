-- The type of each node and entity of the program stands in its table.
use Rattle.std.proofs.Common.{arith, ◌≡◌, ◌∙◌, ℕ, ◌+◌, ◌<◌, Option, Some, List, length, sym, ap, subst}
use Rattle.std.proofs.lemmas.Option.{slice_get_within}
use Rattle.std.specs.List.{slice_get}
use Rattle.core_tree.specs.declared.node.Unit.{Unit}
use Rattle.core_tree.specs.declared.node.Node.{Node}
use Rattle.core_tree.specs.declared.node.Program.{Program}
use Rattle.core_tree.specs.Typed.{trees_in}
use Rattle.core_tree.specs.Range.{InRange}
use Rattle.link_model.specs.Units.{item, types_if}
use Rattle.link_model.specs.link_types.Starts.{AreSums}
use Rattle.unit_link.specs.Linked.{LinkedAt}
use Rattle.unit_link.specs.Needs.{AreLinkable}
use Rattle.unit_link.specs.declared.link_program.numbers.EntityNumbers.{EntityNumbers}
use Rattle.unit_link.specs.link_program.Checked.{joined_by}
use Rattle.unit_link.specs.link_program.Merging.{AreMerged}
use Rattle.link_units.specs.link_whole.Entities.{AreEntitiesOf}
use Rattle.link_units.proofs.link_whole.Numbered.{types_within}
use Rattle.linked_laws.proofs.Origins.{node_from}
use Rattle.linked_laws.proofs.Ranges.{in_range}
use Rattle.link_units.specs.Nodes.{node_counts_of, AreNodesOf}
use Rattle.link_units.proofs.Noding.{nodes_start}

some_one : {X : Type 0} → {x y : X} → ◌≡◌ {A = Option X} (Some x) (Some y) → x ≡ y
some_one h = cc

node_typed : {entered : List (List ℕ)} (units : List Unit) (type_starts node_starts : List ℕ) (n : EntityNumbers) (p : Program) → AreLinkable units → LinkedAt entered units p → AreMerged units type_starts p.types → AreSums (node_counts_of units) node_starts
    → AreNodesOf units type_starts node_starts n (length units) p.nodes.items → (i : ℕ) (node : Node) → slice_get p.nodes.items i ≡ Some node → node.ty.0 < length p.types.terms
node_typed units type_starts node_starts n p linkable linked merged sums h i node at =
    let f = node_from units p linked i node at in
    let lt = slice_get_within units f.unit f.of f.of_is in
    let s = h.each f.unit f.number f.of f.own lt f.of_is f.own_is in
    let start = nodes_start units node_starts f.unit sums (omega arith) in
    let same : s.node ≡ node = some_one (sym s.node_is ∙ (ap (λ k. slice_get p.nodes.items (k + f.number)) start ∙ (ap (slice_get p.nodes.items) f.place ∙ at))) in
    let own = (linkable.valid f.unit f.of f.of_is).trees.in_range.types f.number f.own f.own_is in
    let is_type = subst (λ (o : Option Unit). f.own.ty.0 < length (types_if o).terms) (sym f.of_is) own in
    let within = (merged.merged.types (item f.unit f.own.ty.0) is_type).within in
    let type = s.placed.type in
    subst (λ (m : Node). m.ty.0 < length p.types.terms) same (omega arith)

pub in_range_all : {entered : List (List ℕ)} (units : List Unit) (type_starts node_starts : List ℕ) (n : EntityNumbers) (p : Program) → AreLinkable units → LinkedAt entered units p → AreMerged units type_starts p.types → AreSums (node_counts_of units) node_starts
    → AreEntitiesOf entered (joined_by units p.types type_starts) p.entities.items n → AreNodesOf units type_starts node_starts n (length units) p.nodes.items → InRange (trees_in p)
in_range_all units type_starts node_starts n p linkable linked merged sums h nodes =
    in_range units p linkable linked (record {
      nodes = node_typed units type_starts node_starts n p linkable linked merged sums nodes;
      entities = types_within (joined_by units p.types type_starts) h.declarations n p h.numbers h.only h.linked;
    })
