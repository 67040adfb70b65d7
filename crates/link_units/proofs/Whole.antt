-- The program that several units are.
use Rattle.std.proofs.Common.{◌≡◌, ℕ, ◌+◌, ◌<◌, Option, List, [], length, map, sym, ap, subst, ◌∙◌, arith, inl, inr}
use Rattle.std.proofs.lemmas.Bool.{cases_lt}
use Rattle.std.proofs.lemmas.List.{get_or_past, take_all}
use Rattle.std.proofs.lemmas.Option.{slice_get_within}
use Rattle.std.specs.List.{slice_get, sum_by, AllZip}
use Rattle.c_types.specs.Trees.{VoidType}
use Rattle.c_types.specs.Table.{Table, type_of, types_of}
use Rattle.c_types.proofs.Grow.{grown_length}
use Rattle.type_rules.specs.Sizes.{HasSignature}
use Rattle.core_tree.specs.declared.node.Unit.{Unit}
use Rattle.core_tree.specs.declared.node.Program.{Program}
use Rattle.link_model.specs.Units.{item, types_if}
use Rattle.link_model.specs.link_types.Starts.{AreSums}
use Rattle.unit_link.specs.Linked.{LinkedAt, NodesLinked}
use Rattle.unit_link.specs.Needs.{AreLinkable}
use Rattle.unit_link.specs.declared.link_program.numbers.EntityNumbers.{EntityNumbers}
use Rattle.unit_link.specs.link_program.Checked.{joined_by}
use Rattle.unit_link.specs.link_program.Merging.{placed, AreMerged}
use Rattle.unit_link.specs.link_program.Ready.{AreReady}
use Rattle.link_units.specs.link_entities.Row.{numbers_of}
use Rattle.link_units.specs.link_whole.Entities.{AreEntitiesOf}
use Rattle.link_units.specs.link_whole.Entries.{IsEntryOf}
use Rattle.link_units.proofs.link_whole.Entering.{of_names}
use Rattle.link_units.proofs.link_whole.Numbered.{entities_linked}
use Rattle.link_units.specs.Nodes.{node_counts_of, AreNodesOf}
use Rattle.link_units.proofs.Noding.{nodes_start}

-- a signature of each type of a ready table, past its end too
signed : (table : Table) (id : ℕ) → AreReady table → HasSignature table (type_of table id)
signed table id ready = elim (cases_lt id (length table.terms)) [
  | inl lt ↦ (ready.each id lt).signed
  | inr ge ↦
      let long = grown_length [] table.terms in
      let void : type_of table id ≡ VoidType = get_or_past (types_of table) id VoidType (omega arith) in
      subst (HasSignature table) (sym void) tt
]

nodes_linked : (units : List Unit) (type_starts node_starts : List ℕ) (n : EntityNumbers) (p : Program) → AreLinkable units → (merged : AreMerged units type_starts p.types) → AreSums (node_counts_of units) node_starts
    → AreNodesOf units type_starts node_starts n (length units) p.nodes.items → NodesLinked units (placed type_starts merged.tag) (numbers_of n) p
nodes_linked units type_starts node_starts n p linkable merged sums h = record {
  count = h.count ∙ (nodes_start units node_starts (length units) sums (omega arith) ∙ ap (sum_by (λ (x : Unit). length x.nodes.items)) (take_all (length units) units (omega arith)));
  each = λ u i x node ux at.
      let lt = slice_get_within units u x ux in
      let s = h.each u i x node lt ux at in
      let m = s.node in
      let is = s.placed in
      let start = nodes_start units node_starts u sums (omega arith) in
      let own = (linkable.valid u x ux).trees.in_range.types i node at in
      let is_type = subst (λ (o : Option Unit). node.ty.0 < length (types_if o).terms) (sym ux) own in
      record {
        node = m;
        node_is = ap (λ k. slice_get p.nodes.items (k + i)) (sym start) ∙ s.node_is;
        moved = record {
          kind = is.kind;
          place = is.place;
          type = ap (type_of p.types) is.type ∙ (merged.merged.types (item u node.ty.0) is_type).type_is;
          children = is.children ∙ ap (λ k. map (λ c. k + c) node.children) start;
        };
      };
}

pub linked_all : {entered : List (List ℕ)} (units : List Unit) (type_starts node_starts : List ℕ) (n : EntityNumbers) (p : Program) → AreLinkable units → AreReady p.types → AreMerged units type_starts p.types → AreSums (node_counts_of units) node_starts
    → AreEntitiesOf entered (joined_by units p.types type_starts) p.entities.items n → p.names.items ≡ map (λ (x : Unit). x.name) units → AreNodesOf units type_starts node_starts n (length units) p.nodes.items
    → AllZip (IsEntryOf p.entities.items) entered p.entries.items → LinkedAt entered units p
linked_all {entered} units type_starts node_starts n p linkable ready merged sums h names nodes entries = record {
  numbers = placed type_starts merged.tag;
  entity_numbers = numbers_of n;
  declarations = h.declarations;
  declared = h.declared;
  faultless = h.faultless;
  names = names;
  types = merged.merged;
  signatures = λ e entity at body. signed p.types entity.ty.0 ready;
  nodes = nodes_linked units type_starts node_starts n p linkable merged sums nodes;
  entities = entities_linked (joined_by units p.types type_starts) h.declarations n p h.numbers h.one h.only h.linked;
  entries = of_names p entered p.entries.items entries;
}
