-- A program that is linked from valid units is valid.
use Rattle.std.proofs.Common.{arith, ◌≡◌, ◌∙◌, ℕ, suc, ◌<◌, List, [], ◌∷◌, length, map, Some, refl, sym, ap, subst}
use Rattle.std.specs.List.{slice_get}
use Rattle.std.proofs.lemmas.Option.{slice_get_within}
use Rattle.pta_base.specs.declared.place.Place.{Place}
use Rattle.core_tree.specs.declared.node.Unit.{Unit}
use Rattle.core_tree.specs.declared.node.Program.{Program}
use Rattle.core_tree.specs.Typed.{trees_in}
use Rattle.core_tree.specs.Range.{EachNode, EachEntity}
use Rattle.core_tree.specs.Valid.{InUnits, ValidProgram}
use Rattle.unit_link.specs.Linked.{LinkedAt}
use Rattle.unit_link.specs.Needs.{AreLinkable}
use Rattle.linked_laws.proofs.Ranges.{in_range}
use Rattle.linked_laws.proofs.embedded_laws.Nodes.{each_node}
use Rattle.linked_laws.proofs.embedded_laws.Entities.{each_moved}
use Rattle.linked_laws.proofs.embedded_laws.Whole.{linked_trees}
use Rattle.linked_laws.proofs.main_laws.Mains.{linked_entries}
use Rattle.linked_laws.proofs.row_laws.Whole.{linked_in_rows}
use Rattle.c_types.specs.Made.{IsMade, AreNamed}
use Rattle.link_model.specs.filled_units.Filled.{AreFilled}
use Rattle.linked_laws.specs.Ranges.{HasTypes}
use Rattle.linked_laws.specs.merged_laws.Merged.{AreTables}
use Rattle.linked_laws.proofs.valid_laws.Measured.{measured, lengths}

map_length : {X Y : Type 0} (f : X → Y) (xs : List X) → length (map f xs) ≡ length xs
map_length f [] = refl
map_length f (x ∷ xs) = ap suc (map_length f xs)

module _ {names : List (List ℕ)} (units : List Unit) (p : Program) (linkable : AreLinkable units) (h : LinkedAt names units p) where
  unit_below : (u : ℕ) (x : Unit) → slice_get units u ≡ Some x → u < length p.names.items
  unit_below u x at =
      let lt = slice_get_within units u x at in
      let names = ap length h.names in
      let long = map_length (λ (y : Unit). y.name) units in
      omega arith

  entities : EachEntity (trees_in p) (λ e entity. InUnits (length p.names.items) entity)
  entities = each_moved units p linkable h (λ e y. InUnits (length p.names.items) y) (λ u e of x y m.
      let below = unit_below u of m.of_is in
      let own = (linkable.numbered u of m.of_is).entities e x m.at in (
        subst (λ (k : ℕ). k < length p.names.items) (sym (m.moves.unit_is ∙ own.0)) below,
        subst (λ (k : ℕ). k < length p.names.items) (sym (ap (λ (q : Place). q.unit) m.moves.place ∙ own.1)) below,
      ))

  nodes : EachNode (trees_in p) (λ n node. node.place.unit < length p.names.items)
  nodes = each_node units p linkable h (λ n node. node.place.unit < length p.names.items) (λ u i of x m is x_at m_at moves.
      subst (λ (k : ℕ). k < length p.names.items) (sym (ap (λ (q : Place). q.unit) moves.place ∙ (linkable.numbered u of is).nodes i x x_at)) (unit_below u of is))

pub linked_valid : {names : List (List ℕ)} (units : List Unit) (p : Program) → AreLinkable units → AreTables units → AreFilled units → LinkedAt names units p → HasTypes p → IsMade p.types → AreNamed p.types → ValidProgram p
linked_valid units p linkable tables filled h types made named =
    let trees = linked_trees units p linkable h in
    let right = linked_in_rows units p linkable tables filled h made in
    record {
      trees = record {
        in_range = in_range units p linkable h types;
        child_once = trees.child_once;
        rows = right.rows;
        owned = trees.owned;
        bodied = trees.bodied;
        in_owner = trees.in_owner;
        literals = trees.literals;
        listed = trees.listed;
        lists = trees.lists;
        fixed = right.fixed;
        standing = trees.standing;
        functions = trees.functions;
        cases = trees.cases;
        uses = trees.uses;
        measured = measured units p linkable tables h types made named;
      };
      signatures = h.signatures;
      lengths = lengths units p linkable tables h types made named;
      entities = entities units p linkable h;
      nodes = nodes units p linkable h;
      entries = (linked_entries units p linkable h).each;
    }
