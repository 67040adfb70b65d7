-- Each node of a linked program stands in its row.
use Rattle.std.proofs.Common.{◌≡◌, ◌∙◌, ℕ, ◌<◌, true, List, Option, Some, None, is_some, refl, sym, ap, subst, inl, inr}
use Rattle.std.specs.List.{slice_get}
use Rattle.c_types.specs.Trees.{Ctype}
use Rattle.c_types.specs.Table.{type_of}
use Rattle.c_types.specs.Made.{IsMade}
use Rattle.core_tree.specs.declared.node.Unit.{Unit}
use Rattle.core_tree.specs.declared.node.Program.{Program}
use Rattle.core_tree.specs.declared.node.Node.{Node}
use Rattle.core_tree.specs.declared.node.Entity.{Entity}
use Rattle.core_tree.specs.declared.node.NodeKind.{NodeKind}
use Rattle.core_tree.specs.declared.node.NodeKind.TheVariants.{VarArgs, Initialise}
use Rattle.core_tree.specs.Typed.{type_in, type_at, trees_in, trees_of}
use Rattle.core_tree.specs.Rows.{IsVariadicIn, RowOf}
use Rattle.core_tree.specs.Valid.{InRow, InRows, UnderBody, InBodyOf, IsInOwner}
use Rattle.link_model.specs.declared.item.Item.{Item}
use Rattle.link_model.specs.Units.{item, types_if}
use Rattle.link_model.specs.Partition.{HasTags}
use Rattle.link_model.specs.Merged.{moved}
use Rattle.unit_link.specs.Linked.{LinkedAt}
use Rattle.unit_link.specs.Needs.{AreLinkable}
use Rattle.unit_link.specs.Places.{kind_renamed}
use Rattle.linked_laws.specs.merged_laws.Merged.{AreTables}
use Rattle.link_model.specs.filled_units.Filled.{AreFilled}
use Rattle.linked_laws.specs.sized_laws.Sizes.{AreKeyed}
use Rattle.linked_laws.proofs.sized_laws.Counting.{same_key}
use Rattle.linked_laws.proofs.embedded_laws.Nodes.{each_node}
use Rattle.linked_laws.specs.row_laws.Rows.{AreRowsRight}
use Rattle.linked_laws.proofs.row_laws.Apart.{type_tags, renamed_once}
use Rattle.linked_laws.proofs.row_laws.Rows.{HasInitial, row_to}
use Rattle.linked_laws.proofs.row_laws.Initial.{initial_to}
use Rattle.linked_laws.proofs.row_laws.Names.{variadic_made}
use Rattle.linked_laws.proofs.row_laws.Fixed.{fixed_statics}

module _ {names : List (List ℕ)} (units : List Unit) (p : Program) (linkable : AreLinkable units) (tables : AreTables units) (filled : AreFilled units) (made : IsMade p.types) (h : LinkedAt names units p) where
  keyed : AreKeyed units
  keyed = record { each = λ u x is. (linkable.valid u x is).keys }

  module _ (u : ℕ) (of : Unit) (is : slice_get units u ≡ Some of) where
    tag_once : (a b : ℕ) → a < of.types.tags → b < of.types.tags → h.numbers.tag u a ≡ h.numbers.tag u b → a ≡ b
    tag_once a b la lb e =
        let one = (h.types.one (item u a) (item u b) (subst (λ (o : Option Unit). a < (types_if o).tags) (sym is) la) (subst (λ (o : Option Unit). b < (types_if o).tags) (sym is) lb)).0 e in
        elim one [
          | inl same ↦ ap (λ (i : Item). i.number) same
          | inr keys ↦ ap (λ (i : Item). i.number) (same_key units keyed (item u a) (item u b) refl keys.0)
        ]

    child_tags : (c : ℕ) → HasTags of.types.tags (type_at (trees_of of) c)
    child_tags c = by (slice_get of.nodes.items c)
      where
        by : (o : Option Node) → HasTags of.types.tags (type_in of.types o)
        by None = tt
        by (Some x) = type_tags of.types x.ty.0 (tables.named u of is)

    -- types that differ differ in the program
    once : (id c : ℕ) → moved h.numbers u (type_at (trees_of of) c) ≡ moved h.numbers u (type_of of.types id) → type_at (trees_of of) c ≡ type_of of.types id
    once id c e = renamed_once (h.numbers.tag u) of.types.tags tag_once (type_at (trees_of of) c) (type_of of.types id) (child_tags c) (type_tags of.types id (tables.named u of is)) e

    bodied : (i : ℕ) (o : Option ℕ) → UnderBody (trees_of of) o i → is_some o ≡ true
    bodied i None up = absurd up
    bodied i (Some b) up = refl

    -- the list of a function's further arguments stands in its body
    variadic : (i e : ℕ) (o : Option Entity) → slice_get of.entities.items e ≡ o → InBodyOf (trees_of of) o i → IsVariadicIn (trees_of of) o → IsVariadicIn (trees_in p) (slice_get p.entities.items (h.entity_numbers u e))
    variadic i e None at inside is_variadic = absurd inside
    variadic i e (Some x) at inside is_variadic = variadic_made units p linkable h u e of x is at (bodied i x.body inside.1) is_variadic

    has_initial : (i : ℕ) (x : Node) → slice_get of.nodes.items i ≡ Some x → (kind : NodeKind) → x.kind ≡ kind → HasInitial units p linkable tables made h u of is kind x.children
    has_initial i x at (Initialise e paths) kind = initial_to units p linkable tables filled h u of is i e paths x at kind
    has_initial i x at (VarArgs e) kind = variadic i e (slice_get of.entities.items e) refl (subst (IsInOwner (trees_of of) i) kind ((linkable.valid u of is).trees.in_owner i x at))
    has_initial i x at other kind = tt

  pub rows : InRows (trees_in p)
  rows = each_node units p linkable h (λ n node. InRow (trees_in p) node) (λ u i of x m is x_at m_at moves.
      let links = (linkable.valid u of is).linkages.nodes i x x_at in
      let t = type_of of.types x.ty.0 in
      let type : type_of p.types m.ty.0 ≡ moved h.numbers u t = moves.type ∙ ap (λ (o : Option Unit). moved h.numbers u (type_of (types_if o) x.ty.0)) is in
      let row = row_to units p linkable tables made h u of is x.kind t x.children links.declared links.literal (once u of is x.ty.0) (has_initial u of is i x x_at x.kind refl) ((linkable.valid u of is).trees.rows i x x_at) in
      subst (λ (k : NodeKind). RowOf (trees_in p) k (type_of p.types m.ty.0) m.children) (sym moves.kind)
      (subst (λ (s : Ctype). RowOf (trees_in p) (kind_renamed (h.entity_numbers u) x.kind) s m.children) (sym type)
      (subst (λ (l : List ℕ). RowOf (trees_in p) (kind_renamed (h.entity_numbers u) x.kind) (moved h.numbers u t) l) (sym moves.children) row)))

pub linked_in_rows : {names : List (List ℕ)} (units : List Unit) (p : Program) → AreLinkable units → AreTables units → AreFilled units → LinkedAt names units p → IsMade p.types → AreRowsRight p
linked_in_rows units p linkable tables filled h made = record { rows = rows units p linkable tables filled made h; fixed = fixed_statics units p linkable h filled }
