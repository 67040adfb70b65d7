-- What initialisers hold.
use Rattle.std.specs.Prelude.{ℕ, ◌≡◌, ◌⊎◌, ⊤, List, ◌∷◌, Some, slice_get}
use Rattle.c_types.specs.declared.term.PathStep.{PathStep}
use Rattle.c_types.specs.Trees.{Ctype}
use Rattle.c_types.specs.Table.{type_of}
use Rattle.c_types.specs.Paths.{type_at_path}
use Rattle.core_tree.specs.declared.node.Unit.{Unit}
use Rattle.core_tree.specs.declared.node.Program.{Program}
use Rattle.core_tree.specs.declared.node.Node.{Node}
use Rattle.core_tree.specs.declared.node.Entity.{Entity}
use Rattle.core_tree.specs.declared.node.NodeKind.TheVariants.{Initialise}
use Rattle.core_tree.specs.Typed.{CoreTrees, ValueNode, sort_at, type_at, trees_in}
use Rattle.unit_link.specs.Linked.{LinkedAt}
use Rattle.unit_link.specs.Needs.{AreLinkable}
use Rattle.linked_laws.specs.alike_laws.Alike.{IsClosed}
use Rattle.linked_laws.specs.merged_laws.Merged.{AreTables}

-- the value has the type at the end of the path, or a type without nodes
abbrev pub Fills : CoreTrees → Ctype → List PathStep → ℕ → Type 0
Fills u t path v = (type_at_path u.types (Some t) path ≡ Some (type_at u v)) ⊎ (IsClosed (type_at u v) → ⊥)

-- a value for each path
abbrev pub AllFill : CoreTrees → Ctype → List (List PathStep) → List ℕ → Type 0
AllFill u t (path ∷ paths) (v ∷ values) = (sort_at u v ≡ ValueNode) × Fills u t path v × AllFill u t paths values
AllFill u t paths values = ⊤

pub record HasInitials (p : Program) : Type 0 where
  pub each : (n : ℕ) (node : Node) (e : ℕ) (paths : List (List PathStep)) (entity : Entity)
      → slice_get p.nodes.items n ≡ Some node
      → node.kind ≡ Initialise e paths
      → slice_get p.entities.items e ≡ Some entity
      → AllFill (trees_in p) (type_of p.types entity.ty.0) paths node.children

abbrev pub LinkedInitials : Type 0
LinkedInitials =
    (names : List (List ℕ)) (units : List Unit) (p : Program)
    → AreLinkable units
    → AreTables units
    → LinkedAt names units p
    → HasInitials p
