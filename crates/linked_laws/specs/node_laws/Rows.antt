-- What the nodes of a linked program take.
use Rattle.std.specs.Prelude.{ℕ, ◌≡◌, ⊤, List, [], ◌∷◌}
use Rattle.c_types.specs.Trees.{Ctype}
use Rattle.c_types.specs.Table.{type_of}
use Rattle.core_tree.specs.declared.node.Unit.{Unit}
use Rattle.core_tree.specs.declared.node.Program.{Program}
use Rattle.core_tree.specs.declared.node.NodeKind.{NodeKind}
use Rattle.core_tree.specs.declared.node.NodeKind.TheVariants.{Member, Upcast, Assign, Choose, Sequence}
use Rattle.core_tree.specs.declared.node.NodeKind.TheVariants.{MemberOfValue, NextArg}
use Rattle.core_tree.specs.Typed.{CoreTrees, ValueNode, sort_at, type_at, IsValue, trees_in}
use Rattle.core_tree.specs.Range.{EachNode}
use Rattle.core_tree.specs.Rows.{IsMember, IsFirst, IsArray, IsListPlace}
use Rattle.unit_link.specs.Linked.{LinkedAt}
use Rattle.unit_link.specs.Needs.{AreLinkable}
use Rattle.linked_laws.specs.merged_laws.Merged.{AreTables}

-- what a node of that kind and type takes of its children: a member's whole has it, a pointer is to a structure
-- with a first member, what an assignment stores, a choice chooses and a sequence ends with is a value of the node's
-- type, and a next argument is taken from a place of a list
abbrev pub Takes : CoreTrees → NodeKind → Ctype → List ℕ → Type 0
Takes u (Member k) t (p ∷ []) = IsMember u (type_at u p) k t
Takes u Upcast t (v ∷ []) = IsFirst u (type_at u v) t
Takes u Assign t (p ∷ v ∷ []) = IsValue u v t
Takes u Choose t (c ∷ a ∷ b ∷ []) = IsValue u a t × IsValue u b t
Takes u Sequence t (a ∷ b ∷ []) = IsValue u b t
Takes u (MemberOfValue k) t (v ∷ []) = (sort_at u v ≡ ValueNode) × IsMember u (type_at u v) k t × (IsArray t → ⊥)
Takes u NextArg t (p ∷ []) = IsListPlace u p
Takes u kind t children = ⊤

pub record HasRows (p : Program) : Type 0 where
  pub each : EachNode (trees_in p)
      (λ n node. Takes (trees_in p) node.kind (type_of p.types node.ty.0) node.children)

abbrev pub LinkedRows : Type 0
LinkedRows =
    (names : List (List ℕ)) (units : List Unit) (p : Program)
    → AreLinkable units
    → AreTables units
    → LinkedAt names units p
    → HasRows p
