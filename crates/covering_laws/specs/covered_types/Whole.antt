-- Which types of a program's nodes are complete and have few nodes.
use Rattle.std.specs.Prelude.{◌≡◌, ◌⊎◌, ℕ, ◌≤◌, ◌^◌, List, [], ◌∷◌, IsSome, length}
use Rattle.c_types.specs.Trees.{Ctype, VoidType, PointerTo, FunctionFrom}
use Rattle.c_types.specs.Table.{Table, type_of, extent_in}
use Rattle.c_types.specs.Made.{IsMade}
use Rattle.type_rules.specs.Members.{IsMemberOf}
use Rattle.core_tree.specs.declared.node.NodeKind.{NodeKind}
use Rattle.core_tree.specs.declared.node.NodeKind.TheVariants.{Choose, Sequence, CallNode}
use Rattle.core_tree.specs.declared.node.Program.{Program}
use Rattle.core_tree.specs.Typed.{CoreTrees, ValueNode, IsStored, LacksLength, sort_of, type_at, trees_in}
use Rattle.core_tree.specs.Range.{EachNode}
use Rattle.core_tree.specs.Valid.{ValidProgram}
use Rattle.obj_space.specs.Parts.{nodes_of as tree_nodes}

-- the nodes of a type are few enough to have rows
abbrev pub IsFew : Table → Ctype → Type 0
IsFew table t = length (tree_nodes (extent_in table t)) ≤ 2 ^ 24

-- a complete type with few nodes
pub record IsWhole (table : Table) (t : Ctype) : Type 0 where
  pub complete : IsSome (extent_in table t)
  pub few : IsFew table t

-- a type that a value may have: void, or a complete type with few nodes
abbrev pub IsHeld : Table → Ctype → Type 0
IsHeld table t = (t ≡ VoidType) ⊎ IsWhole table t

-- what the function gives that a callee of that type points to
abbrev pub IsGivenBy : Ctype → Ctype → Type 0
IsGivenBy (PointerTo (FunctionFrom r ps f)) t = r ≡ t
IsGivenBy callee t = ⊥

-- where the type of a node's value comes from: a call's from its callee, that of a choice and of a sequence from the
-- values that they pass on; any other node's is one that a value may have
abbrev pub HasValue : CoreTrees → NodeKind → Ctype → List ℕ → Type 0
HasValue u CallNode t (c ∷ arguments) = IsGivenBy (type_at u c) t
HasValue u Choose t (c ∷ a ∷ b ∷ []) = (type_at u a ≡ t) × (type_at u b ≡ t)
HasValue u Sequence t (a ∷ b ∷ []) = type_at u b ≡ t
HasValue u kind t children = IsHeld u.types t

-- a member has a place of its own, so it is complete, and so is what it is a member of
pub record IsPlaced (table : Table) (whole t : Ctype) : Type 0 where
  pub part : IsSome (extent_in table t)
  pub whole_one : IsSome (extent_in table whole)

-- what is read, written, chosen and taken out of a value is complete and has few nodes
pub record AreWhole (p : Program) : Type 0 where
  pub stored : EachNode (trees_in p)
      (λ n node. sort_of node.kind ≡ ValueNode → IsStored (type_of p.types node.ty.0)
      → IsWhole p.types (type_of p.types node.ty.0))
  pub values : EachNode (trees_in p)
      (λ n node. sort_of node.kind ≡ ValueNode
      → HasValue (trees_in p) node.kind (type_of p.types node.ty.0) node.children)
  pub members : (whole : Ctype) (k : ℕ) (t : Ctype)
      → IsMemberOf p.types whole k t
      → (LacksLength t → ⊥)
      → IsPlaced p.types whole t

-- each type of the table has few nodes
abbrev pub HasFew : Table → Type 0
HasFew table = (id : ℕ) → IsFew table (type_of table id)

abbrev pub TypesWhole : Type 0
TypesWhole = (p : Program) → ValidProgram p → IsMade p.types → HasFew p.types → AreWhole p
