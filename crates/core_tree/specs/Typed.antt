-- What a node is to the nodes above it.
use Rattle.std.specs.Prelude.{ℕ, ◌≡◌, List, Option, Some, None, slice_get}
use Rattle.c_types.specs.Trees.{Ctype, VoidType}
use Rattle.c_types.specs.Table.{Table, type_of}
use Rattle.type_rules.specs.Sizes.{IsObject}
pub use Rattle.type_rules.specs.Kinds.{IsInteger, IsPointer, IsScalar, IsAggregate, IsStored, IsPromoted, IsPassed}
pub use Rattle.type_rules.specs.Kinds.{LacksLength, IsList, IsVariadic}
pub use Rattle.type_rules.specs.Conversions.{decayed}
pub use Rattle.type_rules.specs.Numbers.{half_of, InSigned, InUnsigned, Holds}
use Rattle.core_tree.specs.declared.node.Unit.{Unit}
use Rattle.core_tree.specs.declared.node.Program.{Program}
use Rattle.core_tree.specs.declared.node.Node.{Node}
use Rattle.core_tree.specs.declared.node.Entity.{Entity}
use Rattle.core_tree.specs.declared.node.NodeKind.{NodeKind}
use Rattle.core_tree.specs.declared.node.NodeKind.TheVariants.{Named, Text, Literal, FunctionName, Deref, Member}
use Rattle.core_tree.specs.declared.node.NodeKind.TheVariants.{Expression, Block, If, While, DoWhile, For, Switch}
use Rattle.core_tree.specs.declared.node.NodeKind.TheVariants.{Case, Default, Label, Goto, Break, Continue, Return}
use Rattle.core_tree.specs.declared.node.NodeKind.TheVariants.{Initialise, Skip}

-- the types, nodes and entities of a unit or a program
pub record CoreTrees : Type 0 where
  pub types : Table
  pub nodes : List Node
  pub entities : List Entity

abbrev pub trees_of : Unit → CoreTrees
trees_of u = record { types = u.types; nodes = u.nodes.items; entities = u.entities.items }

abbrev pub trees_in : Program → CoreTrees
trees_in p = record { types = p.types; nodes = p.nodes.items; entities = p.entities.items }

-- what a node stands for: a place, a value or a statement
pub data Sort : Type 0 where
  NoNode : Sort
  PlaceNode : Sort
  ValueNode : Sort
  StatementNode : Sort

abbrev pub sort_of : NodeKind → Sort
sort_of (Named e) = PlaceNode
sort_of (Text bytes) = PlaceNode
sort_of (Literal e) = PlaceNode
sort_of (FunctionName e) = PlaceNode
sort_of Deref = PlaceNode
sort_of (Member k) = PlaceNode
sort_of Expression = StatementNode
sort_of (Block es) = StatementNode
sort_of If = StatementNode
sort_of While = StatementNode
sort_of DoWhile = StatementNode
sort_of (For es c a) = StatementNode
sort_of Switch = StatementNode
sort_of (Case n) = StatementNode
sort_of Default = StatementNode
sort_of (Label name) = StatementNode
sort_of (Goto name) = StatementNode
sort_of Break = StatementNode
sort_of Continue = StatementNode
sort_of Return = StatementNode
sort_of (Initialise e paths) = StatementNode
sort_of Skip = StatementNode
sort_of kind = ValueNode

abbrev pub sort_in : Option Node → Sort
sort_in None = NoNode
sort_in (Some n) = sort_of n.kind

abbrev pub type_in : Table → Option Node → Ctype
type_in table None = VoidType
type_in table (Some n) = type_of table n.ty.0

abbrev pub sort_at : CoreTrees → ℕ → Sort
sort_at u i = sort_in (slice_get u.nodes i)

abbrev pub type_at : CoreTrees → ℕ → Ctype
type_at u i = type_in u.types (slice_get u.nodes i)

abbrev pub IsPlace : CoreTrees → ℕ → Ctype → Type 0
IsPlace u i t = (sort_at u i ≡ PlaceNode) × (type_at u i ≡ t)

abbrev pub IsValue : CoreTrees → ℕ → Ctype → Type 0
IsValue u i t = (sort_at u i ≡ ValueNode) × (type_at u i ≡ t)

abbrev pub IsStatement : CoreTrees → ℕ → Type 0
IsStatement u i = sort_at u i ≡ StatementNode

abbrev pub IsComplete : CoreTrees → Ctype → Type 0
IsComplete u t = IsObject u.types t
