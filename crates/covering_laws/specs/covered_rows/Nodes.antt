-- What nodes hold, and that sets cover it.
use Rattle.std.specs.Prelude.{◌≡◌, ℕ, ◌<◌, List, Some, slice_get}
use Rattle.c_types.specs.Trees.{Ctype}
use Rattle.c_types.specs.Table.{type_of}
use Rattle.core_tree.specs.declared.node.Node.{Node}
use Rattle.core_tree.specs.declared.node.NodeKind.{NodeKind}
use Rattle.core_tree.specs.Typed.{CoreTrees, type_at}
use Rattle.ref_cells.specs.declared.cells.Cell.{Cell}
use Rattle.ref_cells.specs.declared.cells.Value.{Value}
use Rattle.ref_cells.specs.declared.instance.Instance.{Instance}
use Rattle.row_numbers.specs.Kept.{kept_row}
use Rattle.row_numbers.specs.Setting.{Setting}
use Rattle.call_sites.specs.Calls.{head_of, rest_of, variadic_count}
use Rattle.normal_form.specs.Assignments.{row_in, type_nodes}
use Rattle.covering_laws.specs.covered_memory.Covered.{Sets, CellIn, ValueIn}

-- a node of a program with its kind, type and children
pub record IsNode (u : CoreTrees) (n : ℕ) (kind : NodeKind) (t : Ctype) (children : List ℕ) : Type 0 where
  pub node : Node
  pub there : slice_get u.nodes n ≡ Some node
  pub kind_is : node.kind ≡ kind
  pub type_is : type_of u.types node.ty.0 ≡ t
  pub children_are : node.children ≡ children

-- the row of each node of a node's value
abbrev pub node_row : Setting → ℕ → ℕ → ℕ
node_row w n i = kept_row (row_in w n) (type_nodes w (type_at w.trees n)) i

-- a place that a node holds is in its row
abbrev pub PlaceIn : Sets → Setting → List Instance → ℕ → Cell → Type 0
PlaceIn g w memory n place = CellIn g memory (Some (row_in w n)) place

-- a value that a node holds is in its rows
abbrev pub HeldIn : Sets → Setting → List Instance → ℕ → Value → Type 0
HeldIn g w memory n value = ValueIn g memory (node_row w n) (type_at w.trees n) value

-- an argument that has a parameter stands in front of all that a variadic function is passed past these
abbrev pub IsWithin : CoreTrees → ℕ → ℕ → Type 0
IsWithin u callee k = (count : ℕ) → variadic_count (type_at u callee) ≡ Some count → k < count

-- argument k of a call is that node, and has a parameter
abbrev pub IsArgument : CoreTrees → Node → ℕ → ℕ → Type 0
IsArgument u node k a = (slice_get (rest_of node.children) k ≡ Some a) × IsWithin u (head_of node.children) k
