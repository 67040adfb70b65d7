-- The rows of a program: those of the locations first, then those of each node in order, then those of each
-- function's result, and one row that stands for every node without a row.
use Rattle.std.specs.Prelude.{ℕ, ◌+◌, Bool, true, false, if◌then◌else◌, List, [], ◌∷◌, Option, Some, None, take, map}
use Rattle.std.specs.Prelude.{sum, slice_get}
use Rattle.c_types.specs.declared.key.ObjectKey.{ObjectKey}
use Rattle.c_types.specs.declared.term.Form.{Form}
use Rattle.c_types.specs.declared.term.Form.TheVariants.{Variadic}
use Rattle.c_types.specs.Trees.{Ctype, PointerTo, FunctionFrom}
use Rattle.c_types.specs.Table.{Table, type_of}
use Rattle.type_rules.specs.Conversions.{result_of}
use Rattle.core_tree.specs.declared.node.Node.{Node}
use Rattle.core_tree.specs.declared.node.NodeKind.{NodeKind}
use Rattle.core_tree.specs.declared.node.NodeKind.TheVariants.{NextArg, CallNode}
use Rattle.core_tree.specs.Typed.{CoreTrees, Sort, PlaceNode, ValueNode, sort_of, type_at}
use Rattle.obj_space.specs.View.{SpaceView}
use Rattle.row_numbers.specs.Kept.{nodes_of, kept_count, row_list}
use Rattle.row_numbers.specs.Functions.{functions_of, key_type}

-- a program's trees, its locations, the function around each node, and the functions at which it is entered
pub record Setting : Type 0 where
  pub trees : CoreTrees
  pub space : SpaceView
  pub owners : List (Option ℕ)
  pub entries : List ℕ

-- a place has one row, a value one for each of its kept nodes, a statement none
abbrev pub width_by : Sort → ℕ → ℕ
width_by PlaceNode kept = 1
width_by ValueNode kept = kept
width_by sort kept = 0

abbrev pub own_width : Table → Node → ℕ
own_width table node = width_by (sort_of node.kind) (kept_count (nodes_of table (type_of table node.ty.0)))

-- a function that takes arguments past its parameters, and a pointer to one
abbrev pub is_further : Form → Bool
is_further Variadic = true
is_further form = false

abbrev pub takes_further : Ctype → Bool
takes_further (FunctionFrom result parameters form) = is_further form
takes_further t = false

abbrev pub calls_further : Ctype → Bool
calls_further (PointerTo to) = takes_further to
calls_further t = false

-- before its own rows a node that takes the next argument of a list has one for what the list may be, and behind them
-- a call of a variadic function has one for all arguments past the parameters
abbrev pub lead : NodeKind → ℕ
lead NextArg = 1
lead kind = 0

abbrev pub trail_at : Bool → ℕ
trail_at further = if further then 1 else 0

abbrev pub trail : CoreTrees → NodeKind → List ℕ → ℕ
trail u CallNode (c ∷ arguments) = trail_at (calls_further (type_at u c))
trail u kind children = 0

abbrev pub width : CoreTrees → Node → ℕ
width u node = lead node.kind + own_width u.types node + trail u node.kind node.children

-- how many rows each node has
abbrev pub widths : CoreTrees → List ℕ
widths u = map (width u) u.nodes

-- the nodes of a function's result
abbrev pub result_nodes : CoreTrees → ObjectKey → List Ctype
result_nodes u key = nodes_of u.types (result_of (key_type u key))

-- how many rows the result of each function has
abbrev pub result_widths : CoreTrees → SpaceView → List ℕ
result_widths u s = map (λ key. kept_count (result_nodes u key)) (functions_of u s)

-- where the rows of each begin that has a number of rows, the first of them at first
abbrev pub start_at : ℕ → List ℕ → ℕ → ℕ
start_at first widths n = first + sum (take n widths)

abbrev pub lead_in : Option Node → ℕ
lead_in None = 0
lead_in (Some node) = lead node.kind

-- the row of a place or of a pointer, and the first row of any other value
unfoldable pub row : CoreTrees → SpaceView → ℕ → ℕ
row u s n = start_at s.count (widths u) n + lead_in (slice_get u.nodes n)

-- the row of what a node may be, which takes the next argument of a list, and the row of all further arguments of a
-- call
unfoldable pub list_row : CoreTrees → SpaceView → ℕ → ℕ
list_row u s n = start_at s.count (widths u) n

unfoldable pub rest_row : CoreTrees → SpaceView → ℕ → ℕ
rest_row u s n = row u s n + kept_count (nodes_of u.types (type_at u n))

-- the first row of the result of the function of that number
unfoldable pub result_row : CoreTrees → SpaceView → ℕ → ℕ
result_row u s number = start_at (s.count + sum (widths u)) (result_widths u s) number

-- the row that stands for every node without a row
unfoldable pub none_row : CoreTrees → SpaceView → ℕ
none_row u s = s.count + sum (widths u) + sum (result_widths u s)

-- how many rows there are
abbrev pub row_total : CoreTrees → SpaceView → ℕ
row_total u s = none_row u s + 1

-- a row for each node of a value
abbrev pub value_rows : CoreTrees → SpaceView → ℕ → List ℕ
value_rows u s n = row_list (none_row u s) (row u s n) (nodes_of u.types (type_at u n))
