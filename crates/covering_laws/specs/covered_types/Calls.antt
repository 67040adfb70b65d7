-- What a call and the function that it reaches are to each other.
use Rattle.std.specs.Prelude.{◌≡◌, ℕ, zero, suc, Option, Some, None, slice_get}
use Rattle.c_types.specs.declared.term.Form.{Form}
use Rattle.c_types.specs.Trees.{Ctype, Ctypes, NoTypes, MoreTypes, PointerTo, FunctionFrom, trees_at}
use Rattle.c_types.specs.Table.{type_of, types_of}
use Rattle.type_rules.specs.Conversions.{result_of}
use Rattle.core_tree.specs.declared.node.Node.{Node}
use Rattle.core_tree.specs.declared.node.NodeKind.TheVariants.{CallNode}
use Rattle.core_tree.specs.declared.node.Program.{Program}
use Rattle.core_tree.specs.Typed.{CoreTrees, IsValue, type_at, trees_in}
use Rattle.core_tree.specs.Range.{node_at}
use Rattle.core_tree.specs.Valid.{InRows}
use Rattle.call_sites.specs.Signatures.{called_type, calling_type}
use Rattle.call_sites.specs.Calls.{head_of, rest_of, ids_of}

abbrev pub type_from : Ctypes → ℕ → Option Ctype
type_from NoTypes k = None
type_from (MoreTypes t rest) zero = Some t
type_from (MoreTypes t rest) (suc k) = type_from rest k

-- the types of a function's parameters
abbrev pub parameter_types : Ctype → Ctypes
parameter_types (FunctionFrom result parameters form) = parameters
parameter_types t = NoTypes

-- the type of a call
abbrev pub call_type : CoreTrees → Node → Ctype
call_type u node =
    calling_type (type_at u (head_of node.children))
    (trees_at (types_of u.types) (ids_of u.nodes (rest_of node.children)))

-- what is called is a pointer to a function
pub record CallsFunction (u : CoreTrees) (node : Node) : Type 0 where
  pub result : Ctype
  pub parameters : Ctypes
  pub form : Form
  pub callee : IsValue u (head_of node.children) (PointerTo (FunctionFrom result parameters form))
  pub gives : result ≡ type_of u.types node.ty.0

-- a call of a function of that type gives what the function gives, and an argument has its parameter's type
pub record IsCallOf (u : CoreTrees) (node : Node) (own : Ctype) : Type 0 where
  pub result : result_of own ≡ type_of u.types node.ty.0
  pub arguments : (k a : ℕ) (t : Ctype)
      → slice_get (rest_of node.children) k ≡ Some a
      → type_from (parameter_types (called_type own)) k ≡ Some t
      → IsValue u a t

-- a call calls a pointer to a function, and where the function that it reaches has the type of the call, it is a call
-- of that function
pub record AreCallsRight (p : Program) : Type 0 where
  pub called : (n : ℕ) (node : Node)
      → node_at (trees_in p) n ≡ Some node
      → node.kind ≡ CallNode
      → CallsFunction (trees_in p) node
  pub reached : (n : ℕ) (node : Node) (own : Ctype)
      → node_at (trees_in p) n ≡ Some node
      → node.kind ≡ CallNode
      → called_type own ≡ call_type (trees_in p) node
      → IsCallOf (trees_in p) node own

abbrev pub CallsFit : Type 0
CallsFit = (p : Program) → InRows (trees_in p) → AreCallsRight p
