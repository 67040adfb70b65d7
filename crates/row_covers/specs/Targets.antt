-- Which calls and functions objects and nodes are, and what stands in the call graph, as the code decides it.
use Rattle.std.specs.Prelude.{◌≡◌, ℕ, Bool, false, if◌then◌else◌, List, Option, Some, None, Contains, take, sum_by}
use Rattle.std.specs.Prelude.{slice_get, option_and_then}
use Rattle.core_tree.specs.declared.node.Node.{Node}
use Rattle.sol_model.specs.declared.system.System.{System}
use Rattle.sol_model.specs.declared.system.CallSite.{CallSite}
use Rattle.sol_model.specs.declared.system.Function.{Function}
use Rattle.sol_model.specs.Families.{Family}
use Rattle.sol_model.specs.Targets.{IsTargetOf, IsGraphEdge}
use Rattle.call_sites.specs.Calls.{is_call}
use Rattle.row_covers.specs.Edges.{IsBackOf}

unfoldable pub is_call_node : Node → Bool
is_call_node node = is_call node.kind

abbrev pub is_call_in : Option Node → Bool
is_call_in None = false
is_call_in (Some node) = is_call_node node

-- one for a call
abbrev pub call_unit : Node → ℕ
call_unit node = if is_call_node node then 1 else 0

-- how many of the first so many nodes are calls
abbrev pub call_count : List Node → ℕ → ℕ
call_count nodes n = sum_by call_unit (take n nodes)

-- the number of the call at a node
abbrev pub call_number : List Node → ℕ → Option ℕ
call_number nodes n = if is_call_in (slice_get nodes n) then Some (call_count nodes n) else None

-- the number of the function at a location
abbrev pub function_in : System → Option ℕ → Option ℕ
function_in system None = None
function_in system (Some l) = option_and_then (λ fact. fact.function) (slice_get system.locations l)

-- a function is a target of a call, where there are both
abbrev pub TargetBy : System → Family → Option ℕ → Option ℕ → Type 0
TargetBy system F (Some call) (Some function) = IsTargetOf system F call function
TargetBy system F call function = ⊥

-- an edge of the call graph, where there are both functions
abbrev pub GraphBy : System → Family → Option ℕ → Option ℕ → Type 0
GraphBy system F (Some caller) (Some callee) = IsGraphEdge system F caller callee
GraphBy system F caller callee = ⊥

abbrev pub BackOf : System → Family → Option CallSite → Option Function → Type 0
BackOf system F (Some call) (Some back) = IsBackOf system F call back
BackOf system F call back = ⊥

-- a target of a call calls a function back, where there are both
abbrev pub BackBy : System → Family → Option ℕ → Option ℕ → Type 0
BackBy system F (Some call) (Some back) = BackOf system F (slice_get system.calls call) (slice_get system.functions back)
BackBy system F call back = ⊥
