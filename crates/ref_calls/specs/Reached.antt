-- The row of a call (C11 6.5.2.2).
use Rattle.std.specs.Prelude.{ℕ, if◌then◌else◌, List, [], ◌∷◌, Option, Some, None, Result, Ok, Err, map, slice_get}
use Rattle.core_tree.specs.declared.node.Node.{Node}
use Rattle.core_tree.specs.Typed.{CoreTrees}
use Rattle.ref_cells.specs.declared.cells.Reason.{Reason}
use Rattle.ref_cells.specs.declared.cells.Reason.TheVariants.{Unset as UnsetUse, Mismatch}
use Rattle.ref_cells.specs.declared.cells.Value.{Value}
use Rattle.ref_elements.specs.Runs.{◌>>=◌}
use Rattle.ref_state.specs.Values.{value_in, cell_in}
use Rattle.ref_values.specs.Values.{lacks}
use Rattle.ref_calls.specs.Calls.{callee_of}
use Rattle.ref_calls.specs.declared.reached.Target.{Target}

-- the callee is judged first, then whether the arguments are there
abbrev pub reached_by : CoreTrees → List ℕ → List (ℕ × Value) → Result Target Reason
reached_by u (c ∷ arguments) values =
    callee_of u c arguments (cell_in values c) >>= λ key.
    (if lacks u values arguments then Err UnsetUse
    else Ok (record { key = key; arguments = map (value_in values) arguments }))
reached_by u [] values = Err Mismatch

abbrev pub children_of : Option Node → List ℕ
children_of None = []
children_of (Some node) = node.children

-- the function that the call at a node reaches, with its arguments
unfoldable pub reached : CoreTrees → ℕ → List (ℕ × Value) → Result Target Reason
reached u n values = reached_by u (children_of (slice_get u.nodes n)) values
