-- The row of an initialiser (C11 6.7.9).
use Rattle.std.specs.Prelude.{ℕ, Bool, true, false, if◌then◌else◌, List, [], ◌∷◌, Option, Some, None, Ok, Err}
use Rattle.std.specs.Prelude.{slice_get}
use Rattle.c_types.specs.declared.key.ObjectKey.TheVariants.{Entity as EntityKey}
use Rattle.c_types.specs.declared.term.PathStep.{PathStep}
use Rattle.c_types.specs.declared.term.TypeId.{TypeId}
use Rattle.core_tree.specs.declared.node.Node.{Node}
use Rattle.core_tree.specs.declared.node.NodeKind.{NodeKind}
use Rattle.core_tree.specs.declared.node.NodeKind.TheVariants.{Initialise}
use Rattle.core_tree.specs.Typed.{CoreTrees}
use Rattle.ref_cells.specs.declared.cells.Reason.TheVariants.{Unset as UnsetUse, Mismatch}
use Rattle.ref_cells.specs.declared.cells.Value.{Value}
use Rattle.ref_cells.specs.declared.instance.Instance.{Instance}
use Rattle.ref_cells.specs.Cells.{CellList}
use Rattle.ref_mem.specs.declared.writes.Initial.{Initial}
use Rattle.ref_mem.specs.Writes.{changed, initialised}
use Rattle.ref_elements.specs.Outcomes.{pointers_in}
use Rattle.ref_state.specs.declared.frames.Frame.{Frame}
use Rattle.ref_state.specs.Items.{replaced}
use Rattle.ref_state.specs.Values.{value_in}
use Rattle.ref_places.specs.Places.{instance_of}
use Rattle.ref_values.specs.Values.{lacks}
use Rattle.ref_statements.specs.Rows.{Row}

abbrev pub id_in : Option Node → TypeId
id_in None = record { 0 = 0 }
id_in (Some node) = node.ty

-- a part of an initialiser: a path with the value for it, of the value's type
abbrev pub part_of : CoreTrees → List PathStep → ℕ → List (ℕ × Value) → Initial
part_of u path v values =
    record { path = path; ty = id_in (slice_get u.nodes v); cells = (value_in values v).cells }

abbrev pub parts : CoreTrees → List (List PathStep) → List ℕ → List (ℕ × Value) → List Initial
parts u (path ∷ paths) (v ∷ children) values = part_of u path v values ∷ parts u paths children values
parts u paths children values = []

-- all of the object is zero before, unless one value is for the whole of it
abbrev pub clears : List (List PathStep) → Bool
clears ([] ∷ []) = false
clears paths = true

abbrev pub cells_in : Option Instance → CellList
cells_in None = []
cells_in (Some inst) = inst.cells

-- the object's instance with its parts; what it holds then are the pointers that were put there
abbrev pub initialised_at : CoreTrees → List Instance → Frame → Option ℕ → List (List PathStep) → List Initial → Row
initialised_at u memory f None paths list = Err Mismatch
initialised_at u memory f (Some i) paths list =
    let after = changed memory i (slice_get memory i) (initialised u.types (clears paths) list) in
    Ok (record {
      memory = after;
      frame = record f { items = replaced 1 [] f.items };
      stores = pointers_in i (cells_in (slice_get after i));
    })

abbrev pub initialise_by : CoreTrees → List Instance → Frame → NodeKind → List ℕ → List (ℕ × Value) → Row
initialise_by u memory f (Initialise e paths) children values =
    initialised_at u memory f (instance_of memory f.instances (EntityKey e)) paths (parts u paths children values)
initialise_by u memory f kind children values = Err Mismatch

unfoldable pub initialise_row : CoreTrees → List Instance → Frame → Node → List (ℕ × Value) → Row
initialise_row u memory f node values =
    if lacks u values node.children then Err UnsetUse
    else initialise_by u memory f node.kind node.children values
