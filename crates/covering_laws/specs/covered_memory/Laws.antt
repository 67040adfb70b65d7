-- That reads, writes and changes of instances keep what sets cover.
use Rattle.std.specs.Prelude.{◌≡◌, ℕ, false, List, Some, Ok, slice_get}
use Rattle.c_types.specs.Trees.{Ctype}
use Rattle.c_types.specs.Made.{IsMade, AreNamed}
use Rattle.core_tree.specs.declared.node.Program.{Program}
use Rattle.sol_model.specs.declared.system.System.{System}
use Rattle.obj_space.specs.declared.location.Location.{Location}
use Rattle.obj_space.specs.Space.{locations_in}
use Rattle.obj_space.specs.Spots.{ReachesParts}
use Rattle.obj_space.specs.View.{view_of}
use Rattle.ref_cells.specs.declared.cells.Cell.{Cell}
use Rattle.ref_cells.specs.declared.cells.Value.{Value}
use Rattle.ref_cells.specs.declared.instance.Instance.{Instance}
use Rattle.ref_mem.specs.Reads.{read}
use Rattle.ref_mem.specs.Writes.{write, changed}
use Rattle.normal_form.specs.SystemOf.{SystemOf}
use Rattle.covering_laws.specs.covered_memory.Covered.{Sets, CellIn, ValueIn, MemoryIn, Leaves}
use Rattle.covering_laws.specs.covered_memory.Demands.{Grounds, IsFew, Loads, Stores}

-- a read at a covered place of a covered memory gives a value that is covered at each row that loads from the
-- place's row
abbrev pub ReadsCovered : Type 0
ReadsCovered =
    (g : Sets) (system : System)
    → Grounds g.table g.space system
    → (memory : List Instance) (through : ℕ) (place : Cell) (t : Ctype) (row : ℕ → ℕ) (v : Value)
    → MemoryIn g memory
    → CellIn g memory (Some through) place
    → IsFew g.table t
    → Loads g.table system g.family through row t
    → read g.table memory place t ≡ Ok v
    → ValueIn g memory row t v

-- a write of a covered value at a covered place leaves a covered memory covered where the value's rows are stored
-- through the place's row
abbrev pub WritesCovered : Type 0
WritesCovered =
    (g : Sets) (system : System)
    → Grounds g.table g.space system
    → (memory : List Instance) (through : ℕ) (place : Cell) (t : Ctype) (row : ℕ → ℕ) (v : Value)
    (after : List Instance)
    → MemoryIn g memory
    → CellIn g memory (Some through) place
    → IsFew g.table t
    → Stores g.table system g.family through row t
    → ValueIn g memory row t v
    → write g.table memory place t v ≡ Ok after
    → Leaves g memory after

-- an instance that ends leaves a covered memory covered
abbrev pub EndsCovered : Type 0
EndsCovered =
    (g : Sets) (system : System)
    → Grounds g.table g.space system
    → (memory : List Instance) (i : ℕ)
    → MemoryIn g memory
    → Leaves g memory (changed memory i (slice_get memory i) (λ inst. record inst { live = false }))

-- a program's system stands on its types and locations
abbrev pub SystemsGrounded : Type 0
SystemsGrounded =
    (p : Program) (space : List Location) (system : System)
    → space ≡ locations_in p
    → IsMade p.types
    → AreNamed p.types
    → ReachesParts p.types space
    → SystemOf p (view_of space) system
    → Grounds p.types space system
