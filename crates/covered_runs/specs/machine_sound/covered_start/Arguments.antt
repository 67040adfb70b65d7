-- That the words of the program's start are covered: the texts of main's arguments, and the list that points to them.
use Rattle.std.specs.Prelude.{◌≡◌, ℕ, ◌+◌, ◌<◌, ℤ, List, Some, length, slice_get}
use Rattle.c_types.specs.declared.key.ObjectKey.TheVariants.{Library as LibraryKey}
use Rattle.core_tree.specs.declared.node.Program.{Program}
use Rattle.sol_model.specs.declared.system.System.{System}
use Rattle.sol_model.specs.Families.{Family}
use Rattle.obj_space.specs.Space.{locations_in}
use Rattle.obj_space.specs.View.{first_from}
use Rattle.ref_cells.specs.declared.instance.Instance.{Instance}
use Rattle.ref_mem.specs.Writes.{changed}
use Rattle.ref_elements.specs.Objects.{object_from}
use Rattle.ref_state.specs.ref_types.Types.{id}
use Rattle.ref_start.specs.Objects.{cells_from, text_object}
use Rattle.ref_start.specs.Begin.{argument_pointers}
use Rattle.covering_laws.specs.covered_memory.Covered.{InstanceIn, MemoryIn, Leaves}
use Rattle.covered_runs.specs.machine_sound.covered_start.Objects.{machine_sets, IsSolved}

-- the text of an argument of main, where the program has such objects
abbrev pub TextsCovered : Type 0
TextsCovered =
    (p : Program) (system : System) (family : Family) (memory : List Instance) (text : List ℤ) (l : ℕ)
    → IsSolved p system family
    → first_from 0 (locations_in p) (LibraryKey 10) ≡ Some l
    → InstanceIn (machine_sets p family) memory (text_object (LibraryKey 10) (id (length p.types.terms + 1)) text)

-- so many texts of arguments one after another, the first of them of that number
abbrev pub AreTexts : List Instance → ℕ → ℕ → Type 0
AreTexts memory first count =
    (k : ℕ)
    → k < count
    → (x : Instance) × (slice_get memory (first + k) ≡ Some x) × (x.key ≡ LibraryKey 10)

-- an object of pointers to these, and null behind them
abbrev pub with_list : List Instance → ℕ → ℕ → ℕ → List Instance
with_list memory list first count =
    changed memory list (slice_get memory list)
    (λ inst. record inst { cells = cells_from 0 (argument_pointers first count) })

-- `<argv>`, which points to the texts of the arguments, leaves the memory covered
abbrev pub ListsCovered : Type 0
ListsCovered =
    (p : Program) (system : System) (family : Family) (memory : List Instance) (list first count : ℕ)
    → IsSolved p system family
    → MemoryIn (machine_sets p family) memory
    → object_from 9 0 memory ≡ Some list
    → AreTexts memory first count
    → Leaves (machine_sets p family) memory (with_list memory list first count)
