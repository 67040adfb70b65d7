-- What the code decides of memory and of the values of nodes is what it means that sets cover them.
use Rattle.std.specs.Prelude.{ℕ, ◌↔◌, List, All, length}
use Rattle.core_tree.specs.Typed.{Sort}
use Rattle.ref_cells.specs.declared.cells.Value.{Value}
use Rattle.ref_cells.specs.declared.instance.Instance.{Instance}
use Rattle.ref_cells.specs.Places.{AreKnown}
use Rattle.covering_laws.specs.covered_memory.Covered.{MemoryIn}
use Rattle.covering_laws.specs.covered_state.World.{World, trees_of, view_in, sets_of}
use Rattle.covering_laws.specs.covered_state.Items.{AllExist}
use Rattle.machine_covers.specs.Covers.{HasIn}
use Rattle.machine_covers.specs.Frames.{ValueExists}
use Rattle.row_covers.specs.Objects.{MemoryBy}
use Rattle.row_covers.specs.Values.{HasBy}

-- of each memory whose instances have types of the table
abbrev pub MemoryExact : Type 0
MemoryExact =
    (world : World) (memory : List Instance)
    → AreKnown (length world.program.types.terms) memory
    → MemoryBy (sets_of world) memory ↔ MemoryIn (sets_of world) memory

-- of each value of each node, one that the program hasn't got too
abbrev pub ValuesExact : Type 0
ValuesExact =
    (world : World) (memory : List Instance) (s : Sort) (n : ℕ) (v : Value)
    → HasBy (sets_of world) (trees_of world) (view_in world) memory s n v ↔ HasIn world memory s n v

-- of what the arguments of a library function that is called back point to
abbrev pub ArgumentsExact : Type 0
ArgumentsExact =
    (world : World) (memory : List Instance) (arguments : List Value)
    → All (λ v. ValueExists (sets_of world) memory v) arguments ↔ AllExist world memory arguments
