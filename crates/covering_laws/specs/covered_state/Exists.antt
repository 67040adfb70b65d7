-- That what the pointers of a covered state name is there.
use Rattle.std.specs.Prelude.{ℕ, ◌<◌, ⊤, List, Some, length, slice_get, ◌≡◌}
use Rattle.ref_cells.specs.declared.cells.Cell.{Cell}
use Rattle.ref_cells.specs.declared.cells.Cell.TheVariants.{Pointer}
use Rattle.ref_cells.specs.declared.instance.Instance.{Instance}
use Rattle.ref_cells.specs.Cells.{CellList}
use Rattle.ref_state.specs.declared.items.Item.{Item}
use Rattle.ref_state.specs.declared.items.Item.TheVariants.{Do, Wait, Library, Result}
use Rattle.ref_state.specs.declared.state.State.{State}
use Rattle.covering_laws.specs.covered_memory.Cells.{EachCell}
use Rattle.covering_laws.specs.covered_state.World.{World}
use Rattle.covering_laws.specs.covered_state.Items.{Each}
use Rattle.covering_laws.specs.covered_state.State.{Covered}

-- a pointer to one of the first so many instances, or no pointer
abbrev pub NamesBelow : ℕ → Cell → Type 0
NamesBelow count (Pointer i path past) = i < count
NamesBelow count cell = ⊤

abbrev pub AllBelow : ℕ → CellList → Type 0
AllBelow count cells = EachCell (λ path cell. NamesBelow count cell) cells

abbrev pub ItemBelow : ℕ → Item → Type 0
ItemBelow count (Do n) = ⊤
ItemBelow count (Wait n left values) = Each (λ v. AllBelow count v.1.cells) values
ItemBelow count (Library n function arguments) = Each (λ v. AllBelow count v.cells) arguments
ItemBelow count (Result v) = AllBelow count v.cells

-- the pointers of a memory name its first so many instances
abbrev pub MemoryBelow : ℕ → List Instance → Type 0
MemoryBelow count memory =
    (i : ℕ) (inst : Instance) → slice_get memory i ≡ Some inst → AllBelow count inst.cells

-- the pointers of memory and items, and those that were handed over, name instances of the memory
pub record PointersExist (state : State) : Type 0 where
  pub memory : MemoryBelow (length state.memory) state.memory
  pub frames : Each (λ f. Each (ItemBelow (length state.memory)) f.items) state.frames
  pub handed : Each (λ entry. NamesBelow (length state.memory) entry.1) state.handed

abbrev pub CoveredExist : Type 0
CoveredExist = (world : World) (state : State) → Covered world state → PointersExist state
