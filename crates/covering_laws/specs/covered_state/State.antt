-- What it means that sets cover a state.
use Rattle.std.specs.Prelude.{◌≡◌, ◌≢◌, ℕ, ⊤, List, [], Option, Some, None, Contains, slice_get}
use Rattle.c_types.specs.declared.key.ObjectKey.{ObjectKey}
use Rattle.c_types.specs.declared.key.ObjectKey.TheVariants.{Entity as EntityKey, Function as FunctionKey}
use Rattle.c_types.specs.declared.term.TypeId.{TypeId}
use Rattle.type_rules.specs.Conversions.{result_of}
use Rattle.core_tree.specs.Typed.{type_at}
use Rattle.sol_model.specs.declared.system.Function.{Function}
use Rattle.sol_model.specs.Targets.{IsGraphEdge}
use Rattle.row_numbers.specs.Functions.{key_type}
use Rattle.ref_cells.specs.declared.cells.Cell.{Cell}
use Rattle.ref_cells.specs.declared.instance.Instance.{Instance}
use Rattle.ref_state.specs.declared.frames.Frame.{Frame}
use Rattle.ref_state.specs.declared.notes.Notes.{Notes}
use Rattle.ref_state.specs.declared.state.State.{State}
use Rattle.covering_laws.specs.covered_memory.Covered.{CellIn, MemoryIn, outside_row}
use Rattle.covering_laws.specs.covered_library.Calls.{StoresIn}
use Rattle.covering_laws.specs.covered_state.World.{World, trees_of, sets_of, IsTargetAt, IsFunctionAt}
use Rattle.covering_laws.specs.covered_state.Items.{Each, ItemIn}
use Rattle.covering_laws.specs.covered_state.Awaited.{AwaitedIn}

-- a frame's function is a target of the call that entered it, and the call gives what the function gives
abbrev pub CalledIn : World → ObjectKey → Option ℕ → Type 0
CalledIn world key None = ⊤
CalledIn world key (Some n) =
    IsTargetAt world n key × (result_of (key_type (trees_of world) key) ≡ type_at (trees_of world) n)

-- a function that calls a library function back, or has it among its targets
pub record IsInGraph (world : World) (library : ℕ) (key : ObjectKey) : Type 0 where
  pub caller : ℕ
  pub caller_is : IsFunctionAt world caller (FunctionKey library)
  pub callee : ℕ
  pub callee_is : IsFunctionAt world callee key
  pub edge : IsGraphEdge world.system world.family caller callee

abbrev pub BackIn : World → ObjectKey → Option ℕ → Type 0
BackIn world key None = ⊤
BackIn world key (Some library) = IsInGraph world library key

-- where the program is entered from outside, a function at which it is
abbrev pub IsEntered : World → ObjectKey → Type 0
IsEntered world key =
    world.program.entries.items ≢ [] → (e : ℕ) × (key ≡ EntityKey e) × Contains world.program.entries.items e

-- a frame that neither a call nor a library function entered is of such a function
abbrev pub EnteredIn : World → ObjectKey → Option ℕ → Option ℕ → Type 0
EnteredIn world key None None = IsEntered world key
EnteredIn world key call by = ⊤

pub record FrameIn (world : World) (memory : List Instance) (f : Frame) : Type 0 where
  pub called : CalledIn world f.function f.call
  pub back : BackIn world f.function f.by
  pub entered : EnteredIn world f.function f.call f.by
  pub items : Each (ItemIn world memory f.function) f.items

-- atexit is the function of number 24 of the library
abbrev pub at_exit : ℕ
at_exit = 24

-- a kept function: the call that kept it has atexit among its targets, and where it is called at the end it stands
-- under atexit
pub record KeptIn (world : World) (key : ObjectKey) (n : ℕ) : Type 0 where
  pub target : IsTargetAt world n (FunctionKey at_exit)
  pub called : (number : ℕ) (function : Function)
      → IsFunctionAt world number key
      → slice_get world.system.functions number ≡ Some function
      → function.signature ≡ 1
      → IsInGraph world at_exit key

abbrev pub TargetNoted : World → Option (ℕ × ObjectKey) → Type 0
TargetNoted world None = ⊤
TargetNoted world (Some note) = IsTargetAt world note.0 note.1

pub record NotesIn (world : World) (memory : List Instance) (notes : Notes) : Type 0 where
  pub target : TargetNoted world notes.target
  pub stores : StoresIn (sets_of world) memory notes.stores

-- what was handed over is in the row of what lies outside
abbrev pub HandedIn : World → List Instance → TypeId × Cell → Type 0
HandedIn world memory entry = CellIn (sets_of world) memory (outside_row (sets_of world)) entry.1

-- the sets cover a state
pub record Covered (world : World) (state : State) : Type 0 where
  pub memory : MemoryIn (sets_of world) state.memory
  pub frames : Each (FrameIn world state.memory) state.frames
  pub kept : Each (λ entry. KeptIn world entry.0 entry.1) state.kept
  pub notes : NotesIn world state.memory state.notes
  pub handed : Each (HandedIn world state.memory) state.handed
  pub awaited : AwaitedIn world state
