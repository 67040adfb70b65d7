-- How a library function's effect goes on, and which object it adds to a memory.
use Rattle.std.specs.Prelude.{◌≡◌, ◌⊎◌, ℕ, ◌<◌, List, Option, Some, Ok, length, slice_get}
use Rattle.c_types.specs.declared.key.ObjectKey.{ObjectKey}
use Rattle.c_types.specs.declared.term.TypeId.{TypeId}
use Rattle.c_types.specs.Table.{Table}
use Rattle.ref_cells.specs.declared.cells.Cell.{Cell}
use Rattle.ref_cells.specs.declared.cells.Value.{Value}
use Rattle.ref_cells.specs.declared.instance.Instance.{Instance}
use Rattle.ref_elements.specs.declared.outcome.Next.{Next}
use Rattle.ref_elements.specs.declared.outcome.Next.TheVariants.{Done, Calls, Keeps}
use Rattle.ref_elements.specs.Arguments.{argument}
use Rattle.ref_elements.specs.Outcomes.{Effected, start_value}
use Rattle.ref_lib.specs.declared.rows.Elements.TheVariants.{Sort, Find}
use Rattle.ref_lib.specs.declared.rows.Plain.TheVariants.{Keep}
use Rattle.ref_lib.specs.declared.rows.Row.{Row}
use Rattle.ref_lib.specs.declared.rows.Row.TheVariants.{Moves, Answers}
use Rattle.ref_lib.specs.Effects.{rows, effect}
use Rattle.covering_laws.specs.covered_state.Exists.{MemoryBelow}

-- two rows call back
abbrev pub MayCall : Row → Type 0
MayCall (Moves Sort) = Unit {0}
MayCall (Moves Find) = Unit {0}
MayCall row = ⊥

-- one keeps a function, its argument
abbrev pub MayKeep : Row → List Value → Cell → Type 0
MayKeep (Answers Keep) arguments cell = cell ≡ argument arguments 0
MayKeep row arguments cell = ⊥

-- how the call of a row may go on
abbrev pub MayGo : Row → List Value → Next → Type 0
MayGo row arguments (Calls callee given) = MayCall row
MayGo row arguments (Keeps cell) = MayKeep row arguments cell
MayGo row arguments next = Unit {0}

-- One instance more, which is the call's object, and to whose first element the value points. Where no cell pointed
-- past the memory before, none points to that object.
pub record IsGrown (memory : List Instance) (key : ObjectKey) (e : Effected) : Type 0 where
  pub each : (i : ℕ) (inst : Instance)
      → slice_get e.memory i ≡ Some inst
      → (i < length memory) ⊎ ((i ≡ length memory) × (inst.key ≡ key))
  pub cells : MemoryBelow (length memory) memory → MemoryBelow (length memory) e.memory
  pub value : e.outcome.value ≡ start_value (length memory)
  pub next : e.outcome.next ≡ Done

-- the memory has as many instances as before, or one more
abbrev pub Adds : List Instance → ObjectKey → Effected → Type 0
Adds memory key e = (length e.memory ≡ length memory) ⊎ IsGrown memory key e

-- an effect is that of the function's row
pub record IsTraced (memory : List Instance) (function : ℕ) (key : ObjectKey) (arguments : List Value)
    (e : Effected) : Type 0 where
  pub row : Row
  pub row_is : slice_get rows function ≡ Some row
  pub goes : MayGo row arguments e.outcome.next
  pub adds : Adds memory key e

abbrev pub EffectsTraced : Type 0
EffectsTraced =
    (table : Table) (memory : List Instance) (function : ℕ) (key : ObjectKey) (fixed : Option TypeId)
    (result : TypeId) (arguments : List Value) (word : ℕ) (e : Effected)
    → effect table memory function key fixed result arguments word ≡ Ok e
    → IsTraced memory function key arguments e
