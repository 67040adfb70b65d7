-- Steps that go on in the top frame leave the state covered.
use Rattle.std.specs.Prelude.{◌≡◌, ◌⊎◌, ℕ, List, [], ◌∷◌, None, Some, Ok, slice_get}
use Rattle.core_tree.specs.declared.node.Node.{Node}
use Rattle.ref_cells.specs.declared.cells.Value.{Value}
use Rattle.ref_cells.specs.declared.instance.Instance.{Instance}
use Rattle.ref_elements.specs.Outcomes.{Effected}
use Rattle.ref_state.specs.declared.items.Item.{Item}
use Rattle.ref_state.specs.declared.items.Item.TheVariants.{Do, Wait}
use Rattle.ref_state.specs.declared.frames.Frame.{Frame}
use Rattle.ref_state.specs.declared.notes.Notes.{Notes}
use Rattle.ref_state.specs.declared.state.State.{State}
use Rattle.ref_state.specs.Items.{settled}
use Rattle.ref_values.specs.Values.{computed}
use Rattle.covering_laws.specs.covered_memory.Covered.{Leaves}
use Rattle.covering_laws.specs.covered_state.World.{World, trees_of, sets_of}
use Rattle.covering_laws.specs.covered_state.Items.{Each, ItemIn}
use Rattle.covering_laws.specs.covered_state.Awaited.{IsBare}
use Rattle.covering_laws.specs.covered_state.State.{NotesIn, Covered}
use Rattle.covered_runs.specs.covered_steps.covered_values.Values.{Stands}
use Rattle.covered_runs.specs.covered_steps.covered_values.Passed.{AreTypedAbove}

-- the state with another memory, and other items and instances of the top frame
abbrev pub moved : State → Frame → List Frame → List Instance → List ℕ → List Item → Notes → State
moved state f rest memory own items notes =
    record state {
      memory = memory;
      frames = record f { instances = own; items = items } ∷ rest;
      notes = notes;
    }

-- nothing noted
abbrev pub nothing : Notes
nothing = record { target = None; stores = [] }

-- no instance waits for the type that a conversion gives
abbrev pub NoneBare : World → List Instance → Type 0
NoneBare world memory =
    (i : ℕ) (inst : Instance)
    → slice_get memory i ≡ Some inst
    → IsBare world inst
    → ⊥

-- a covered memory, covered items and covered notes are a covered state, where no object waits for its type
abbrev pub StepsMoved : Type 0
StepsMoved =
    (world : World) (state : State) (f : Frame) (rest : List Frame) (memory : List Instance) (own : List ℕ)
    (items : List Item) (notes : Notes)
    → Covered world state
    → state.frames ≡ f ∷ rest
    → Leaves (sets_of world) state.memory memory
    → Each (ItemIn world memory f.function) items
    → NotesIn world memory notes
    → NoneBare world memory
    → Covered world (moved state f rest memory own items notes)

-- a place or a value is computed
abbrev pub StepsComputed : Type 0
StepsComputed =
    (world : World) (state : State) (f : Frame) (rest : List Frame) (n : ℕ) (node : Node)
    (values : List (ℕ × Value)) (top : Item) (items : List Item) (word : ℕ) (e : Effected)
    → Stands world
    → AreTypedAbove world
    → Covered world state
    → state.frames ≡ f ∷ rest
    → f.items ≡ top ∷ items
    → ((top ≡ Do n) × (values ≡ [])) ⊎ (top ≡ Wait n [] values)
    → slice_get (trees_of world).nodes n ≡ Some node
    → computed (trees_of world) state.memory f.instances n node values word ≡ Ok e
    → Covered world
    (moved state f rest e.memory f.instances (settled n e.outcome.value f.items)
    (record { target = None; stores = e.outcome.stores }))
