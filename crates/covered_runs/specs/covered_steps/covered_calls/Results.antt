-- What a call gets from the function that it reached.
use Rattle.std.specs.Prelude.{◌≡◌, ◌⊎◌, ℕ, List, [], ◌∷◌, Some, None, slice_get}
use Rattle.c_types.specs.declared.key.ObjectKey.TheVariants.{Entity as EntityKey}
use Rattle.type_rules.specs.Conversions.{result_of}
use Rattle.core_tree.specs.declared.node.Node.{Node}
use Rattle.core_tree.specs.declared.node.NodeKind.TheVariants.{CallNode}
use Rattle.core_tree.specs.Typed.{type_at}
use Rattle.row_numbers.specs.Functions.{key_type}
use Rattle.ref_cells.specs.declared.cells.Value.{Value}
use Rattle.ref_cells.specs.declared.instance.Instance.{Instance}
use Rattle.ref_state.specs.declared.items.Item.{Item}
use Rattle.ref_state.specs.declared.items.Item.TheVariants.{Result}
use Rattle.ref_state.specs.declared.frames.Frame.{Frame}
use Rattle.ref_state.specs.declared.state.State.{State}
use Rattle.ref_state.specs.Values.{no_value}
use Rattle.ref_frames.specs.Frames.{left_frame}
use Rattle.covering_laws.specs.covered_types.Whole.{IsHeld}
use Rattle.covering_laws.specs.covered_state.World.{World, trees_of, IsTargetAt}
use Rattle.covering_laws.specs.covered_state.Items.{NodeIn, ReturnedIn}
use Rattle.covering_laws.specs.covered_state.State.{Covered}
use Rattle.covered_runs.specs.covered_steps.covered_values.Values.{Stands}
use Rattle.covered_runs.specs.covered_steps.Steps.{nothing}

-- a call that has the function among its targets, of a type that values may have
pub record IsGivenBy (world : World) (n : ℕ) (node : Node) (f : ℕ) : Type 0 where
  pub there : slice_get (trees_of world).nodes n ≡ Some node
  pub kind : node.kind ≡ CallNode
  pub target : IsTargetAt world n (EntityKey f)
  pub agrees : result_of (key_type (trees_of world) (EntityKey f)) ≡ type_at (trees_of world) n
  pub held : IsHeld world.program.types (type_at (trees_of world) n)

-- what a function returns is covered at such a call
abbrev pub ResultsGiven : Type 0
ResultsGiven =
    (world : World) (memory : List Instance) (n : ℕ) (node : Node) (f : ℕ) (v : Value)
    → Stands world
    → IsGivenBy world n node f
    → ReturnedIn world memory (EntityKey f) v
    → NodeIn world memory n v

-- the frame of a called function is left, with the value that is returned or with none at the end of its body
abbrev pub StepsGiven : Type 0
StepsGiven =
    (world : World) (state : State) (f : Frame) (rest : List Frame) (n : ℕ) (node : Node) (value : Value)
    → Stands world
    → Covered world state
    → state.frames ≡ f ∷ rest
    → f.call ≡ Some n
    → slice_get (trees_of world).nodes n ≡ Some node
    → node.kind ≡ CallNode
    → IsHeld world.program.types (type_at (trees_of world) n)
    → ((f.items ≡ []) × (value ≡ no_value)) ⊎ ((items : List Item) × (f.items ≡ Result value ∷ items))
    → Covered world
    (record (left_frame (trees_of world) world.program.entries.items state f rest value) { notes = nothing })

-- so is the frame of a function at which the program is entered: what it gives is handed over
abbrev pub StepsHanded : Type 0
StepsHanded =
    (world : World) (state : State) (f : Frame) (rest : List Frame) (first : ℕ) (more : List ℕ) (value : Value)
    → Stands world
    → Covered world state
    → state.frames ≡ f ∷ rest
    → f.call ≡ None
    → f.by ≡ None
    → world.program.entries.items ≡ first ∷ more
    → ((f.items ≡ []) × (value ≡ no_value)) ⊎ ((items : List Item) × (f.items ≡ Result value ∷ items))
    → Covered world
    (record (left_frame (trees_of world) world.program.entries.items state f rest value) { notes = nothing })
