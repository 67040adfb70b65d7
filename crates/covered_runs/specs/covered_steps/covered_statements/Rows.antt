-- Steps of the top frame keep what sets cover.
use Rattle.std.specs.Prelude.{◌≡◌, ◌⊎◌, ℕ, List, [], ◌∷◌, Option, Some, None, Ok, map, length}
use Rattle.c_types.specs.declared.key.ObjectKey.{ObjectKey}
use Rattle.c_types.specs.declared.term.TypeId.{TypeId}
use Rattle.core_tree.specs.declared.node.Node.{Node}
use Rattle.call_sites.specs.Calls.{rest_of}
use Rattle.ref_cells.specs.declared.cells.Value.{Value}
use Rattle.ref_state.specs.declared.items.Item.{Item}
use Rattle.ref_state.specs.declared.items.Item.TheVariants.{Do, Wait, Result}
use Rattle.ref_state.specs.declared.frames.Frame.{Frame}
use Rattle.ref_state.specs.declared.state.State.{State}
use Rattle.ref_state.specs.Values.{no_value, value_in}
use Rattle.ref_frames.specs.declared.entering.Activation.{Activation}
use Rattle.ref_frames.specs.Running.{Running}
use Rattle.ref_frames.specs.Frames.{entered, left_frame}
use Rattle.ref_frames.specs.OnTop.{only, on_top}
use Rattle.ref_statements.specs.Rows.{Next}
use Rattle.ref_statements.specs.Nodes.{do_row, wait_row}
use Rattle.covering_laws.specs.covered_state.World.{World, trees_of}
use Rattle.covering_laws.specs.covered_state.State.{TargetNoted}
use Rattle.covered_runs.specs.covered_steps.covered_calls.Activations.{Reaches}
use Rattle.covered_runs.specs.covered_steps.covered_statements.Runnable.{IsRunnable, Steady}

-- what a row leaves of the top frame, in the state
abbrev pub placed : State → List Frame → Next → State
placed state rest next =
    record state { memory = next.memory; frames = next.frame ∷ rest; notes = only next.stores }

-- a node is begun: an expression, an initialiser or a statement
abbrev pub BegunSteady : Type 0
BegunSteady =
    (world : World) (state : State) (f : Frame) (rest : List Frame) (n word : ℕ) (items : List Item) (next : Next)
    → IsRunnable world
    → Steady world state
    → state.frames ≡ f ∷ rest
    → f.items ≡ Do n ∷ items
    → do_row (trees_of world) state.memory f n word ≡ Ok next
    → Steady world (placed state rest next)

-- a node goes on: an operand is taken, or all are there
abbrev pub WaitsSteady : Type 0
WaitsSteady =
    (world : World) (state : State) (f : Frame) (rest : List Frame) (n word : ℕ) (left : List ℕ)
    (values : List (ℕ × Value)) (items : List Item) (next : Next)
    → IsRunnable world
    → Steady world state
    → state.frames ≡ f ∷ rest
    → f.items ≡ Wait n left values ∷ items
    → wait_row (trees_of world) state.memory f n left values word ≡ Ok next
    → Steady world (placed state rest next)

-- a frame whose items are done is left: its call gets what it gives, and without a call the program ends or what it
-- gives goes outside, or the library function that called goes on
abbrev pub LeavesSteady : Type 0
LeavesSteady =
    (world : World) (state : State) (f : Frame) (rest : List Frame) (value : Value)
    → IsRunnable world
    → Steady world state
    → state.frames ≡ f ∷ rest
    → ((f.items ≡ []) × (value ≡ no_value)) ⊎ ((items : List Item) × (f.items ≡ Result value ∷ items))
    → Steady world
    (record (left_frame (trees_of world) world.program.entries.items state f rest value) { notes = only [] })

-- what the machine's steps are over
abbrev pub running_in : World → TypeId → Running
running_in world characters = record {
  trees = trees_of world;
  space = world.space;
  characters = characters;
  entries = world.program.entries.items;
}

-- a call, whose operands are all there, enters a function with a body that it reaches
abbrev pub CallsSteady : Type 0
CallsSteady =
    (world : World) (state : State) (f : Frame) (rest : List Frame) (n : ℕ) (node : Node) (g : ℕ)
    (values : List (ℕ × Value)) (items : List Item) (target : Option (ℕ × ObjectKey)) (characters : TypeId)
    (made : Activation)
    → IsRunnable world
    → Steady world state
    → state.frames ≡ f ∷ rest
    → f.items ≡ Wait n [] values ∷ items
    → Reaches world n node g
    → entered (running_in world characters) (length state.memory)
    (record { function = g; call = Some n; by = None }) (map (value_in values) (rest_of node.children))
    ≡ Ok made
    → TargetNoted world target
    → Steady world (on_top state (f ∷ rest) (record { target = target; stores = made.stores }) made)
