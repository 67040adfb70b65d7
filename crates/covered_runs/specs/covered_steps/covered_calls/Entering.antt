-- A call enters a function with a body.
use Rattle.std.specs.Prelude.{◌≡◌, ℕ, List, [], ◌∷◌, None, Some, Option, length, map}
use Rattle.c_types.specs.declared.key.ObjectKey.{ObjectKey}
use Rattle.c_types.specs.declared.key.ObjectKey.TheVariants.{Entity as EntityKey}
use Rattle.core_tree.specs.declared.node.Node.{Node}
use Rattle.call_sites.specs.Calls.{rest_of}
use Rattle.ref_cells.specs.declared.cells.Value.{Value}
use Rattle.ref_cells.specs.declared.instance.Instance.{Instance}
use Rattle.ref_state.specs.declared.items.Item.{Item}
use Rattle.ref_state.specs.declared.items.Item.TheVariants.{Wait}
use Rattle.ref_state.specs.declared.frames.Frame.{Frame}
use Rattle.ref_state.specs.declared.state.State.{State}
use Rattle.ref_state.specs.Values.{value_in}
use Rattle.ref_frames.specs.declared.entering.Activation.{Activation}
use Rattle.ref_frames.specs.Frames.{activation}
use Rattle.ref_frames.specs.OnTop.{on_top}
use Rattle.covering_laws.specs.covered_state.World.{World}
use Rattle.covering_laws.specs.covered_state.Items.{Each, IsOwned, NodeIn, ArgumentsIn}
use Rattle.covering_laws.specs.covered_state.State.{TargetNoted, Covered}
use Rattle.covered_runs.specs.covered_steps.covered_values.Values.{Stands}
use Rattle.covered_runs.specs.covered_steps.covered_calls.Activations.{Reaches, IsMet, objects_entered}

-- the values of a call's operands are covered as its arguments
abbrev pub ArgumentsHeld : Type 0
ArgumentsHeld =
    (world : World) (memory : List Instance) (n : ℕ) (node : Node) (f : ℕ) (values : List (ℕ × Value))
    → Stands world
    → Reaches world n node f
    → Each (λ v. NodeIn world memory v.0 v.1) values
    → ArgumentsIn world memory (rest_of node.children) (map (value_in values) (rest_of node.children))

-- what a call makes of the function that it enters
abbrev pub made_by : World → State → ℕ → ℕ → ℕ → Node → List (ℕ × Value) → Activation
made_by world state n f body node values =
    activation (record { function = f; call = Some n; by = None }) (length state.memory) body
    (objects_entered world f (map (value_in values) (rest_of node.children)))

-- the step in which a call, whose operands are all there, enters a function that it reaches
abbrev pub StepsCalled : Type 0
StepsCalled =
    (world : World) (state : State) (f : Frame) (rest : List Frame) (n : ℕ) (node : Node) (g body : ℕ)
    (values : List (ℕ × Value)) (items : List Item) (target : Option (ℕ × ObjectKey))
    → Stands world
    → Covered world state
    → state.frames ≡ f ∷ rest
    → f.items ≡ Wait n [] values ∷ items
    → Reaches world n node g
    → IsMet world g
    → IsOwned world (EntityKey g) body
    → TargetNoted world target
    → Covered world
    (on_top state (f ∷ rest)
    (record { target = target; stores = (made_by world state n g body node values).stores })
    (made_by world state n g body node values))
