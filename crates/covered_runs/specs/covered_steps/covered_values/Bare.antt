-- That no object waits for its type once a node has computed.
use Rattle.std.specs.Prelude.{◌≡◌, ◌⊎◌, ℕ, List, [], ◌∷◌, Some, Ok, slice_get}
use Rattle.core_tree.specs.declared.node.Node.{Node}
use Rattle.ref_cells.specs.declared.cells.Value.{Value}
use Rattle.ref_cells.specs.declared.instance.Instance.{Instance}
use Rattle.ref_elements.specs.Outcomes.{Effected}
use Rattle.ref_state.specs.declared.items.Item.{Item}
use Rattle.ref_state.specs.declared.items.Item.TheVariants.{Do, Wait}
use Rattle.ref_state.specs.declared.frames.Frame.{Frame}
use Rattle.ref_state.specs.declared.state.State.{State}
use Rattle.ref_values.specs.Values.{computed}
use Rattle.covering_laws.specs.covered_state.World.{World, trees_of}
use Rattle.covering_laws.specs.covered_state.Awaited.{IsBare, AwaitedIn}
use Rattle.covered_runs.specs.covered_steps.covered_values.Values.{Stands, IsComputed}
use Rattle.covered_runs.specs.covered_steps.covered_values.Passed.{AreTypedAbove}

-- where the top item computes, each instance of an object that a conversion types has its type afterwards
abbrev pub NothingBare : Type 0
NothingBare =
    (world : World) (state : State) (f : Frame) (rest : List Frame) (own : List ℕ) (n : ℕ) (node : Node)
    (values : List (ℕ × Value)) (top : Item) (items : List Item) (word : ℕ) (e : Effected)
    → Stands world
    → AreTypedAbove world
    → AwaitedIn world state
    → state.frames ≡ f ∷ rest
    → f.items ≡ top ∷ items
    → (top ≡ Do n) ⊎ (top ≡ Wait n [] values)
    → slice_get (trees_of world).nodes n ≡ Some node
    → computed (trees_of world) state.memory own n node values word ≡ Ok e
    → IsComputed world state.memory n e
    → (i : ℕ) (inst : Instance)
    → slice_get e.memory i ≡ Some inst
    → IsBare world inst
    → ⊥
