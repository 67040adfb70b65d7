-- Steps that enter and leave functions and blocks leave the state covered.
use Rattle.std.specs.Prelude.{◌≡◌, ◌⊎◌, ℕ, List, [], ◌∷◌, ◌++◌, Some, slice_get}
use Rattle.core_tree.specs.declared.node.Node.{Node}
use Rattle.core_tree.specs.declared.node.NodeKind.TheVariants.{Convert}
use Rattle.ref_cells.specs.declared.cells.Value.{Value}
use Rattle.ref_cells.specs.declared.instance.Instance.{Instance}
use Rattle.ref_state.specs.declared.items.Item.{Item}
use Rattle.ref_state.specs.declared.items.Item.TheVariants.{Wait, Result}
use Rattle.ref_state.specs.declared.frames.Frame.{Frame}
use Rattle.ref_state.specs.declared.notes.Notes.{Notes}
use Rattle.ref_state.specs.declared.state.State.{State}
use Rattle.ref_state.specs.Changes.{Blocks, ended_all}
use Rattle.ref_blocks.specs.declared.block.Block.{Block}
use Rattle.ref_blocks.specs.Blocks.{objects_of, all_entered, all_left}
use Rattle.ref_frames.specs.Frames.{caller_given}
use Rattle.covering_laws.specs.covered_memory.Covered.{InstanceIn, MemoryIn, Leaves}
use Rattle.covering_laws.specs.covered_memory.Demands.{Grounds}
use Rattle.covering_laws.specs.covered_state.World.{World, trees_of, sets_of}
use Rattle.covering_laws.specs.covered_state.Items.{Each, NodeIn}
use Rattle.covering_laws.specs.covered_state.Awaited.{IsBare}
use Rattle.covering_laws.specs.covered_state.State.{FrameIn, NotesIn, Covered}
use Rattle.covered_runs.specs.covered_steps.Made.{HasPlace}
use Rattle.covered_runs.specs.covered_steps.Steps.{nothing}

-- leaving blocks leaves the memory covered, and so does entering them, where each of their objects has its place
abbrev pub BlocksLeft : Type 0
BlocksLeft =
    (world : World) (blocks : List Block) (s : Blocks)
    → Grounds world.program.types world.space world.system
    → MemoryIn (sets_of world) s.memory
    → Leaves (sets_of world) s.memory (all_left (trees_of world) blocks s).memory

abbrev pub BlocksEntered : Type 0
BlocksEntered =
    (world : World) (blocks : List Block) (s : Blocks)
    → Each (λ b. Each (HasPlace world) (objects_of (trees_of world) b)) blocks
    → MemoryIn (sets_of world) s.memory
    → Leaves (sets_of world) s.memory (all_entered (trees_of world) blocks s).memory

-- an item that is no conversion with its operand
abbrev pub IsOther : World → Item → Type 0
IsOther world top =
    (m : ℕ) (values : List (ℕ × Value)) (node : Node)
    → top ≡ Wait m [] values
    → slice_get (trees_of world).nodes m ≡ Some node
    → node.kind ≡ Convert
    → ⊥

-- a function's frame comes on top, with its instances behind the memory, none of which waits for its type
abbrev pub StepsEntered : Type 0
StepsEntered =
    (world : World) (state : State) (f : Frame) (rest : List Frame) (top : Item) (items : List Item)
    (fresh : List Instance) (frame : Frame) (notes : Notes)
    → Covered world state
    → state.frames ≡ f ∷ rest
    → f.items ≡ top ∷ items
    → IsOther world top
    → Each (InstanceIn (sets_of world) state.memory) fresh
    → Each (λ inst. IsBare world inst → ⊥) fresh
    → FrameIn world (state.memory ++ fresh) frame
    → NotesIn world (state.memory ++ fresh) notes
    → Covered world
    (record state { memory = state.memory ++ fresh; frames = frame ∷ f ∷ rest; notes = notes })

-- a frame whose items are done is left: its instances end, and the caller's item gets what the call gives
abbrev pub StepsLeft : Type 0
StepsLeft =
    (world : World) (state : State) (f : Frame) (rest : List Frame) (n : ℕ) (value : Value)
    → Grounds world.program.types world.space world.system
    → Covered world state
    → state.frames ≡ f ∷ rest
    → (f.items ≡ []) ⊎ ((v : Value) × (items : List Item) × (f.items ≡ Result v ∷ items))
    → NodeIn world state.memory n value
    → Covered world
    (record state {
      memory = ended_all state.memory f.instances;
      frames = caller_given n value rest;
      notes = nothing;
    })
