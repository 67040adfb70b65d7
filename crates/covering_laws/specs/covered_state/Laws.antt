-- What stays covered from step to step.
use Rattle.std.specs.Prelude.{◌≡◌, ℕ, List, ◌∷◌, Some, None, slice_get}
use Rattle.c_types.specs.declared.key.ObjectKey.{ObjectKey}
use Rattle.c_types.specs.declared.term.TypeId.{TypeId}
use Rattle.ref_cells.specs.declared.cells.Cell.{Cell}
use Rattle.ref_cells.specs.declared.cells.Value.{Value}
use Rattle.ref_cells.specs.declared.instance.Instance.{Instance}
use Rattle.ref_state.specs.declared.items.Item.{Item}
use Rattle.ref_state.specs.declared.items.Item.TheVariants.{Library}
use Rattle.ref_state.specs.declared.frames.Frame.{Frame}
use Rattle.ref_state.specs.declared.state.State.{State}
use Rattle.ref_state.specs.Items.{settled}
use Rattle.covering_laws.specs.covered_memory.Covered.{InstanceIn, Extends}
use Rattle.covering_laws.specs.covered_library.Calls.{Takes}
use Rattle.covering_laws.specs.covered_state.World.{World, sets_of}
use Rattle.covering_laws.specs.covered_state.Items.{Each, NodeIn, ItemIn}
use Rattle.covering_laws.specs.covered_state.Awaited.{AwaitedIn}
use Rattle.covering_laws.specs.covered_state.State.{FrameIn, HandedIn}

-- frames that a step doesn't touch stay covered, whatever it does to memory
abbrev pub FramesStay : Type 0
FramesStay =
    (world : World) (old new : List Instance) (frames : List Frame)
    → Extends (sets_of world) old new
    → Each (FrameIn world old) frames
    → Each (FrameIn world new) frames

-- so does what was handed over
abbrev pub HandedStay : Type 0
HandedStay =
    (world : World) (old new : List Instance) (handed : List (TypeId × Cell))
    → Extends (sets_of world) old new
    → Each (HandedIn world old) handed
    → Each (HandedIn world new) handed

-- the item that takes a covered value is covered
abbrev pub ValuesSettle : Type 0
ValuesSettle =
    (world : World) (memory : List Instance) (f : ObjectKey) (n : ℕ) (v : Value) (items : List Item)
    → NodeIn world memory n v
    → Each (ItemIn world memory f) items
    → Each (ItemIn world memory f) (settled n v items)

-- where a library call is on top, no object waits for the type of a conversion
abbrev pub NothingAwaited : Type 0
NothingAwaited =
    (world : World) (state : State) (f : Frame) (rest : List Frame) (n k : ℕ) (arguments : List Value)
    (items : List Item) (id : TypeId) (i : ℕ) (x : Instance)
    → AwaitedIn world state
    → state.frames ≡ f ∷ rest
    → f.items ≡ Library n k arguments ∷ items
    → slice_get state.memory i ≡ Some x
    → (h : InstanceIn (sets_of world) state.memory x)
    → x.ty ≡ None
    → Takes world.program.types id h.location.content
