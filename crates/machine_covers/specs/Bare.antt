-- Objects that wait for the type of a conversion, as the code decides it.
use Rattle.std.specs.Prelude.{◌≡◌, ◌⊎◌, ℕ, ◌-◌, ◌<◌, ⊤, false, List, [], ◌∷◌, Option, Some, None, All, length, take}
use Rattle.std.specs.Prelude.{drop, slice_get}
use Rattle.c_types.specs.declared.key.ObjectKey.{ObjectKey}
use Rattle.c_types.specs.declared.key.ObjectKey.TheVariants.{Call as CallKey}
use Rattle.c_types.specs.declared.term.PathStep.TheVariants.{Index}
use Rattle.core_tree.specs.declared.node.Node.{Node}
use Rattle.core_tree.specs.declared.node.NodeKind.TheVariants.{Convert}
use Rattle.obj_made.specs.declared.object.Content.{Content}
use Rattle.obj_made.specs.declared.object.Content.TheVariants.{Elements}
use Rattle.obj_space.specs.declared.location.Location.{Location}
use Rattle.obj_space.specs.View.{first_from}
use Rattle.ref_cells.specs.declared.cells.Cell.{Cell}
use Rattle.ref_cells.specs.declared.cells.Cell.TheVariants.{Pointer}
use Rattle.ref_cells.specs.declared.cells.Value.{Value}
use Rattle.ref_cells.specs.declared.instance.Instance.{Instance}
use Rattle.ref_cells.specs.Cells.{Entry, CellList}
use Rattle.ref_state.specs.declared.items.Item.{Item}
use Rattle.ref_state.specs.declared.items.Item.TheVariants.{Do, Wait, Library, Result}
use Rattle.ref_state.specs.declared.frames.Frame.{Frame}
use Rattle.covering_laws.specs.covered_state.Awaited.{IsApart}
use Rattle.row_covers.specs.Scene.{Sight}

abbrev pub IsElements : Content → Type 0
IsElements (Elements id) = ⊤
IsElements content = ⊥

abbrev pub HasElements : Option Location → Type 0
HasElements None = ⊥
HasElements (Some x) = IsElements x.content

abbrev pub ElementsAt : List Location → Option ℕ → Type 0
ElementsAt space None = ⊥
ElementsAt space (Some l) = HasElements (slice_get space l)

-- an instance without a type, of an object of elements of one
abbrev pub BareBy : Sight → Instance → Type 0
BareBy scene inst = (inst.ty ≡ None) × ElementsAt scene.space (first_from 0 scene.space inst.key)

-- what points to no instance of that number
abbrev pub EntryApart : ℕ → Entry → Type 0
EntryApart i entry = IsApart i entry.1

abbrev pub CellsApart : ℕ → CellList → Type 0
CellsApart i cells = All (λ entry. EntryApart i entry) cells

abbrev pub ValueApart : ℕ → Value → Type 0
ValueApart i v = CellsApart i v.cells

unfoldable pub PairApart : ℕ → ℕ × Value → Type 0
PairApart i entry = ValueApart i entry.1

abbrev pub ItemLeaves : ℕ → Item → Type 0
ItemLeaves i (Do n) = ⊤
ItemLeaves i (Wait n left values) = All (λ entry. PairApart i entry) values
ItemLeaves i (Library n function arguments) = All (λ v. ValueApart i v) arguments
ItemLeaves i (Result v) = ValueApart i v

abbrev pub ItemsLeave : ℕ → List Item → Type 0
ItemsLeave i items = All (λ item. ItemLeaves i item) items

-- the item at that place, behind so many at the top, where there is one
abbrev pub LeavesAt : ℕ → ℕ → ℕ → Option Item → Type 0
LeavesAt i off k None = ⊤
LeavesAt i off k (Some item) = (k < off) ⊎ ItemLeaves i item

abbrev pub FrameLeaves : ℕ → Frame → Type 0
FrameLeaves i f = ItemsLeave i f.items

abbrev pub InstanceLeaves : ℕ → Instance → Type 0
InstanceLeaves i inst = CellsApart i inst.cells

-- the pointer to the first element of an instance
abbrev pub StartEntry : ℕ → Entry → Type 0
StartEntry i entry = (entry.0 ≡ []) × (entry.1 ≡ Pointer i (Index 0 ∷ []) false)

abbrev pub StartOf : ℕ → CellList → Type 0
StartOf i (entry ∷ []) = StartEntry i entry
StartOf i cells = ⊥

-- a node is the conversion of that operand
abbrev pub ConversionOf : ℕ → Option Node → Type 0
ConversionOf call None = ⊥
ConversionOf call (Some node) = (node.kind ≡ Convert) × (node.children ≡ call ∷ [])

abbrev pub OperandBy : Sight → ℕ → ObjectKey → ℕ → ℕ × Value → Type 0
OperandBy scene i key n entry =
    (key ≡ CallKey entry.0) × StartOf i entry.1.cells × ConversionOf entry.0 (slice_get scene.trees.nodes n)

abbrev pub OperandsBy : Sight → ℕ → ObjectKey → ℕ → List (ℕ × Value) → Type 0
OperandsBy scene i key n (entry ∷ []) = OperandBy scene i key n entry
OperandsBy scene i key n values = ⊥

-- an item is the conversion of a call that has the pointer to an instance
abbrev pub ConvertsBy : Sight → ℕ → ObjectKey → Item → Type 0
ConvertsBy scene i key (Wait n left values) = (left ≡ []) × OperandsBy scene i key n values
ConvertsBy scene i key item = ⊥

-- the top item is that, and no other one points to the instance
abbrev pub TopConverts : Sight → ℕ → ObjectKey → Option Item → Type 0
TopConverts scene i key None = ⊥
TopConverts scene i key (Some item) = ConvertsBy scene i key item

unfoldable pub ItemsAwait : Sight → ℕ → ObjectKey → List Item → Type 0
ItemsAwait scene i key items = TopConverts scene i key (slice_get items 0) × ItemsLeave i (drop 1 items)

abbrev pub TopAwaits : Sight → ℕ → ObjectKey → Option Frame → Type 0
TopAwaits scene i key None = ⊥
TopAwaits scene i key (Some top) = ItemsAwait scene i key top.items

-- frames, the top one last, of which the top one awaits, and the others don't point to the instance
abbrev pub FramesAwait : Sight → ℕ → ObjectKey → List Frame → Type 0
FramesAwait scene i key frames =
    TopAwaits scene i key (slice_get frames (length frames - 1))
    × All (λ f. FrameLeaves i f) (take (length frames - 1) frames)

-- an instance without the type of its object's elements is awaited, and no cell points to it
abbrev pub AwaitedBy : Sight → List Instance → List Frame → ℕ → Instance → Type 0
AwaitedBy scene memory frames i inst =
    (BareBy scene inst → ⊥)
    ⊎ (FramesAwait scene i inst.key frames × All (λ other. InstanceLeaves i other) memory)

-- whichever instance has that number
abbrev pub AwaitedAt : Sight → List Instance → List Frame → ℕ → Type 0
AwaitedAt scene memory frames i =
    (inst : Instance) → slice_get memory i ≡ Some inst → AwaitedBy scene memory frames i inst

-- whichever instance there is
unfoldable pub AwaitedAll : Sight → List Instance → List Frame → Type 0
AwaitedAll scene memory frames = (i : ℕ) → AwaitedAt scene memory frames i
