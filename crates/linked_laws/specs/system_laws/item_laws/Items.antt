-- Initialisers of objects that have their places.
use Rattle.std.specs.Prelude.{ℕ, ◌≡◌, ◌<◌, ◌^◌, ⊤, List, Option, Some, None, length, slice_get}
use Rattle.c_types.specs.Made.{IsMade}
use Rattle.core_tree.specs.declared.node.Program.{Program}
use Rattle.core_tree.specs.declared.node.NodeKind.{NodeKind}
use Rattle.core_tree.specs.declared.node.Entity.{Entity}
use Rattle.core_tree.specs.declared.node.Storage.{Storage}
use Rattle.core_tree.specs.declared.node.Storage.TheVariants.{FunctionBody, Declared}
use Rattle.core_tree.specs.declared.node.NodeKind.TheVariants.{Initialise}
use Rattle.core_tree.specs.Typed.{trees_in}
use Rattle.core_tree.specs.Range.{EachNode}
use Rattle.sol_model.specs.declared.system.System.{System}
use Rattle.obj_space.specs.declared.location.Location.{Location}
use Rattle.obj_space.specs.Space.{locations_in}
use Rattle.obj_space.specs.Spots.{HasWholes}
use Rattle.obj_space.specs.View.{view_of}
use Rattle.normal_form.specs.SystemOf.{SystemOf}
use Rattle.normal_form.specs.Spots.{HasSpots}
use Rattle.linked_laws.specs.initial_laws.Initials.{HasInitials}
use Rattle.linked_laws.specs.system_laws.demand_laws.Demands.{InitialsFit}

-- an object of that storage has its place
abbrev pub HasPlace : Storage → Type 0
HasPlace FunctionBody = ⊥
HasPlace Declared = ⊥
HasPlace storage = ⊤

abbrev pub IsPlacedIn : Option Entity → Type 0
IsPlacedIn None = ⊥
IsPlacedIn (Some entity) = HasPlace entity.storage

-- the entity e has its place
abbrev pub IsPlacedAt : Program → ℕ → Type 0
IsPlacedAt p e = IsPlacedIn (slice_get p.entities.items e)

-- an initialiser is one of an object that has its place
abbrev pub KindPlaced : Program → NodeKind → Type 0
KindPlaced p (Initialise e paths) = IsPlacedAt p e
KindPlaced p kind = ⊤

-- each initialiser is
abbrev pub ArePlaced : Program → Type 0
ArePlaced p = EachNode (trees_in p) (λ n node. KindPlaced p node.kind)

abbrev pub ItemsFit : Type 0
ItemsFit =
    (p : Program) (space : List Location) (system : System)
    → space ≡ locations_in p
    → SystemOf p (view_of space) system
    → IsMade p.types
    → HasWholes p.types space
    → length space < 2 ^ 32 → HasInitials p → ArePlaced p → InitialsFit p (view_of space) system

-- the spots of initialisers are locations
abbrev pub SpotsFit : Type 0
SpotsFit =
    (p : Program) (space : List Location)
    → space ≡ locations_in p
    → IsMade p.types
    → HasWholes p.types space
    → length space < 2 ^ 32
    → HasInitials p
    → ArePlaced p
    → HasSpots (trees_in p) (view_of space)
