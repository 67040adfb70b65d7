-- Initialisers whose items are put at locations (C11 6.7.9).
use Rattle.std.specs.Prelude.{ℕ, ◌<◌, ⊤, List, ◌∷◌, length}
use Rattle.c_types.specs.declared.term.PathStep.{PathStep}
use Rattle.core_tree.specs.declared.node.NodeKind.{NodeKind}
use Rattle.core_tree.specs.declared.node.NodeKind.TheVariants.{Initialise}
use Rattle.core_tree.specs.Typed.{CoreTrees, type_at}
use Rattle.core_tree.specs.Range.{EachNode}
use Rattle.obj_space.specs.View.{SpaceView}
use Rattle.row_numbers.specs.Kept.{nodes_of}
use Rattle.normal_form.specs.Assignments.{spot}

-- where a value has nodes, the end of its path is a location
abbrev pub IsSpotted : CoreTrees → SpaceView → ℕ → List PathStep → ℕ → Type 0
IsSpotted u s e path v = 0 < length (nodes_of u.types (type_at u v)) → spot u s e path < s.count

-- each value of an initialiser of the entity e, with its path
abbrev pub AreSpotted : CoreTrees → SpaceView → ℕ → List (List PathStep) → List ℕ → Type 0
AreSpotted u s e (path ∷ paths) (v ∷ values) = IsSpotted u s e path v × AreSpotted u s e paths values
AreSpotted u s e paths values = ⊤

abbrev pub KindSpotted : CoreTrees → SpaceView → NodeKind → List ℕ → Type 0
KindSpotted u s (Initialise e paths) values = AreSpotted u s e paths values
KindSpotted u s kind values = ⊤

-- the spots of a program's initialisers are locations
abbrev pub HasSpots : CoreTrees → SpaceView → Type 0
HasSpots u s = EachNode u (λ n node. KindSpotted u s node.kind node.children)
