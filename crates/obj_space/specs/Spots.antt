-- The location of a part of an object, indices forgotten: what lies under a collapsed node has that node.
use Rattle.std.specs.Prelude.{◌≡◌, ℕ, ◌+◌, ◌^◌, ◌<◌, ◌≤◌, Bool, true, false, List, [], ◌∷◌, Option, Some, None}
use Rattle.std.specs.Prelude.{slice_get, length, IsSome}
use Rattle.std.specs.Option.{option_map}
use Rattle.c_types.specs.declared.term.PathStep.{PathStep}
use Rattle.c_types.specs.declared.term.PathStep.TheVariants.{Index, Member}
use Rattle.c_types.specs.declared.key.ObjectKey.{ObjectKey}
use Rattle.c_types.specs.Trees.{Ctype, ArrayOf}
use Rattle.c_types.specs.declared.term.TypeId.{TypeId}
use Rattle.c_types.specs.Table.{Table, type_of, extent_in}
use Rattle.c_types.specs.Parts.{field_in, within_32}
use Rattle.c_types.specs.Paths.{part_type}
use Rattle.obj_made.specs.declared.object.Content.{Content}
use Rattle.obj_made.specs.declared.object.Content.TheVariants.{Function, Blob, Scalar, Scalars, Typed, Elements}
use Rattle.obj_space.specs.declared.location.Location.{Location}
use Rattle.obj_space.specs.Parts.{is_collapsed, nodes_of}
use Rattle.obj_space.specs.Space.{IsNodeOf}
use Rattle.obj_space.specs.declared.spots.Place.{Place}
use Rattle.obj_space.specs.Found.{IsFirst, NoObject}

-- a part of an object: its type, its node among the object's, and whether it lies in a union
pub record Reached : Type 0 where
  pub ty : Ctype
  pub node : ℕ
  pub inside : Bool

abbrev pub reached : Ctype → ℕ → Bool → Reached
reached ty node inside = record { ty = ty; node = node; inside = inside }

-- a member of a type; what lies in a union has the union's node
abbrev pub member_reached : Ctype → Option Ctype → Option ℕ → ℕ → Bool → Option Reached
member_reached whole None place node inside = None
member_reached whole (Some ty) place node true = Some (reached ty node true)
member_reached whole (Some ty) None node false = None
member_reached whole (Some ty) (Some p) node false = Some (reached ty (node + p) (is_collapsed whole))

-- one step from a part: an element of an array, whichever it is, or a member that is no flexible array
abbrev pub step_by : Table → Ctype → ℕ → Bool → PathStep → Option Reached
step_by table (ArrayOf of length) node inside (Index i) = Some (reached of node inside)
step_by table t node inside (Index i) = None
step_by table t node inside (Member k) =
    member_reached t (part_type table t (Member k)) (field_in table t k) node inside

abbrev pub step_from : Table → Option Reached → PathStep → Option Reached
step_from table None step = None
step_from table (Some r) step = step_by table r.ty r.node r.inside step

-- the part at the end of a path, or none where the path leaves the tree
abbrev pub part_at : Table → Option Reached → List PathStep → Option Reached
part_at table r [] = r
part_at table r (step ∷ rest) = part_at table (step_from table r step) rest

abbrev pub node_along : Table → Ctype → List PathStep → Option ℕ
node_along table t path = option_map (λ r. r.node) (part_at table (Some (reached t 0 false)) path)

abbrev pub no_step : List PathStep → Option ℕ
no_step [] = Some 0
no_step (step ∷ rest) = None

abbrev pub one_index : List PathStep → Option ℕ
one_index [] = Some 0
one_index (Index i ∷ rest) = no_step rest
one_index (Member k ∷ rest) = None

-- the node of an object at the end of a path
abbrev pub node_in : Table → Content → List PathStep → Option ℕ
node_in table Function path = no_step path
node_in table Blob path = Some 0
node_in table (Scalar number) path = no_step path
node_in table (Scalars number) path = one_index path
node_in table (Typed id) path = node_along table (type_of table id.0) path
node_in table (Elements id) path = node_along table (ArrayOf (type_of table id.0) None) path

abbrev pub spot_by : Table → ℕ → Location → List PathStep → Option ℕ
spot_by table first location path = within_32 (option_map (λ n. first + n) (node_in table location.content path))

-- what `spot` answers: none where there is no such object, else the location of the node at the end of the path
pub record IsSpot (space : List Location) (table : Table) (key : ObjectKey) (path : List PathStep)
    (result : Option ℕ) : Type 0 where
  pub none : NoObject space key → result ≡ None
  pub some : (l : ℕ) (location : Location)
      → IsFirst space key l
      → slice_get space l ≡ Some location
      → result ≡ spot_by table l location path

-- the type of the table that an object is made of: its own type, or that of each of its elements
abbrev pub type_made : Content → Option TypeId
type_made (Typed id) = Some id
type_made (Elements id) = Some id
type_made content = None

-- the whole of an object that is made of a type: an allocated one is an array of any length
abbrev pub whole_reached : Table → Content → Option Reached
whole_reached table (Typed id) = Some (reached (type_of table id.0) 0 false)
whole_reached table (Elements id) = Some (reached (ArrayOf (type_of table id.0) None) 0 false)
whole_reached table content = None

-- an object that is made of a type has that type's nodes from its first location on
abbrev pub HasWholes : Table → List Location → Type 0
HasWholes table space =
    (key : ObjectKey) (l : ℕ) (x : Location) (id : TypeId) (i : ℕ) (t : Ctype)
    → IsFirst space key l
    → slice_get space l ≡ Some x
    → type_made x.content ≡ Some id
    → slice_get (nodes_of (extent_in table (type_of table id.0))) i ≡ Some t
    → (y : Location) × (slice_get space (l + i) ≡ Some y) × IsNodeOf x t y

-- a path from an object that is made of a complete type, outside of unions, leads to the location of the part's
-- first node
abbrev pub ReachesParts : Table → List Location → Type 0
ReachesParts table space =
    (key : ObjectKey) (l : ℕ) (x : Location) (id : TypeId) (path : List PathStep) (r : Reached) (t : Ctype)
    → IsFirst space key l
    → slice_get space l ≡ Some x
    → type_made x.content ≡ Some id
    → IsSome (extent_in table (type_of table id.0))
    → part_at table (whole_reached table x.content) path ≡ Some r
    → r.inside ≡ false
    → slice_get (nodes_of (extent_in table r.ty)) 0 ≡ Some t
    → (y : Location) × (slice_get space (l + r.node) ≡ Some y) × IsNodeOf x t y

-- what the code keeps of a part, and a part past all numbers of 32 bits
abbrev pub seen : Table → Place → Reached
seen table place = reached (type_of table place.ty.0) place.node place.inside

abbrev pub IsFar : Option Reached → Type 0
IsFar None = Unit {0}
IsFar (Some r) = 2 ^ 32 ≤ r.node

abbrev pub Follows : Table → Option Place → Option Reached → Type 0
Follows table None r = IsFar r
Follows table (Some place) r =
    (r ≡ Some (seen table place)) × (place.ty.0 < length table.terms) × (place.node < 2 ^ 32)
