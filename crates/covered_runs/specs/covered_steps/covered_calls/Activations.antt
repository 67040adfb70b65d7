-- The objects of a function that is entered.
use Rattle.std.specs.Prelude.{◌≡◌, ℕ, ◌≤◌, true, List, Some, slice_get, length}
use Rattle.c_types.specs.declared.key.ObjectKey.{ObjectKey}
use Rattle.c_types.specs.declared.key.ObjectKey.TheVariants.{Entity as EntityKey, Varargs as VarargsKey}
use Rattle.c_types.specs.Trees.{Ctype, Ctypes}
use Rattle.core_tree.specs.declared.node.Node.{Node}
use Rattle.core_tree.specs.declared.node.NodeKind.TheVariants.{CallNode}
use Rattle.obj_made.specs.declared.object.Content.TheVariants.{Blob}
use Rattle.obj_space.specs.declared.location.Location.{Location}
use Rattle.obj_space.specs.View.{first_from}
use Rattle.row_numbers.specs.Functions.{key_type, parameters_of}
use Rattle.row_numbers.specs.Setting.{takes_further}
use Rattle.call_sites.specs.Signatures.{called_type}
use Rattle.call_sites.specs.Calls.{rest_of, count_of}
use Rattle.ref_cells.specs.declared.cells.Value.{Value}
use Rattle.ref_cells.specs.declared.instance.Instance.{Instance}
use Rattle.ref_frames.specs.Frames.{entered_objects}
use Rattle.covering_laws.specs.covered_types.Calls.{type_from, parameter_types, call_type}
use Rattle.covering_laws.specs.covered_memory.Covered.{InstanceIn}
use Rattle.covering_laws.specs.covered_state.World.{World, trees_of, view_in, sets_of, IsTargetAt}
use Rattle.covering_laws.specs.covered_state.Awaited.{IsBare}
use Rattle.covering_laws.specs.covered_state.Items.{Each, ArgumentsIn}
use Rattle.covered_runs.specs.covered_steps.covered_values.Values.{Stands}
use Rattle.covered_runs.specs.covered_steps.Made.{HasPlace}

-- a call whose type is that of a function with a body that it reaches
pub record Reaches (world : World) (n : ℕ) (node : Node) (f : ℕ) : Type 0 where
  pub there : slice_get (trees_of world).nodes n ≡ Some node
  pub kind : node.kind ≡ CallNode
  pub target : IsTargetAt world n (EntityKey f)
  pub fits : called_type (key_type (trees_of world) (EntityKey f)) ≡ call_type (trees_of world) node

-- an object of an entity with its place, whose type is that
pub record IsParameterOf (world : World) (key : ObjectKey) (t : Ctype) : Type 0 where
  pub e : ℕ
  pub key_is : key ≡ EntityKey e
  pub place : HasPlace world e
  pub type : key_type (trees_of world) key ≡ t

-- each parameter has the type in its place of a list
abbrev pub HaveTypes : World → List ObjectKey → Ctypes → Type 0
HaveTypes world keys types =
    (k : ℕ) (key : ObjectKey)
    → slice_get keys k ≡ Some key
    → (t : Ctype) × (type_from types k ≡ Some t) × IsParameterOf world key t

-- the object of what a function is passed past its parameters, with its location
pub record HasFurther (world : World) (f : ℕ) : Type 0 where
  pub first : ℕ
  pub location : Location
  pub first_is : first_from 0 world.space (VarargsKey f) ≡ Some first
  pub location_is : slice_get world.space first ≡ Some location
  pub content_is : location.content ≡ Blob

-- a function's parameters are as many as its list has types, and each has its type; and a variadic one has an object of
-- what it is passed past these
pub record IsMet (world : World) (f : ℕ) : Type 0 where
  pub typed : HaveTypes world (parameters_of (trees_of world) (view_in world) f)
      (parameter_types (called_type (key_type (trees_of world) (EntityKey f))))
  pub count : length (parameters_of (trees_of world) (view_in world) f)
      ≡ count_of (parameter_types (called_type (key_type (trees_of world) (EntityKey f))))
  pub further : takes_further (key_type (trees_of world) (EntityKey f)) ≡ true → HasFurther world f

-- the objects that a function makes which is entered with these arguments
abbrev pub objects_entered : World → ℕ → List Value → List Instance
objects_entered world f arguments =
    entered_objects (trees_of world) (key_type (trees_of world) (EntityKey f)) f
    (parameters_of (trees_of world) (view_in world) f) arguments

-- the objects of a function that a call reaches, with the call's arguments, are covered, and none waits for its type
abbrev pub ActivationsCovered : Type 0
ActivationsCovered =
    (world : World) (memory : List Instance) (n : ℕ) (node : Node) (f : ℕ) (arguments : List Value)
    → Stands world
    → Reaches world n node f
    → IsMet world f
    → ArgumentsIn world memory (rest_of node.children) arguments
    → length arguments ≤ length (rest_of node.children)
    → Each (InstanceIn (sets_of world) memory) (objects_entered world f arguments)
    × Each (λ inst. IsBare world inst → ⊥) (objects_entered world f arguments)
