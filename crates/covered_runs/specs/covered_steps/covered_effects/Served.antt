-- What a world has of the library's functions and of their objects, and what a pending call takes of it.
use Rattle.std.specs.Prelude.{◌≡◌, ◌⊎◌, ℕ, ◌<◌, true, [], ◌∷◌, None, Some, Contains, slice_get}
use Rattle.c_types.specs.declared.key.ObjectKey.{ObjectKey}
use Rattle.c_types.specs.declared.key.ObjectKey.TheVariants.{Entity as EntityKey, Call as CallKey, Star as StarKey}
use Rattle.c_types.specs.declared.key.ObjectKey.TheVariants.{Function as FunctionKey}
use Rattle.c_types.specs.declared.term.TypeId.{TypeId}
use Rattle.c_types.specs.Trees.{IntegerType}
use Rattle.c_types.specs.Table.{type_of}
use Rattle.core_tree.specs.declared.node.Entity.{Entity}
use Rattle.core_tree.specs.declared.node.Node.{Node}
use Rattle.core_tree.specs.declared.node.NodeKind.TheVariants.{CallNode, Convert}
use Rattle.core_tree.specs.Typed.{CoreTrees}
use Rattle.lib_summaries.specs.Table.{Row as Summary, rows as summaries}
use Rattle.link_names.specs.Shape.{HasShape}
use Rattle.link_names.specs.Together.{is_listed}
use Rattle.obj_made.specs.declared.object.Content.TheVariants.{Elements}
use Rattle.obj_made.specs.Made.{allocated_content}
use Rattle.obj_made.specs.Uses.{is_allocator, is_starred}
use Rattle.obj_space.specs.declared.location.Location.{Location}
use Rattle.obj_space.specs.View.{first_from}
use Rattle.row_numbers.specs.Functions.{function_keys, key_type, parameters_of}
use Rattle.call_sites.specs.Signatures.{called_type}
use Rattle.call_sites.specs.Calls.{named_library}
use Rattle.ref_frames.specs.Running.{Running}
use Rattle.ref_calls.specs.Calls.{is_function, signature_of}
use Rattle.covering_laws.specs.covered_rows.Laws.{Solved}
use Rattle.covering_laws.specs.covered_types.Calls.{call_type}
use Rattle.covering_laws.specs.covered_library.Laws.{AreCounted}
use Rattle.covering_laws.specs.covered_needs.Needs.{HasLibrary, HasCalls}
use Rattle.covering_laws.specs.covered_state.World.{World, trees_of, view_in, IsTargetAt}
use Rattle.covering_laws.specs.covered_state.Items.{IsOwned}
use Rattle.covered_runs.specs.covered_steps.covered_values.Values.{Stands}
use Rattle.covered_runs.specs.covered_steps.Made.{HasPlace}

-- the world as what its laws stand on
abbrev pub solved : (world : World) → Stands world → Solved
solved world stands = record {
  program = world.program;
  space = world.space;
  system = world.system;
  is_system = world.is_system;
  family = world.family;
  closed = stands.closed;
  grounds = stands.grounds;
}

-- what the machine's steps are over
abbrev pub running_in : World → TypeId → Running
running_in world characters = record {
  trees = trees_of world;
  space = world.space;
  characters = characters;
  entries = world.program.entries.items;
}

-- a function of the library has the shape of its row, and a parameter list
pub record IsOfShape (u : CoreTrees) (k : ℕ) : Type 0 where
  pub row : Summary
  pub row_is : slice_get summaries k ≡ Some row
  pub shape : HasShape (key_type u (FunctionKey k)) row.shape
  pub listed : is_listed (key_type u (FunctionKey k)) ≡ true

-- the object that calls of an allocating function get that don't name it
pub record IsStarObject (world : World) (k : ℕ) : Type 0 where
  pub first : ℕ
  pub location : Location
  pub first_is : first_from 0 world.space (StarKey k) ≡ Some first
  pub location_is : slice_get world.space first ≡ Some location
  pub content_is : location.content ≡ allocated_content k None

-- whether the program names a function other than as what a call calls
abbrev pub is_starred_in : World → ℕ → Type 0
is_starred_in world k = is_starred world.program.entities.items world.program.nodes.items k ≡ true

-- a conversion over a call alone
pub record IsConverted (world : World) (n : ℕ) : Type 0 where
  pub at : ℕ
  pub node : Node
  pub there : slice_get (trees_of world).nodes at ≡ Some node
  pub kind : node.kind ≡ Convert
  pub child : node.children ≡ n ∷ []

pub record IsServed (world : World) (stands : Stands world) (characters : TypeId) : Type 0 where
  -- functions of the library that the program names
  pub shapes : (k l : ℕ)
      → k < 55
      → first_from 0 world.space (FunctionKey k) ≡ Some l
      → IsOfShape (trees_of world) k
  pub objects : HasLibrary world.space
  pub calls : HasCalls (solved world stands)
  pub stars : (k : ℕ) → is_allocator k ≡ true → is_starred_in world k → IsStarObject world k
  -- a call that reaches an allocating function names it, or the program has it as a value
  pub spread : (n k : ℕ) (node : Node)
      → slice_get (trees_of world).nodes n ≡ Some node
      → IsTargetAt world n (FunctionKey k)
      → is_allocator k ≡ true
      → (named_library (trees_of world) node ≡ Some k) ⊎ is_starred_in world k
  pub star_contents : (k first : ℕ) (location : Location)
      → first_from 0 world.space (StarKey k) ≡ Some first
      → slice_get world.space first ≡ Some location
      → location.content ≡ allocated_content k None
  -- an object that is a function is one of the program's functions
  pub functions : (key : ObjectKey) (l : ℕ)
      → first_from 0 world.space key ≡ Some l
      → is_function (signature_of (trees_of world) key) ≡ true
      → Contains (function_keys (trees_of world)) key
  -- an object that a call makes of a type has that from the conversion above the call
  pub conversions : (n first : ℕ) (location : Location) (id : TypeId)
      → first_from 0 world.space (CallKey n) ≡ Some first
      → slice_get world.space first ≡ Some location
      → location.content ≡ Elements id
      → IsConverted world n
  -- a parameter is an object with its place, and a function's body is its own
  pub parameters : (f k : ℕ) (key : ObjectKey)
      → slice_get (parameters_of (trees_of world) (view_in world) f) k ≡ Some key
      → (e : ℕ) × (key ≡ EntityKey e) × HasPlace world e
  pub bodies : (e : ℕ) (entity : Entity) (b : ℕ)
      → slice_get (trees_of world).entities e ≡ Some entity
      → entity.body ≡ Some b
      → is_function (signature_of (trees_of world) (EntityKey e)) ≡ true
      → IsOwned world (EntityKey e) b
  pub counted : AreCounted (solved world stands)
  pub characters_are : type_of world.program.types characters.0 ≡ IntegerType 1 1 true

-- a call has the type of a function of the library
abbrev pub IsOfType : World → Node → ℕ → Type 0
IsOfType world node k = called_type (key_type (trees_of world) (FunctionKey k)) ≡ call_type (trees_of world) node

-- a call node that has the function among its targets, and its type
pub record Reaches (world : World) (n k : ℕ) : Type 0 where
  pub node : Node
  pub there : slice_get (trees_of world).nodes n ≡ Some node
  pub kind : node.kind ≡ CallNode
  pub target : IsTargetAt world n (FunctionKey k)
  pub type : IsOfType world node k
