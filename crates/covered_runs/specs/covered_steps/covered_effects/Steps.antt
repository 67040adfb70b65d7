-- Steps of library functions that leave the state covered (C11 7.1.4, 7.22.4, 7.22.5).
use Rattle.std.specs.Prelude.{◌≡◌, ◌⊎◌, ℕ, List, [], ◌∷◌, Option, Some, None, Ok, map, slice_get}
use Rattle.c_types.specs.declared.key.ObjectKey.{ObjectKey}
use Rattle.c_types.specs.declared.key.ObjectKey.TheVariants.{Function as FunctionKey}
use Rattle.c_types.specs.declared.term.TypeId.{TypeId}
use Rattle.core_tree.specs.declared.node.Node.{Node}
use Rattle.core_tree.specs.declared.node.NodeKind.TheVariants.{CallNode, Convert}
use Rattle.sol_model.specs.declared.system.Function.{Function}
use Rattle.sol_model.specs.Targets.{CallsBackIn}
use Rattle.obj_space.specs.View.{first_from}
use Rattle.row_numbers.specs.Functions.{key_type}
use Rattle.call_sites.specs.Signatures.{called_type}
use Rattle.call_sites.specs.Calls.{rest_of}
use Rattle.ref_cells.specs.declared.cells.Value.{Value}
use Rattle.ref_cells.specs.declared.instance.Instance.{Instance}
use Rattle.ref_state.specs.declared.items.Item.{Item}
use Rattle.ref_state.specs.declared.items.Item.TheVariants.{Wait, Library}
use Rattle.ref_state.specs.declared.frames.Frame.{Frame}
use Rattle.ref_state.specs.declared.state.State.{State}
use Rattle.ref_state.specs.Values.{value_in}
use Rattle.ref_calls.specs.declared.reached.Target.{Target}
use Rattle.ref_calls.specs.Reached.{reached}
use Rattle.ref_calls.specs.Library.{library_row}
use Rattle.ref_calls.specs.Ending.{last_of, kept_called}
use Rattle.covering_laws.specs.covered_types.Calls.{call_type}
use Rattle.covering_laws.specs.covered_state.World.{World, trees_of, IsTargetAt, IsFunctionAt}
use Rattle.covering_laws.specs.covered_state.Items.{Each, NodeIn, ArgumentsIn, IsPending, IsPendingBack}
use Rattle.covering_laws.specs.covered_state.State.{at_exit, Covered}
use Rattle.covered_runs.specs.covered_steps.covered_values.Values.{Stands}
use Rattle.covered_runs.specs.covered_steps.Steps.{moved}
use Rattle.covered_runs.specs.covered_steps.covered_effects.Served.{IsServed, running_in}

-- the function that a call reaches is among its targets, of the call's type, and its arguments are covered
pub record HasReached (world : World) (memory : List Instance) (n : ℕ) (node : Node) (values : List (ℕ × Value))
    (target : Target) : Type 0 where
  pub is_target : IsTargetAt world n target.key
  pub type : called_type (key_type (trees_of world) target.key) ≡ call_type (trees_of world) node
  pub arguments_are : target.arguments ≡ map (value_in values) (rest_of node.children)
  pub arguments_in : ArgumentsIn world memory (rest_of node.children) target.arguments

abbrev pub ReachedCovered : Type 0
ReachedCovered =
    (world : World) (stands : Stands world) (characters : TypeId)
    → IsServed world stands characters
    → (memory : List Instance) (n : ℕ) (node : Node) (values : List (ℕ × Value)) (target : Target)
    → slice_get (trees_of world).nodes n ≡ Some node
    → node.kind ≡ CallNode
    → Each (λ v. NodeIn world memory v.0 v.1) values
    → reached (trees_of world) n values ≡ Ok target
    → HasReached world memory n node values target

-- nothing, or the target of the call, is noted
abbrev pub NotesTarget : ℕ → ObjectKey → Option (ℕ × ObjectKey) → Type 0
NotesTarget n key target = (target ≡ None) ⊎ (target ≡ Some (n, key))

-- a call, all of whose operands are there, waits for the library function that it reaches
abbrev pub StepsPended : Type 0
StepsPended =
    (world : World) (stands : Stands world) (characters : TypeId)
    → IsServed world stands characters
    → (state : State) (f : Frame) (rest : List Frame) (n k : ℕ) (node : Node) (values : List (ℕ × Value))
    (items : List Item) (target : Target) (note : Option (ℕ × ObjectKey))
    → Covered world state
    → state.frames ≡ f ∷ rest
    → f.items ≡ Wait n [] values ∷ items
    → slice_get (trees_of world).nodes n ≡ Some node
    → node.kind ≡ CallNode
    → reached (trees_of world) n values ≡ Ok target
    → target.key ≡ FunctionKey k
    → NotesTarget n (FunctionKey k) note
    → Covered world
    (moved state f rest state.memory f.instances (Library n k target.arguments ∷ items)
    (record { target = note; stores = [] }))

-- a conversion over the call waits for it below
abbrev pub ConversionWaits : World → ℕ → List Item → Type 0
ConversionWaits world n items =
    (m : ℕ) (node : Node)
    → slice_get (trees_of world).nodes m ≡ Some node
    → node.kind ≡ Convert
    → node.children ≡ n ∷ []
    → (rest : List Item) × (items ≡ Wait m [] [] ∷ rest)

-- a function that is kept has a location, and atexit calls it back where its type is that of such functions
pub record IsKeptFound (world : World) (key : ObjectKey) : Type 0 where
  pub l : ℕ
  pub first : first_from 0 world.space key ≡ Some l
  pub library : ℕ
  pub library_is : IsFunctionAt world library (FunctionKey at_exit)
  pub calls : (number : ℕ) (function : Function)
      → IsFunctionAt world number key
      → slice_get world.system.functions number ≡ Some function
      → function.signature ≡ 1
      → CallsBackIn world.system world.family library number

pub record KeptFound (world : World) (state : State) : Type 0 where
  pub each : Each (λ entry. IsKeptFound world entry.0) state.kept

-- what the library's step leaves covered, with the functions that are kept
pub record StaysCovered (world : World) (state : State) : Type 0 where
  pub covered : Covered world state
  pub found : KeptFound world state

-- the effect of a pending call leaves the state covered, however the call goes on
abbrev pub StepsEffected : Type 0
StepsEffected =
    (world : World) (stands : Stands world) (characters : TypeId)
    → IsServed world stands characters
    → (state : State) (f : Frame) (rest : List Frame) (n k : ℕ) (arguments : List Value) (items : List Item)
    (word : ℕ) (next : State)
    → StaysCovered world state
    → state.frames ≡ f ∷ rest
    → f.items ≡ Library n k arguments ∷ items
    → IsPending world state.memory n k arguments
    → ConversionWaits world n items
    → library_row (running_in world characters) state f rest n k arguments word ≡ Ok next
    → StaysCovered world next

-- at the program's end the function that was kept last is called
abbrev pub StepsKept : Type 0
StepsKept =
    (world : World) (stands : Stands world) (characters : TypeId)
    → IsServed world stands characters
    → (state : State) (key : ObjectKey) (n : ℕ) (next : State)
    → StaysCovered world state
    → state.frames ≡ []
    → last_of state.kept ≡ Some (key, n)
    → kept_called (running_in world characters) state key n ≡ Ok next
    → StaysCovered world next

-- the item that is next isn't one that waits for values
abbrev pub IsNoWait : List Item → Type 0
IsNoWait [] = Unit {0}
IsNoWait (Wait n left values ∷ rest) = ⊥
IsNoWait (item ∷ rest) = Unit {0}

-- a library function that another one calls back does its own
abbrev pub StepsBacked : Type 0
StepsBacked =
    (world : World) (stands : Stands world) (characters : TypeId)
    → IsServed world stands characters
    → (state : State) (f : Frame) (rest : List Frame) (n k : ℕ) (arguments : List Value) (items : List Item)
    (word : ℕ) (next : State)
    → StaysCovered world state
    → state.frames ≡ f ∷ rest
    → f.items ≡ Library n k arguments ∷ items
    → IsPendingBack world state.memory n k arguments
    → IsNoWait items
    → library_row (running_in world characters) state f rest n k arguments word ≡ Ok next
    → StaysCovered world next
