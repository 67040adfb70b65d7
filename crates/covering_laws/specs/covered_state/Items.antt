-- What items hold, and that sets cover it.
use Rattle.std.specs.Prelude.{◌≡◌, ◌⊎◌, ℕ, ◌≤◌, ⊤, List, [], ◌∷◌, Some, length, slice_get}
use Rattle.c_types.specs.declared.key.ObjectKey.{ObjectKey}
use Rattle.c_types.specs.declared.key.ObjectKey.TheVariants.{Entity as EntityKey, Function as FunctionKey}
use Rattle.core_tree.specs.declared.node.Node.{Node}
use Rattle.core_tree.specs.Typed.{Sort, PlaceNode, ValueNode, sort_at, type_at}
use Rattle.sol_model.specs.Targets.{CallsBackIn}
use Rattle.row_numbers.specs.Kept.{kept_row}
use Rattle.row_numbers.specs.Functions.{number_of, key_type}
use Rattle.row_numbers.specs.Setting.{result_row}
use Rattle.ref_cells.specs.declared.cells.Cell.{Cell}
use Rattle.ref_cells.specs.declared.cells.Cell.TheVariants.{Pointer}
use Rattle.ref_cells.specs.declared.cells.Value.{Value}
use Rattle.ref_cells.specs.declared.instance.Instance.{Instance}
use Rattle.ref_cells.specs.Wholes.{whole_of}
use Rattle.ref_state.specs.declared.items.Item.{Item}
use Rattle.ref_state.specs.declared.items.Item.TheVariants.{Do, Wait, Library, Result}
use Rattle.ref_state.specs.Values.{cell_of}
use Rattle.call_sites.specs.Calls.{rest_of}
use Rattle.call_sites.specs.Signatures.{called_type}
use Rattle.normal_form.specs.Assignments.{given_type, type_nodes}
use Rattle.covering_laws.specs.covered_types.Calls.{call_type}
use Rattle.covering_laws.specs.covered_types.Whole.{IsHeld}
use Rattle.covering_laws.specs.covered_memory.Cells.{EachCell}
use Rattle.covering_laws.specs.covered_memory.Spots.{room, IsInTree}
use Rattle.covering_laws.specs.covered_memory.Covered.{ValueIn}
use Rattle.covering_laws.specs.covered_rows.Nodes.{PlaceIn, HeldIn}
use Rattle.covering_laws.specs.covered_state.World.{World, trees_of, view_in, sets_of, setting_in, IsTargetAt, IsFunctionAt}

-- a fact of each element
abbrev pub Each : {X : Type 0} → (X → Type 0) → List X → Type 0
Each P [] = Unit {0}
Each P (x ∷ rest) = P x × Each P rest

-- what a node holds: a place is in its row, and is one cell; a value is in its rows, and where it has cells its type is
-- one that values may have; what is neither has no cells
abbrev pub SortIn : World → List Instance → Sort → ℕ → Value → Type 0
SortIn world memory PlaceNode n v =
    PlaceIn (sets_of world) (setting_in world) memory n (cell_of v) × (length v.cells ≤ 1)
SortIn world memory ValueNode n v =
    HeldIn (sets_of world) (setting_in world) memory n v
    × ((v.cells ≡ []) ⊎ IsHeld world.program.types (type_at (trees_of world) n))
SortIn world memory sort n v = v.cells ≡ []

abbrev pub NodeIn : World → List Instance → ℕ → Value → Type 0
NodeIn world memory n v = SortIn world memory (sort_at (trees_of world) n) n v

-- a node of a function's body
abbrev pub IsOwned : World → ObjectKey → ℕ → Type 0
IsOwned world (EntityKey f) n = slice_get world.is_system.owners n ≡ Some (Some f)
IsOwned world key n = ⊥

-- a value that is returned is in the rows of its function's result
abbrev pub ReturnedIn : World → List Instance → ObjectKey → Value → Type 0
ReturnedIn world memory (EntityKey f) v =
    ValueIn (sets_of world) memory
    (kept_row (result_row (trees_of world) (view_in world) (number_of (trees_of world) (view_in world) f))
    (type_nodes (setting_in world) (given_type (setting_in world) f)))
    (given_type (setting_in world) f) v
ReturnedIn world memory key v = ⊥

-- the arguments of a call of the library, place by place
abbrev pub ArgumentsIn : World → List Instance → List ℕ → List Value → Type 0
ArgumentsIn world memory (a ∷ nodes) (v ∷ values) =
    HeldIn (sets_of world) (setting_in world) memory a v × ArgumentsIn world memory nodes values
ArgumentsIn world memory nodes values = ⊤

-- what a cell points to is there, and the path is in the tree of its type
abbrev pub ExistsIn : World → List Instance → Cell → Type 0
ExistsIn world memory (Pointer i path past) =
    (inst : Instance)
    × (slice_get memory i ≡ Some inst)
    × IsInTree world.program.types (whole_of world.program.types inst) (room inst) path
ExistsIn world memory cell = ⊤

-- so is what the cells of values point to
abbrev pub AllExist : World → List Instance → List Value → Type 0
AllExist world memory values = Each (λ v. EachCell (λ path cell. ExistsIn world memory cell) v.cells) values

-- a library function that a call at a node waits for: it is a target of the call, of the call's type, and has its
-- arguments, or one of the targets calls it back
pub record IsPending (world : World) (memory : List Instance) (n function : ℕ)
    (arguments : List Value) : Type 0 where
  pub node : Node
  pub there : slice_get (trees_of world).nodes n ≡ Some node
  pub target : IsTargetAt world n (FunctionKey function)
  pub fits : called_type (key_type (trees_of world) (FunctionKey function)) ≡ call_type (trees_of world) node
  pub arguments_in : ArgumentsIn world memory (rest_of node.children) arguments
  pub all : length arguments ≤ length (rest_of node.children)

pub record IsCalledBackAt (world : World) (n : ℕ) (library back : ℕ) (key : ObjectKey) : Type 0 where
  pub caller : ObjectKey
  pub library_is : IsFunctionAt world library caller
  pub target : IsTargetAt world n caller
  pub back_is : IsFunctionAt world back key
  pub edge : CallsBackIn world.system world.family library back

pub record IsPendingBack (world : World) (memory : List Instance) (n function : ℕ)
    (arguments : List Value) : Type 0 where
  pub library : ℕ
  pub back : ℕ
  pub called : IsCalledBackAt world n library back (FunctionKey function)
  pub exist : AllExist world memory arguments

-- what an item of a function's frame holds is covered
abbrev pub ItemIn : World → List Instance → ObjectKey → Item → Type 0
ItemIn world memory f (Do n) = IsOwned world f n
ItemIn world memory f (Wait n left values) =
    IsOwned world f n × Each (IsOwned world f) left × Each (λ v. NodeIn world memory v.0 v.1) values
ItemIn world memory f (Library n function arguments) =
    IsPending world memory n function arguments ⊎ IsPendingBack world memory n function arguments
ItemIn world memory f (Result v) = ReturnedIn world memory f v
