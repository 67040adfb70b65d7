-- A program with its locations, its system and a set for each row.
use Rattle.std.specs.Prelude.{◌≡◌, ℕ, List, Some, slice_get, length}
use Rattle.c_types.specs.declared.key.ObjectKey.{ObjectKey}
use Rattle.core_tree.specs.declared.node.Program.{Program}
use Rattle.core_tree.specs.Typed.{CoreTrees, trees_in}
use Rattle.sol_model.specs.declared.system.System.{System}
use Rattle.sol_model.specs.Families.{Family}
use Rattle.sol_model.specs.Targets.{IsTargetOf}
use Rattle.obj_space.specs.declared.location.Location.{Location}
use Rattle.obj_space.specs.View.{SpaceView, view_of}
use Rattle.row_numbers.specs.Functions.{functions_of}
use Rattle.row_numbers.specs.Setting.{Setting}
use Rattle.call_sites.specs.Calls.{calls_upto}
use Rattle.normal_form.specs.SystemOf.{setting_of, SystemOf}
use Rattle.covering_laws.specs.covered_memory.Covered.{Sets}

pub record World : Type 0 where
  pub program : Program
  pub space : List Location
  pub system : System
  pub is_system : SystemOf program (view_of space) system
  pub family : Family

abbrev pub trees_of : World → CoreTrees
trees_of world = trees_in world.program

abbrev pub view_in : World → SpaceView
view_in world = view_of world.space

abbrev pub sets_of : World → Sets
sets_of world = record { table = world.program.types; space = world.space; family = world.family }

abbrev pub setting_in : World → Setting
setting_in world = setting_of world.program (view_of world.space) world.is_system.owners

-- the call of that number is at that node
abbrev pub IsCallAt : World → ℕ → ℕ → Type 0
IsCallAt world number n =
    slice_get (calls_upto (trees_of world).nodes (length (trees_of world).nodes)) number ≡ Some n

-- the function of that number is that object
abbrev pub IsFunctionAt : World → ℕ → ObjectKey → Type 0
IsFunctionAt world number key = slice_get (functions_of (trees_of world) (view_in world)) number ≡ Some key

-- a function is a target of the call at a node
pub record IsTargetAt (world : World) (n : ℕ) (key : ObjectKey) : Type 0 where
  pub call : ℕ
  pub call_is : IsCallAt world call n
  pub function : ℕ
  pub function_is : IsFunctionAt world function key
  pub target : IsTargetOf world.system world.family call function
