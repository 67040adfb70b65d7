-- Which locations fit a type, and which rows have members that don't.
use Rattle.std.specs.Prelude.{ℕ, ◌==◌, Bool, false, if◌then◌else◌, IsFalse, Option, Some, None, slice_get}
use Rattle.c_types.specs.Trees.{Ctype}
use Rattle.core_tree.specs.Typed.{CoreTrees}
use Rattle.sol_model.specs.declared.system.System.{System}
use Rattle.sol_model.specs.declared.system.LocationFact.{LocationFact}
use Rattle.sol_model.specs.Families.{Family, Has}
use Rattle.obj_space.specs.View.{SpaceView}
use Rattle.row_numbers.specs.Numbers.{type_number}
use Rattle.row_numbers.specs.Setting.{row}

-- a program's trees and locations, its system, and a family of its rows
pub record Solution : Type 0 where
  pub trees : CoreTrees
  pub space : SpaceView
  pub system : System
  pub family : Family

abbrev pub fits_by : Option LocationFact → ℕ → Bool
fits_by None number = false
fits_by (Some fact) number = if fact.collapsed then false else fact.ty == number

-- A location fits the type of a number where it isn't collapsed and is of that type. Scalars go by class and arrays
-- by their elements, as their numbers do; all functions have one number, which no object has; a blob is collapsed.
abbrev pub fits : System → ℕ → ℕ → Bool
fits system number location = fits_by (slice_get system.locations location) number

-- some member of a row doesn't fit the type of a number
abbrev pub HasMisfit : System → Family → ℕ → ℕ → Type 0
HasMisfit system F row number = (location : ℕ) × Has F row location × IsFalse (fits system number location)

-- some member of a node's row doesn't fit a type
abbrev pub Misfits : Solution → ℕ → Ctype → Type 0
Misfits x n t = HasMisfit x.system x.family (row x.trees x.space n) (type_number t)
