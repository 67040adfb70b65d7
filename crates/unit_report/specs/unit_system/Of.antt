-- The program of units, the system of a program, and that of units.
use Rattle.std.specs.Prelude.{◌≡◌, ℕ, ◌+◌, ◌<◌, ◌≤◌, ◌^◌, List, length}
use Rattle.c_types.specs.Made.{IsMade, AreNamed}
use Rattle.core_tree.specs.declared.node.Unit.{Unit}
use Rattle.core_tree.specs.declared.node.Program.{Program}
use Rattle.core_tree.specs.Range.{InRange}
use Rattle.core_tree.specs.Typed.{trees_in}
use Rattle.sol_model.specs.declared.system.System.{System}
use Rattle.sol_model.specs.Systems.{IsValid, location_count}
use Rattle.unit_link.specs.Linked.{LinkedAt}
use Rattle.obj_space.specs.declared.location.Location.{Location}
use Rattle.obj_space.specs.Space.{locations_in}
use Rattle.obj_space.specs.View.{view_of}
use Rattle.normal_form.specs.SystemOf.{SystemOf}

-- a program that is linked from units and entered at those names, or begins at main, on a table that the table's
-- own functions made, in which each term comes behind its types, and with so few types that a signature of 32 bits,
-- which is 2 above a type's number, is never that of a type that the table lacks; each number in it is in range
pub record IsProgramOf (entered : List (List ℕ)) (units : List Unit) (p : Program) : Type 0 where
  pub linked : LinkedAt entered units p
  pub made : IsMade p.types
  pub named : AreNamed p.types
  pub room : length p.types.terms + 2 < 2 ^ 32
  pub range : InRange (trees_in p)

-- a program's locations, and its system over these: the program is within the limit of nodes, the system within
-- that of words
pub record IsSystemOf (p : Program) (space : List Location) (system : System) : Type 0 where
  pub few : length p.nodes.items ≤ 2 ^ 24
  pub space_is : space ≡ locations_in p
  pub system_is : SystemOf p (view_of space) system
  pub valid : IsValid system
  pub count : length space ≡ location_count system

-- a program that is linked from units, with its locations and its system over these
pub record AreLinkedAs (entered : List (List ℕ)) (units : List Unit) (p : Program) (space : List Location)
    (system : System) : Type 0 where
  pub own : IsProgramOf entered units p
  pub system_of : IsSystemOf p space system
