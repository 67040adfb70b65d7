-- A worked system without edges: a pointer in row 2 to a structure at 0 with its one member at 1; row 5 gets the
-- address of the member; and a call of the library function at 3, which row 6 has, gives the object at 4 to row 7.
use Rattle.std.specs.Prelude.{ℕ, false, ◌==◌, ◌&&◌, ◌||◌, [], ◌∷◌, Some, None}
use Rattle.pta_base.specs.declared.effect.Effect.TheVariants.{GivesNew}
use Rattle.sol_model.specs.declared.system.System.{System}
use Rattle.sol_model.specs.declared.system.LocationFact.{LocationFact}
use Rattle.sol_model.specs.declared.system.Function.{Function}
use Rattle.sol_model.specs.declared.system.CallSite.{CallSite}
use Rattle.sol_model.specs.Solutions.{IsLeast}
use Rattle.sol_model.specs.declared.system.Constraint.TheVariants.{Address, Field, Call}
use Rattle.sol_model.specs.Families.{Family}
use Rattle.round_pieces.specs.Work.{IsWork}

abbrev pub object_of : ℕ → LocationFact
object_of ty = record { collapsed = false; ty = ty; function = None }

abbrev pub library : Function
library =
    record { location = 3; signature = 0; parameters = []; result = []; library = Some 0; effects = GivesNew ∷ [] }

abbrev pub the_call : CallSite
the_call =
    record {
      caller = 0;
      callee = 6;
      signature = 0;
      direct = false;
      place = record { unit = 0; line = 1; column = 1 };
      arguments = [];
      result = 7
          ∷ [];
      fresh = (0, 4) ∷ [];
    }

abbrev pub gift : System
gift = record {
  rows = 8;
  locations =
      object_of 1 ∷ object_of 0 ∷ object_of 0 ∷ record { collapsed = false; ty = 0; function = Some 0 }
      ∷ object_of 0 ∷ [];
  types = record { nodes = 1; members = [] } ∷ record { nodes = 2; members = 1 ∷ [] } ∷ [];
  constraints = Address 2 0 ∷ Field 2 5 1 0 ∷ Address 6 3 ∷ Call 0 ∷ [];
  calls = the_call ∷ [];
  functions = library ∷ [];
}

abbrev pub gift_sets : Family
gift_sets row location =
    ((row == 2) && (location == 0)) || ((row == 5) && (location == 1)) || ((row == 6) && (location == 3))
    || ((row == 7) && (location == 4))

-- these sets are its least solution; its work is two addresses, one member and one object of a call
abbrev pub GiftWork : Type 0
GiftWork = IsLeast gift gift_sets × IsWork gift gift_sets 4
