-- A worked system: four pointers; copies from 2 to 1, from 3 to 2 and from 1 to 3; and 3 gets location 0.
use Rattle.std.specs.Prelude.{false, ◌==◌, ◌&&◌, nat_lt, [], ◌∷◌, None}
use Rattle.sol_model.specs.declared.system.System.{System}
use Rattle.sol_model.specs.declared.system.LocationFact.{LocationFact}
use Rattle.sol_model.specs.declared.system.Constraint.TheVariants.{Address, Copy}
use Rattle.sol_model.specs.Families.{Family}
use Rattle.sol_model.specs.Solutions.{IsLeast}
use Rattle.round_pieces.specs.Work.{IsWork}

abbrev pub pointer : LocationFact
pointer = record { collapsed = false; ty = 0; function = None }

abbrev pub ring : System
ring = record {
  rows = 4;
  locations = pointer ∷ pointer ∷ pointer ∷ pointer ∷ [];
  types = record { nodes = 1; members = [] } ∷ [];
  constraints = Copy 2 1 ∷ Copy 3 2 ∷ Copy 1 3 ∷ Address 3 0 ∷ [];
  calls = [];
  functions = [];
}

-- rows 1, 2 and 3 have location 0
abbrev pub ring_sets : Family
ring_sets row location = nat_lt 0 row && nat_lt row 4 && (location == 0)

-- these sets are its least solution; each of its three edges carries one location, and one address is added
abbrev pub RingWork : Type 0
RingWork = IsLeast ring ring_sets × IsWork ring ring_sets 4
