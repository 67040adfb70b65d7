-- The members of a row as a list.
use Rattle.std.specs.Prelude.{ℕ, List}
use Rattle.std.specs.List.{filter, range_with_len}
use Rattle.sol_model.specs.declared.system.System.{System}
use Rattle.sol_model.specs.Families.{Family, Has}
use Rattle.sol_model.specs.Systems.{IsLocation, location_count}

-- the members of a row, in order of location
abbrev pub members_in : System → Family → ℕ → List ℕ
members_in system F row = filter (λ location. F row location) (range_with_len 0 (location_count system))

-- a family's facts are of locations of the system
abbrev pub IsKnown : System → Family → Type 0
IsKnown system F = (row location : ℕ) → Has F row location → IsLocation system location
