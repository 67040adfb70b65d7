-- The nodes that an access reaches from a location.
use Rattle.std.specs.Prelude.{◌≡◌, ℕ, ◌+◌, ◌<◌, ◌≤◌, if◌then◌else◌, Option, Some, None, slice_get}
use Rattle.sol_model.specs.declared.system.System.{System}
use Rattle.sol_model.specs.declared.system.LocationFact.{LocationFact}
use Rattle.sol_model.specs.Families.{Family, Has}
use Rattle.sol_model.specs.Places.{sub_of, nodes_of}

-- how many nodes lie under a location: it alone where it is collapsed, else those of its type
abbrev pub extent_by : System → Option LocationFact → ℕ
extent_by system None = 0
extent_by system (Some fact) = if fact.collapsed then 1 else nodes_of system fact.ty

abbrev pub extent_at : System → ℕ → ℕ
extent_at system location = extent_by system (slice_get system.locations location)

-- a node under a location: they stand from it on
abbrev pub IsUnder : System → ℕ → ℕ → Type 0
IsUnder system location node = (location ≤ node) × (node < location + extent_at system location)

-- a node that is reached from a location: by an access of a type, Sub of some node of that type; without one, any node
-- under it
abbrev pub IsReached : System → Option ℕ → ℕ → ℕ → Type 0
IsReached system None location node = IsUnder system location node
IsReached system (Some ty) location node =
    (sub : ℕ) × (sub < nodes_of system ty) × (sub_of system location ty sub ≡ Some node)

-- a node that is reached from a location that the row has
abbrev pub IsReachedBy : System → Family → Option ℕ → ℕ → ℕ → Type 0
IsReachedBy system F ty row node = (location : ℕ) × Has F row location × IsReached system ty location node
