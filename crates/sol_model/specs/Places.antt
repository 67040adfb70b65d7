-- Where a location leads: nodes below it, members, and the pairs of nodes that a copy of whole objects joins.
use Rattle.std.specs.Prelude.{ℕ, ◌+◌, ◌==◌, Bool, true, false, if◌then◌else◌, List, [], ◌∷◌, map, Option, Some}
use Rattle.std.specs.Prelude.{None, slice_get, option_and_then}
use Rattle.std.specs.Option.{option_map_or}
use Rattle.std.specs.List.{range_with_len}
use Rattle.sol_model.specs.declared.system.System.{System}
use Rattle.sol_model.specs.declared.system.LocationFact.{LocationFact}

-- a collapsed location leads to itself, one of the type so far on, any other nowhere
abbrev pub node_from : Option LocationFact → ℕ → ℕ → ℕ → Option ℕ
node_from None location ty distance = None
node_from (Some fact) location ty distance =
    if fact.collapsed then Some location else (if fact.ty == ty then Some (location + distance) else None)

-- Sub: node `sub` of an object of a type
abbrev pub sub_of : System → ℕ → ℕ → ℕ → Option ℕ
sub_of system location ty sub = node_from (slice_get system.locations location) location ty sub

-- the position of a member's node
abbrev pub member_position : System → ℕ → ℕ → Option ℕ
member_position system ty member =
    option_and_then (λ fact. slice_get fact.members member) (slice_get system.types ty)

-- Field: the node of a member
abbrev pub field_of : System → ℕ → ℕ → ℕ → Option ℕ
field_of system location ty member =
    option_and_then (λ distance. node_from (slice_get system.locations location) location ty distance)
    (member_position system ty member)

-- how many nodes a type has
abbrev pub nodes_of : System → ℕ → ℕ
nodes_of system ty = option_map_or (λ fact. fact.nodes) (slice_get system.types ty) 0

-- the pairs that are joined from `from` to `to`: whether each is collapsed, whether they have one type, and how
-- many nodes the type of each has. The only node under a collapsed location is that location itself, whatever its
-- type, so two of them join as one pair.
abbrev pub pairs_of : Bool → Bool → Bool → ℕ → ℕ → ℕ → ℕ → List (ℕ × ℕ)
pairs_of true true one_type to from to_nodes from_nodes = (to, from) ∷ []
pairs_of true false one_type to from to_nodes from_nodes = map (λ node. (to, node)) (range_with_len from from_nodes)
pairs_of false true one_type to from to_nodes from_nodes = map (λ node. (node, from)) (range_with_len to to_nodes)
pairs_of false false true to from to_nodes from_nodes = map (λ i. (to + i, from + i)) (range_with_len 0 to_nodes)
pairs_of false false false to from to_nodes from_nodes = []

abbrev pub pairs_between : System → Option LocationFact → Option LocationFact → ℕ → ℕ → List (ℕ × ℕ)
pairs_between system None source to from = []
pairs_between system (Some target) None to from = []
pairs_between system (Some target) (Some source) to from =
    pairs_of target.collapsed source.collapsed (target.ty == source.ty) to from (nodes_of system target.ty)
    (nodes_of system source.ty)

-- Deep: the pairs of nodes that are joined where what lies at `from` is copied to `to`
abbrev pub deep : System → ℕ → ℕ → List (ℕ × ℕ)
deep system to from = pairs_between system (slice_get system.locations to) (slice_get system.locations from) to from
