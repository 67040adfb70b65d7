-- Where the machine may stop for a type: the nodes that stand as a mismatch or as a bad call.
use Rattle.std.specs.Prelude.{◌≡◌, ℕ, ◌<◌, ◌↔◌, ◌⊎◌, ⊤, Bool, true, false, IsTrue, List, [], ◌∷◌, ◌++◌, Some}
use Rattle.std.specs.Prelude.{Contains}
use Rattle.std.specs.Prelude.{AllPairs, if◌then◌else◌}
use Rattle.c_types.specs.Trees.{Ctype}
use Rattle.c_types.specs.Table.{type_of}
use Rattle.core_tree.specs.declared.node.Node.{Node}
use Rattle.core_tree.specs.declared.node.NodeKind.{NodeKind}
use Rattle.core_tree.specs.declared.node.NodeKind.TheVariants.{Member, Fetch, Decay, Upcast, Assign, Update}
use Rattle.core_tree.specs.declared.node.NodeKind.TheVariants.{CallNode}
use Rattle.core_tree.specs.declared.node.NodeKind.TheVariants.{MemberOfValue, NextArg}
use Rattle.core_tree.specs.Typed.{type_at}
use Rattle.core_tree.specs.Range.{node_at}
use Rattle.normal_form.specs.Assignments.{pointed, is_union_type}
use Rattle.stop_places.specs.declared.list.Stop.{Stop}
use Rattle.stop_places.specs.Fits.{Solution, Misfits}
use Rattle.stop_places.specs.Far.{IsFar}
use Rattle.stop_places.specs.Loose.{IsLoose}
use Rattle.stop_places.specs.Targets.{CallAt, HasStranger, ReachesWalker, ReachesEnder}

-- a place of type t is read: some member of its row doesn't fit t, or the place is far and the program loose
abbrev pub ReadsBadly : Solution → ℕ → Ctype → Type 0
ReadsBadly x p t = Misfits x p t ⊎ (IsFar x.trees.nodes p × IsLoose x)

-- a far place of type t is written, or goes on as a place: the same
abbrev pub PassesBadly : Solution → ℕ → Ctype → Type 0
PassesBadly x p t = IsFar x.trees.nodes p × (Misfits x p t ⊎ IsLoose x)

-- the node of number n and type t, whose first operand is p, stands as a mismatch, by its kind; one that takes the next
-- argument of a list always does, since no type tells which argument that is (7.16.1.1p2)
abbrev pub MismatchOver : Solution → ℕ → NodeKind → Ctype → ℕ → Type 0
MismatchOver x n Fetch t p = ReadsBadly x p t
MismatchOver x n (Update op post) t p = ReadsBadly x p t
MismatchOver x n Assign t p = PassesBadly x p t
MismatchOver x n Decay t p = PassesBadly x p (type_at x.trees p)
MismatchOver x n (Member k) t p = PassesBadly x p (type_at x.trees p)
MismatchOver x n Upcast t v = Misfits x v (pointed (type_at x.trees v)) ⊎ IsLoose x
MismatchOver x n (MemberOfValue k) t v = IsTrue (is_union_type (type_at x.trees v))
MismatchOver x n NextArg t list = ⊤
MismatchOver x n CallNode t callee = CallAt x n ReachesWalker
MismatchOver x n kind t operand = ⊥

abbrev pub MismatchBy : Solution → ℕ → NodeKind → Ctype → List ℕ → Type 0
MismatchBy x n kind t [] = ⊥
MismatchBy x n kind t (operand ∷ rest) = MismatchOver x n kind t operand

-- the node of number n stands as a bad call, by its kind
abbrev pub BadCallBy : Solution → ℕ → NodeKind → Type 0
BadCallBy x n CallNode = CallAt x n HasStranger ⊎ CallAt x n ReachesEnder
BadCallBy x n kind = ⊥

abbrev pub StandsBy : Solution → ℕ → NodeKind → Ctype → List ℕ → Bool → Type 0
StandsBy x n kind t children false = MismatchBy x n kind t children
StandsBy x n kind t children true = BadCallBy x n kind

-- the node of number n stands as a bad call, or else as a mismatch
abbrev pub Stands : Solution → ℕ → Bool → Type 0
Stands x n call =
    (node : Node) × (node_at x.trees n ≡ Some node)
    × StandsBy x n node.kind (type_of x.trees.types node.ty.0) node.children call

-- by node, a mismatch first
abbrev pub IsBefore : Stop → Stop → Type 0
IsBefore one other =
    (one.node < other.node) ⊎ ((one.node ≡ other.node) × (one.call ≡ false) × (other.call ≡ true))

-- the list has each node under each reason for which it stands, nothing else, each once and in order
pub record AreStops (x : Solution) (stops : List Stop) : Type 0 where
  pub listed : (stop : Stop) → Contains stops stop ↔ Stands x stop.node stop.call
  pub ordered : AllPairs IsBefore stops

-- the same of the nodes below a number
pub record AreStopsBelow (x : Solution) (count : ℕ) (stops : List Stop) : Type 0 where
  pub listed : (stop : Stop) → Contains stops stop ↔ ((stop.node < count) × Stands x stop.node stop.call)
  pub ordered : AllPairs IsBefore stops

abbrev pub stop_if : Bool → ℕ → Bool → List Stop
stop_if stands n call = if stands then record { node = n; call = call } ∷ [] else []

-- the stops of one node
abbrev pub stops_at : ℕ → Bool → Bool → List Stop
stops_at n mismatch bad = stop_if mismatch n false ++ stop_if bad n true
