-- Inclusions between the sets of functions.
use Rattle.std.specs.Prelude.{◌≡◌, ◌≢◌, ◌↔◌, ◌⊎◌, ℕ, ◌*◌, ◌<◌, List, [], ◌∷◌, ◌++◌, Some, length, map, slice_get}
use Rattle.std.specs.Prelude.{All, Contains}
use Rattle.std.specs.List.{range_with_len}
use Rattle.sol_model.specs.declared.system.System.{System}
use Rattle.sol_model.specs.declared.system.Constraint.{Constraint}
use Rattle.sol_model.specs.declared.system.Constraint.TheVariants.{Copy}
use Rattle.sol_model.specs.declared.rows.Rows.{Rows}
use Rattle.sol_model.specs.Families.{Family, IsContained, IsInside, members}

-- pairs of a caller and a callee are kept by a family: the set of each callee is inside that of its caller
abbrev pub Keeps : Family → List (ℕ × ℕ) → Type 0
Keeps G edges = (caller callee : ℕ) → Contains edges (caller, callee) → IsContained G callee caller

-- the same of pairs that stand behind a key
abbrev pub KeepsKeyed : Family → List (ℕ × ℕ × ℕ) → Type 0
KeepsKeyed G ways = (key caller callee : ℕ) → Contains ways (key, caller, callee) → IsContained G callee caller

-- the families that keep these pairs are those that keep the edges
abbrev pub AreWays : List (ℕ × ℕ) → List (ℕ × ℕ × ℕ) → Type 0
AreWays edges ways = (G : Family) → Keeps G edges ↔ KeepsKeyed G ways

-- both numbers of each pair are below a bound
abbrev pub AreBelow : ℕ → List (ℕ × ℕ) → Type 0
AreBelow bound edges = All (λ edge. (edge.0 < bound) × (edge.1 < bound)) edges

abbrev pub AreKeyedBelow : ℕ → List (ℕ × ℕ × ℕ) → Type 0
AreKeyedBelow bound ways = All (λ way. (way.1 < bound) × (way.2 < bound)) ways

-- so many rows
abbrev pub HasRows : Rows → ℕ → Type 0
HasRows rows count = length rows.words ≡ count * rows.width

-- the rows have more, and nothing that a family that keeps the pairs, and that had all of the old rows, lacks
pub record Spreads (ways : List (ℕ × ℕ × ℕ)) (old new : Rows) : Type 0 where
  pub width : new.width ≡ old.width
  pub words : length new.words ≡ length old.words
  pub kept : IsInside (members old) (members new)
  pub below : (G : Family) → KeepsKeyed G ways → IsInside (members old) G → IsInside (members new) G

-- for each function one of those with which it has equal sets, in each family that keeps the edges
pub record AreOneSet (functions : ℕ) (edges : List (ℕ × ℕ)) (first : List ℕ) : Type 0 where
  pub count : length first ≡ functions
  pub known : (f one : ℕ) → slice_get first f ≡ Some one → one < functions
  pub equal : (G : Family)
      → Keeps G edges
      → (f one location : ℕ)
      → slice_get first f ≡ Some one
      → G f location ≡ G one location

-- the pairs that edges make of these, each two functions of two sets
pub record AreClassEdges (edges : List (ℕ × ℕ)) (first : List ℕ) (made : List (ℕ × ℕ)) : Type 0 where
  pub from_edge : (a b : ℕ)
      → Contains made (a, b)
      → (caller : ℕ) × (callee : ℕ) × Contains edges (caller, callee) × (slice_get first caller ≡ Some a)
      × (slice_get first callee ≡ Some b)
  pub each : (caller callee a b : ℕ)
      → Contains edges (caller, callee)
      → slice_get first caller ≡ Some a
      → slice_get first callee ≡ Some b
      → (a ≡ b) ⊎ Contains made (a, b)

-- a list has more pairs behind keys: those of a relation
pub record AddsWays (old new : List (ℕ × ℕ × ℕ)) (Way : ℕ → ℕ → Type 0) : Type 0 where
  pub kept : (way : ℕ × ℕ × ℕ) → Contains old way → Contains new way
  pub added : (a b : ℕ) → Way a b → (key : ℕ) × Contains new (key, a, b)
  pub nothing_else : (key a b : ℕ) → Contains new (key, a, b) → Contains old (key, a, b) ⊎ Way a b

-- two functions, one of which stands for the class of the other
abbrev pub IsMember : List ℕ → ℕ → ℕ → Type 0
IsMember first a b = (a ≢ b) × ((slice_get first b ≡ Some a) ⊎ (slice_get first a ≡ Some b))

-- one of these pairs
abbrev pub IsBetween : List (ℕ × ℕ) → ℕ → ℕ → Type 0
IsBetween made a b = Contains made (a, b)

-- a pair of two functions was added to a list, or nothing where they are one
abbrev pub AddsPair : List (ℕ × ℕ) → List (ℕ × ℕ) → ℕ → ℕ → Type 0
AddsPair old new a b = ((a ≡ b) × (new ≡ old)) ⊎ ((a ≢ b) × (new ≡ old ++ (a, b) ∷ []))

-- the pairs of a function with the one that stands for its class were added, or nothing where they are one
abbrev pub AddsBoth : List (ℕ × ℕ × ℕ) → List (ℕ × ℕ × ℕ) → ℕ → ℕ → Type 0
AddsBoth old new one f =
    ((one ≡ f) × (new ≡ old))
    ⊎ ((one ≢ f) × ((low : ℕ) × (high : ℕ) × (new ≡ (old ++ (low, one, f) ∷ []) ++ (high, f, one) ∷ [])))

-- ---- the system of the graph
-- a copy from a row to itself, and one from the callee of an edge to its caller
abbrev pub own_copy : ℕ → Constraint
own_copy row = Copy row row

abbrev pub call_copy : ℕ × ℕ → Constraint
call_copy edge = Copy edge.1 edge.0

-- a row for each function, and copies alone
pub record IsGraphSystem (count : ℕ) (edges : List (ℕ × ℕ)) (system : System) : Type 0 where
  pub rows : system.rows ≡ count
  pub locations : system.locations ≡ []
  pub types : system.types ≡ []
  pub constraints : system.constraints ≡ map own_copy (range_with_len 0 count) ++ map call_copy edges
  pub calls : system.calls ≡ []
  pub functions : system.functions ≡ []
