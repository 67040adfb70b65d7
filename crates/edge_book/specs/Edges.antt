-- Books of edges, and the edges that one constraint demands for one member of a row.
use Rattle.std.specs.Prelude.{◌≡◌, ◌≢◌, ℕ, ◌+◌, ◌==◌, ◌&&◌, ◌⊎◌, ◌↔◌, Bool, not, List, ◌++◌, length, filter, take}
use Rattle.std.specs.Prelude.{AllPairs, Contains}
use Rattle.std.specs.List.{list_any}
use Rattle.std.specs.List.Sorted.{IsStrictlySortedBy}
use Rattle.std.specs.Ordering.{ordering_then, nat_cmp}
use Rattle.std.specs.declared.cmp.Ordering.{Ordering}
use Rattle.sol_model.specs.declared.system.System.{System}
use Rattle.sol_model.specs.declared.system.Constraint.{Constraint}
use Rattle.sol_model.specs.Families.{Family}
use Rattle.sol_model.specs.Rules.{DemandsEdge}

-- no edge stands twice
abbrev pub AreApart : List (ℕ × ℕ) → Type 0
AreApart edges = AllPairs (λ one other. one ≢ other) edges

-- the one fact that a row has a location
abbrev pub only : ℕ → ℕ → Family
only row location = λ r l. (r == row) && (l == location)

-- two pairs have the same numbers
abbrev pub same_pair : ℕ × ℕ → ℕ × ℕ → Bool
same_pair one other = (one.0 == other.0) && (one.1 == other.1)

-- pairs in order of their first numbers, and those with the same first number in order of their second
abbrev pub pair_order : ℕ × ℕ → ℕ × ℕ → Ordering
pair_order one other = ordering_then (nat_cmp one.0 other.0) (nat_cmp one.1 other.1)

-- the pairs of rows that the rule of a constraint demands of a family, each once and in order
pub record ArePairsOf (S : System) (F : Family) (constraint : Constraint) (pairs : List (ℕ × ℕ)) : Type 0 where
  pub all : (a b : ℕ) → Contains pairs (a, b) ↔ DemandsEdge S F constraint a b
  pub order : IsStrictlySortedBy pair_order pairs

-- the edges of a book, followed by those pairs that it doesn't have
abbrev pub with_pairs : List (ℕ × ℕ) → List (ℕ × ℕ) → List (ℕ × ℕ)
with_pairs book pairs = book ++ filter (λ pair. not (list_any (same_pair pair) book)) pairs

-- a book took in the pairs that the rule of a constraint demands of a family, and so many of them were new
pub record TakesPairs (S : System) (F : Family) (constraint : Constraint) (old new : List (ℕ × ℕ))
    (count : ℕ) : Type 0 where
  pub pairs : List (ℕ × ℕ)
  pub demanded : ArePairsOf S F constraint pairs
  pub book : new ≡ with_pairs old pairs
  pub counted : length new ≡ length old + count

-- a book took in the first of these pairs, up to one of them
pub record TakesFirst (S : System) (F : Family) (constraint : Constraint) (old new : List (ℕ × ℕ)) : Type 0 where
  pub pairs : List (ℕ × ℕ)
  pub demanded : ArePairsOf S F constraint pairs
  pub count : ℕ
  pub book : new ≡ with_pairs old (take count pairs)

-- it stayed as it was, or took in the first of these pairs
abbrev pub StaysOrTakesFirst : System → Family → Constraint → List (ℕ × ℕ) → List (ℕ × ℕ) → Type 0
StaysOrTakesFirst S F constraint old new = (new ≡ old) ⊎ TakesFirst S F constraint old new

-- a set of pairs got those that are edges of one kind, and no others
abbrev pub Gains : List (ℕ × ℕ) → List (ℕ × ℕ) → (ℕ → ℕ → Type 0) → Type 0
Gains old new Edge = (a b : ℕ) → Contains new (a, b) ↔ (Contains old (a, b) ⊎ Edge a b)
