-- The types of all units in one table.
use Rattle.std.specs.Prelude.{ℕ, ◌≡◌, ◌+◌, ◌<◌, ◌≤◌, Bool, List, Some, length, take, sum_by, slice_get, slice_index}
use Rattle.std.specs.Prelude.{slice_range}
use Rattle.c_types.specs.Table.{Table}
use Rattle.core_tree.specs.declared.node.Unit.{Unit}
use Rattle.link_model.specs.Merged.{Numbering}
use Rattle.link_model.specs.link_types.Moved.{Keyed, HasTypes}

-- how many types the units before one have
abbrev pub types_before : List Unit → ℕ → ℕ
types_before units u = sum_by (λ x. length x.types.terms) (take u units)

-- the number of a unit's tag, where the numbers of unit u's tags stand between two places
abbrev pub tag_in : List ℕ → List ℕ → ℕ → ℕ → ℕ
tag_in starts numbers u tag =
    slice_index (slice_range numbers (slice_index starts u) (slice_index starts (u + 1))) tag

-- The numbers of types and tags: the types of a unit stand behind those of the units before.
abbrev pub numbering : List Unit → List ℕ → List ℕ → Numbering
numbering units starts numbers = record { type = λ u i. types_before units u + i; tag = tag_in starts numbers }

-- the numbers of each unit's tags have a place for each of its tags
pub record AreStarts (units : List Unit) (starts : List ℕ) (count : ℕ) : Type 0 where
  pub all : length starts ≡ length units + 1
  pub each : (u : ℕ) (x : Unit)
      → slice_get units u ≡ Some x
      → slice_index starts u + x.types.tags ≡ slice_index starts (u + 1)
  pub within : (u : ℕ) → u < length units → slice_index starts (u + 1) ≤ count

-- tags of one number stand with one keyword
pub record AreKeyed (units : List Unit) (starts numbers : List ℕ) : Type 0 where
  pub keyword : ℕ → Bool
  pub each : (u : ℕ) (x : Unit)
      → slice_get units u ≡ Some x
      → Keyed (λ k. keyword (tag_in starts numbers u k)) x.types.terms

-- the table has the types of the first so many units, in order
pub record AreJoined (units : List Unit) (starts numbers : List ℕ) (table : Table) (upto : ℕ) : Type 0 where
  pub count : length table.terms ≡ types_before units upto
  pub within : (u : ℕ) (x : Unit)
      → u < upto
      → slice_get units u ≡ Some x
      → types_before units u + length x.types.terms ≤ length table.terms
  pub each : (u : ℕ) (x : Unit)
      → u < upto
      → slice_get units u ≡ Some x
      → HasTypes table x.types (types_before units u) (tag_in starts numbers u) (length x.types.terms)
