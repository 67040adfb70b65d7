-- A small table stays small, and what it has is within the limits.
use Rattle.std.specs.Prelude.{ℕ, ◌≡◌, ◌<◌, Bool, true, List, [], length, All, Some, is_some}
use Rattle.core_tree.specs.declared.node.Unit.{Unit}
use Rattle.c_types.specs.Table.{Table, type_of}
use Rattle.c_types.specs.Made.{IsMade, AreNamed}
use Rattle.c_inits.specs.Made.{Part}
use Rattle.c_senses.specs.World.{World}
use Rattle.c_senses.specs.Limits.{within_limits}
use Rattle.c_results.specs.passed.core_nodes.Standing.{Builds, Knows}
use Rattle.c_results.specs.declared.made.Made.{Made}
use Rattle.c_results.specs.Standing.{IsWithin}
use Rattle.c_declarators.specs.Limited.{AreFlexible, IsAround}
use Rattle.unit_worlds.specs.Growing.{Completes}
use Rattle.unit_worlds.specs.unit_limits.Unions.{AreUnions}
use Rattle.unit_worlds.specs.unit_limits.Small.{IsSmallTable, AreSmallFrom, is_small_tag, tag_in}

-- a table without types is small
abbrev pub EmptyIsSmall : Type 0
EmptyIsSmall = (count : ℕ) → IsSmallTable (record { terms = []; tags = count; completed = [] })

-- so is one without complete structures and unions whose types are
abbrev pub OpenIsSmall : Type 0
OpenIsSmall =
    (types : Table)
    → IsMade types
    → AreNamed types
    → types.completed ≡ []
    → AreSmallFrom types 0
    → IsSmallTable types

-- so it is where its types are structures and unions alone
abbrev pub OpenTagsAreSmall : Type 0
OpenTagsAreSmall =
    (types : Table) → IsMade types → AreNamed types → types.completed ≡ []
    → ((id : ℕ) → id < length types.terms → is_some (tag_in (type_of types id)) ≡ true) → IsSmallTable types

-- each type of a small table is within the limits of a world that its unit knows
abbrev pub TypesAreLimited : Type 0
TypesAreLimited =
    (w : World) (u : Unit) → IsSmallTable u.types → Knows w u → (id : ℕ) → id < length u.types.terms
    → within_limits w (type_of u.types id) ≡ true

-- the flags of a table's tags are those of a world that its unit knows
abbrev pub UnionsAreFlexible : Type 0
UnionsAreFlexible =
    (w : World) (u : Unit) (unions : List Bool)
    → IsMade u.types
    → AreNamed u.types
    → Knows w u
    → AreUnions u.types unions
    → AreFlexible w unions

-- around a row whose results stand in such a unit, types may be made
abbrev pub ResultsAreAround : Type 0
ResultsAreAround =
    (w : World) (u : Unit) (unions : List Bool) (results : List Made)
    → IsSmallTable u.types
    → AreUnions u.types unions
    → Knows w u
    → All (IsWithin u) results
    → IsAround w u unions results

-- a unit is built on
abbrev pub BuildingKeepsUnions : Type 0
BuildingKeepsUnions =
    (old new : Unit) (unions : List Bool) → Builds old new → AreUnions old.types unions → AreUnions new.types unions

-- a unit is built on, and its new types are small
abbrev pub BuildingStaysSmall : Type 0
BuildingStaysSmall =
    (old new : Unit) → IsMade new.types → AreNamed new.types → Builds old new
    → AreSmallFrom new.types (length old.types.terms) → IsSmallTable old.types → IsSmallTable new.types

-- a tag is completed, and the structure or union of the tag is small, as the new types are
abbrev pub CompletingStaysSmall : Type 0
CompletingStaysSmall =
    (old new : Unit) (tag : ℕ) (parts : List Part) (id : ℕ) → IsMade new.types → AreNamed new.types
    → Completes old new tag parts → AreSmallFrom new.types (length old.types.terms)
    → id < length new.types.terms → tag_in (type_of new.types id) ≡ Some tag
    → is_small_tag new.types (type_of new.types id) ≡ true → IsSmallTable old.types → IsSmallTable new.types
