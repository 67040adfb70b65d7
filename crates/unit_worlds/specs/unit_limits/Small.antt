-- What a table of types keeps, so that each of its types is within the limits.
use Rattle.std.specs.Prelude.{ℕ, ◌≡◌, ◌<◌, ◌≤◌, Bool, true, ◌&&◌, List, [], ◌∷◌, length, Option, Some, None}
use Rattle.std.specs.Prelude.{is_some}
use Rattle.c_types.specs.declared.term.TypeId.{TypeId}
use Rattle.c_types.specs.Trees.{Ctype, ArrayOf, StructureOf, UnionOf}
use Rattle.c_types.specs.Layout.{Extent}
use Rattle.c_types.specs.Table.{Table, type_of, extent_in}
use Rattle.c_types.specs.Made.{IsMade, AreNamed}
use Rattle.c_inits.specs.Made.{TagParts}
use Rattle.c_senses.specs.Limits.{is_small}

-- an array's element has a size
abbrev pub has_element : (Ctype → Option Extent) → Ctype → Bool
has_element extents (ArrayOf of n) = is_some (extents of)
has_element extents t = true

-- a type that is small, and stays so while structures and unions are completed
abbrev pub stays_small : (Ctype → Option Extent) → Ctype → Bool
stays_small extents t = is_small (extents t) && has_element extents t

-- the tag of a structure or union
abbrev pub tag_in : Ctype → Option ℕ
tag_in (StructureOf tag) = Some tag
tag_in (UnionOf tag) = Some tag
tag_in t = None

-- each of its types is small and stays so
pub record IsSmallTable (types : Table) : Type 0 where
  pub made : IsMade types
  pub named : AreNamed types
  pub small : (id : ℕ) → id < length types.terms → stays_small (extent_in types) (type_of types id) ≡ true

-- so it is of the types from a number on
pub record AreSmallFrom (types : Table) (from : ℕ) : Type 0 where
  pub each : (id : ℕ)
      → from ≤ id
      → id < length types.terms
      → stays_small (extent_in types) (type_of types id) ≡ true

-- so it is of one type
abbrev pub is_small_tag : Table → Ctype → Bool
is_small_tag types t = is_small (extent_in types t)

-- the type of what a node completes, if it completes a structure or union
abbrev pub is_small_completed : Table → Option TypeId → Bool
is_small_completed types None = true
is_small_completed types (Some ty) = is_small_tag types (type_of types ty.0)

abbrev pub IsTypeOf : Table → Option TypeId → List TagParts → Type 0
IsTypeOf types completed [] = Unit {0}
IsTypeOf types None (c ∷ rest) = ⊥
IsTypeOf types (Some ty) (c ∷ rest) = tag_in (type_of types ty.0) ≡ Some c.tag
