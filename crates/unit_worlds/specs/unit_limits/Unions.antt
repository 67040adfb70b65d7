-- Which tags have as a member a structure that ends in an array without a length, or a union that has one.
use Rattle.std.specs.Prelude.{ℕ, ◌≡◌, ◌<◌, Bool, false, List, length, Option, get_or, slice_set}
use Rattle.c_types.specs.Trees.{Ctype, StructureOf, UnionOf}
use Rattle.c_types.specs.Table.{Table, members_in}
use Rattle.c_inits.specs.Made.{Part}
use Rattle.c_inits.specs.Tables.{parts_in}
use Rattle.c_senses.specs.Limits.{last_lacks_length, members_flexible, some_flexible}

-- the members of a tag, with their types
abbrev pub members_at : Table → ℕ → Option (List Part)
members_at types tag = parts_in types (members_in types tag)

-- a structure that ends in an array without a length, or a union that has one, by the flags of tags
abbrev pub is_open : (ℕ → Option (List Part)) → List Bool → Ctype → Bool
is_open members unions (StructureOf tag) = members_flexible last_lacks_length (members tag)
is_open members unions (UnionOf tag) = get_or unions tag false
is_open members unions t = false

abbrev pub has_open : (ℕ → Option (List Part)) → List Bool → ℕ → Bool
has_open members unions tag = members_flexible (some_flexible (is_open members unions)) (members tag)

-- each tag's flag is what its members say
pub record AreUnions (types : Table) (unions : List Bool) : Type 0 where
  pub long : length unions ≡ types.tags
  pub each : (tag : ℕ) → get_or unions tag false ≡ has_open (members_at types) unions tag

-- the flag of one tag is noted, by its members and the flags before
pub record IsNoted (types : Table) (old new : List Bool) (tag : ℕ) : Type 0 where
  pub below : tag < types.tags
  pub noted : new ≡ slice_set old tag (has_open (members_at types) old tag)
