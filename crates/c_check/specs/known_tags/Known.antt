-- What the known declarations of a unit say of its entities and tags.
use Rattle.std.specs.Prelude.{ℕ, ◌≡◌, ◌<◌, ◌==◌, Bool, List, [], ◌∷◌, length, Option, Some, None, if◌then◌else◌}
use Rattle.c_types.specs.Trees.{Ctype}
use Rattle.c_types.specs.Table.{Table, type_of, IsNowhere}
use Rattle.c_inits.specs.Tables.{tagged}
use Rattle.c_check.specs.declared.known_tags.known.Meaning.{Meaning}
use Rattle.c_check.specs.declared.known_tags.known.Meaning.TheVariants.{Entity, Tag}

-- what the first entry of a declaration says
abbrev pub known_at : List (ℕ × Meaning) → ℕ → Option Meaning
known_at [] node = None
known_at (k ∷ rest) node = if k.0 == node then Some k.1 else known_at rest node

-- the number of an entity, and that of a tag
abbrev pub entity_in : Option Meaning → Option ℕ
entity_in (Some (Entity e)) = Some e
entity_in m = None

abbrev pub tag_in : Option Meaning → Option ℕ
tag_in (Some (Tag t)) = Some t
tag_in m = None

abbrev pub entity_known : List (ℕ × Meaning) → ℕ → Option ℕ
entity_known list leaf = entity_in (known_at list leaf)

abbrev pub tag_known : List (ℕ × Meaning) → ℕ → Option ℕ
tag_known list node = tag_in (known_at list node)

-- a table has a type
pub record HasType (table : Table) (t : Ctype) : Type 0 where
  pub id : ℕ
  pub few : id < length table.terms
  pub is : type_of table id ≡ t

-- the type of a structure or union by the number of its tag, exactly where the tag has one and a table has the type
abbrev pub IsTagType : Table → Bool → Option ℕ → Option Ctype → Type 0
IsTagType table is_union None type = type ≡ None
IsTagType table is_union (Some t) None = IsNowhere table (tagged is_union t)
IsTagType table is_union (Some t) (Some type) = (type ≡ tagged is_union t) × HasType table (tagged is_union t)
